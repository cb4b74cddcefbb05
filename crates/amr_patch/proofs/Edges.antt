-- The fluxes through the faces on the edges of a patch, and what a write of one leaves.
use Rattle.std.proofs.Common.{◌≡◌, ◌≢◌, ◌∙◌, ℕ, ◌<◌, ◌⊎◌, inl, inr, Bool, true, false, ◌||◌, cond, ℤ, pos, ◌+ℤ◌, ◌-ℤ◌, ◌≤ℤ◌, List, length, refl, sym, ap, arith}
use Rattle.std.specs.Prelude.{slice_index_or, slice_set}
use Rattle.std.specs.Ordering.{int_eq}
use Rattle.std.proofs.lemmas.Bool.{and_parts}
use Rattle.std.proofs.lemmas.Int.{ints}
use Rattle.std.proofs.lemmas.List.{get_or-set_other, get_or-set_same}
use Rattle.amr_box.specs.declared.Cell.{Cell}
use Rattle.amr_box.specs.declared.Face.{Face}
use Rattle.amr_box.specs.declared.Axis.{Axis}
use Rattle.amr_box.specs.declared.Axis.TheVariants.{X, Y}
use Rattle.amr_box.specs.Cells.{Extent, at_least_zero, cell, height, width, within}
use Rattle.amr_box.proofs.CellEquality.{same_number}
use Rattle.amr_box.proofs.CellLists.{int_eq-apart, int_eq-itself}
use Rattle.amr_patch.specs.declared.patches.Patch.{Patch}
use Rattle.amr_patch.specs.Places.{column_of, is_edge_face, is_end, on_edge, row_of}
use Rattle.amr_patch.specs.Patches.{HasNoFluxes, SameFluxes, flux_along, flux_in}
use Rattle.amr_patch.proofs.Rows.{between}
use Rattle.amr_patch.proofs.Entries.{same_cut}

-- ---- faces on edges

pub at_end : (low high z : ℤ) → is_end low high z ≡ true → (z ≡ low) ⊎ (z ≡ high +ℤ pos 1)
at_end low high z e = cases (int_eq z low) refl
  where
    cases : (t : Bool) → int_eq z low ≡ t → (z ≡ low) ⊎ (z ≡ high +ℤ pos 1)
    cases true f = inl (same_number z low f)
    cases false f = inr (same_number z (high +ℤ pos 1) (ap (λ (t : Bool). t || int_eq z (high +ℤ pos 1)) (sym f) ∙ e))

-- at the high end, where not at the low one
pub at_high : (low high z : ℤ) → is_end low high z ≡ true → int_eq z low ≡ false → z ≡ high +ℤ pos 1
at_high low high z e f = same_number z (high +ℤ pos 1) (ap (λ (t : Bool). t || int_eq z (high +ℤ pos 1)) (sym f) ∙ e)

-- a face on an edge lies in a row or a column of the box
pub record IsOnEdge (low high first last z across : ℤ) : Type 0 where
  pub from : low ≤ℤ z
  pub to : z ≤ℤ high
  pub ends : is_end first last across ≡ true

pub x_edge : (b : Extent) (c : Cell) → on_edge X b c ≡ true → IsOnEdge b.lo.y b.hi.y b.lo.x b.hi.x c.y c.x
x_edge b c e =
    let t : (within b.lo.y b.hi.y c.y ≡ true) × (is_end b.lo.x b.hi.x c.x ≡ true) = and_parts (within b.lo.y b.hi.y c.y) (is_end b.lo.x b.hi.x c.x) e in
    let h = between b.lo.y b.hi.y c.y t.0 in
    record { from = h.from; to = h.to; ends = t.1 }

pub y_edge : (b : Extent) (c : Cell) → on_edge Y b c ≡ true → IsOnEdge b.lo.x b.hi.x b.lo.y b.hi.y c.x c.y
y_edge b c e =
    let t : (within b.lo.x b.hi.x c.x ≡ true) × (is_end b.lo.y b.hi.y c.y ≡ true) = and_parts (within b.lo.x b.hi.x c.x) (is_end b.lo.y b.hi.y c.y) e in
    let h = between b.lo.x b.hi.x c.x t.0 in
    record { from = h.from; to = h.to; ends = t.1 }

-- ---- fluxes read

abbrev pub x_entry : Bool → Patch → Cell → ℤ
x_entry low p c = cond low (slice_index_or p.data.value.x_low.items (row_of p.bx c) (pos 0)) (slice_index_or p.data.value.x_high.items (row_of p.bx c) (pos 0))

abbrev pub y_entry : Bool → Patch → Cell → ℤ
y_entry low p c = cond low (slice_index_or p.data.value.y_low.items (column_of p.bx c) (pos 0)) (slice_index_or p.data.value.y_high.items (column_of p.bx c) (pos 0))

-- the flux through an x face on the edge at the low side (low is true) or at the high side of the box
pub flux_x : (p : Patch) (f : Face) (low : Bool) → f.axis ≡ X → int_eq f.x p.bx.lo.x ≡ low → flux_in p f ≡ x_entry low p (cell f.x f.y)
unfolding flux_in
flux_x p f low a e = ap (λ (t : Axis). flux_along t p (cell f.x f.y)) a ∙ ap (λ (t : Bool). x_entry t p (cell f.x f.y)) e

pub flux_y : (p : Patch) (f : Face) (low : Bool) → f.axis ≡ Y → int_eq f.y p.bx.lo.y ≡ low → flux_in p f ≡ y_entry low p (cell f.x f.y)
unfolding flux_in
flux_y p f low a e = ap (λ (t : Axis). flux_along t p (cell f.x f.y)) a ∙ ap (λ (t : Bool). y_entry t p (cell f.x f.y)) e

-- the same by where the face lies
pub flux_x_low : (p : Patch) (f : Face) → f.axis ≡ X → f.x ≡ p.bx.lo.x → flux_in p f ≡ slice_index_or p.data.value.x_low.items (row_of p.bx (cell f.x f.y)) (pos 0)
flux_x_low p f a e = flux_x p f true a (int_eq-itself f.x p.bx.lo.x e)

pub flux_x_high : (p : Patch) (f : Face) → f.axis ≡ X → f.x ≡ p.bx.hi.x +ℤ pos 1 → flux_in p f ≡ slice_index_or p.data.value.x_high.items (row_of p.bx (cell f.x f.y)) (pos 0)
flux_x_high p f a e = flux_x p f false a (int_eq-apart f.x p.bx.lo.x (λ g. let w = p.near.wide in absurd (omega (arith, ints, w, e, g))))

pub flux_y_low : (p : Patch) (f : Face) → f.axis ≡ Y → f.y ≡ p.bx.lo.y → flux_in p f ≡ slice_index_or p.data.value.y_low.items (column_of p.bx (cell f.x f.y)) (pos 0)
flux_y_low p f a e = flux_y p f true a (int_eq-itself f.y p.bx.lo.y e)

pub flux_y_high : (p : Patch) (f : Face) → f.axis ≡ Y → f.y ≡ p.bx.hi.y +ℤ pos 1 → flux_in p f ≡ slice_index_or p.data.value.y_high.items (column_of p.bx (cell f.x f.y)) (pos 0)
flux_y_high p f a e = flux_y p f false a (int_eq-apart f.y p.bx.lo.y (λ g. let w = p.near.high in absurd (omega (arith, ints, w, e, g))))

-- where each edge has fluxes of 0
pub nothing_flows : (p : Patch) → ((k : ℕ) → slice_index_or p.data.value.x_low.items k (pos 0) ≡ pos 0) → ((k : ℕ) → slice_index_or p.data.value.x_high.items k (pos 0) ≡ pos 0) → ((k : ℕ) → slice_index_or p.data.value.y_low.items k (pos 0) ≡ pos 0) → ((k : ℕ) → slice_index_or p.data.value.y_high.items k (pos 0) ≡ pos 0) → HasNoFluxes p
unfolding flux_in
nothing_flows p xl xh yl yh f = cases f.axis
  where
    one : (t : Bool) (a b : ℤ) → a ≡ pos 0 → b ≡ pos 0 → cond t a b ≡ pos 0
    one true a b e g = e
    one false a b e g = g

    cases : (axis : Axis) → flux_along axis p (cell f.x f.y) ≡ pos 0
    cases X = one (int_eq f.x p.bx.lo.x) _ _ (xl (row_of p.bx (cell f.x f.y))) (xh (row_of p.bx (cell f.x f.y)))
    cases Y = one (int_eq f.y p.bx.lo.y) _ _ (yl (column_of p.bx (cell f.x f.y))) (yh (column_of p.bx (cell f.x f.y)))

-- a patch that keeps the lists of its edges keeps its fluxes
pub kept_edges : (p q : Patch) → q.bx ≡ p.bx → q.data.value.x_low.items ≡ p.data.value.x_low.items → q.data.value.x_high.items ≡ p.data.value.x_high.items → q.data.value.y_low.items ≡ p.data.value.y_low.items → q.data.value.y_high.items ≡ p.data.value.y_high.items → SameFluxes p q
unfolding flux_in
kept_edges p q b xl xh yl yh f = cases f.axis
  where
    cases : (axis : Axis) → flux_along axis q (cell f.x f.y) ≡ flux_along axis p (cell f.x f.y)
    cases X = λ i. cond (int_eq f.x (b i).lo.x) (slice_index_or (xl i) (row_of (b i) (cell f.x f.y)) (pos 0)) (slice_index_or (xh i) (row_of (b i) (cell f.x f.y)) (pos 0))
    cases Y = λ i. cond (int_eq f.y (b i).lo.y) (slice_index_or (yl i) (column_of (b i) (cell f.x f.y)) (pos 0)) (slice_index_or (yh i) (column_of (b i) (cell f.x f.y)) (pos 0))

-- ---- a flux written

pub same_faces : (f g : Face) → f.axis ≡ g.axis → f.x ≡ g.x → f.y ≡ g.y → f ≡ g
same_faces f g e h k = λ i. record { axis = e i; x = h i; y = k i }

-- two faces of one edge that stand at one place are one face
same_end : (first last y z : ℤ) (t : Bool) → int_eq y first ≡ t → int_eq z first ≡ t → is_end first last y ≡ true → is_end first last z ≡ true → y ≡ z
same_end first last y z true e f h k = same_number y first e ∙ sym (same_number z first f)
same_end first last y z false e f h k = at_high first last y h e ∙ sym (at_high first last z k f)

same_offset : (low y z : ℤ) → low ≤ℤ y → low ≤ℤ z → at_least_zero (y -ℤ low) ≡ at_least_zero (z -ℤ low) → y ≡ z
same_offset low y z h k e = let d : y -ℤ low ≡ z -ℤ low = same_cut (y -ℤ low) (z -ℤ low) (omega (arith, ints)) (omega (arith, ints)) e in omega (arith, ints, d)

-- of two lists one, by s, was written at a place, and is read there
written : (s u : Bool) (xs ys : List ℤ) (k : ℕ) (v : ℤ) → u ≡ s → k < length xs → k < length ys
    → cond u (slice_index_or (cond s (slice_set xs k v) xs) k (pos 0)) (slice_index_or (cond s ys (slice_set ys k v)) k (pos 0)) ≡ v
written true true xs ys k v e lt l = get_or-set_same xs k v (pos 0) lt
written true false xs ys k v e lt l = absurd (cc)
written false true xs ys k v e lt l = absurd (cc)
written false false xs ys k v e lt l = get_or-set_same ys k v (pos 0) l

-- the face has what was written
pub set_x : (p q : Patch) (f : Face) (v : ℤ) (s : Bool) → f.axis ≡ X → int_eq f.x p.bx.lo.x ≡ s → q.bx ≡ p.bx
    → q.data.value.x_low.items ≡ cond s (slice_set p.data.value.x_low.items (row_of p.bx (cell f.x f.y)) v) p.data.value.x_low.items
    → q.data.value.x_high.items ≡ cond s p.data.value.x_high.items (slice_set p.data.value.x_high.items (row_of p.bx (cell f.x f.y)) v)
    → row_of p.bx (cell f.x f.y) < height p.bx → flux_in q f ≡ v
unfolding flux_in
set_x p q f v s a at eb low high lt =
    ap (λ (t : Axis). flux_along t q (cell f.x f.y)) a
    ∙ (λ i. cond (int_eq f.x (eb i).lo.x) (slice_index_or (low i) (row_of (eb i) (cell f.x f.y)) (pos 0)) (slice_index_or (high i) (row_of (eb i) (cell f.x f.y)) (pos 0)))
    ∙ written s (int_eq f.x p.bx.lo.x) p.data.value.x_low.items p.data.value.x_high.items (row_of p.bx (cell f.x f.y)) v at (omega (arith, lt, p.x_low_count)) (omega (arith, lt, p.x_high_count))

pub set_y : (p q : Patch) (f : Face) (v : ℤ) (s : Bool) → f.axis ≡ Y → int_eq f.y p.bx.lo.y ≡ s → q.bx ≡ p.bx
    → q.data.value.y_low.items ≡ cond s (slice_set p.data.value.y_low.items (column_of p.bx (cell f.x f.y)) v) p.data.value.y_low.items
    → q.data.value.y_high.items ≡ cond s p.data.value.y_high.items (slice_set p.data.value.y_high.items (column_of p.bx (cell f.x f.y)) v)
    → column_of p.bx (cell f.x f.y) < width p.bx → flux_in q f ≡ v
unfolding flux_in
set_y p q f v s a at eb low high lt =
    ap (λ (t : Axis). flux_along t q (cell f.x f.y)) a
    ∙ (λ i. cond (int_eq f.y (eb i).lo.y) (slice_index_or (low i) (column_of (eb i) (cell f.x f.y)) (pos 0)) (slice_index_or (high i) (column_of (eb i) (cell f.x f.y)) (pos 0)))
    ∙ written s (int_eq f.y p.bx.lo.y) p.data.value.y_low.items p.data.value.y_high.items (column_of p.bx (cell f.x f.y)) v at (omega (arith, lt, p.y_low_count)) (omega (arith, lt, p.y_high_count))

-- an entry of two lists of which one, by s, was written at a place
picked : (s u : Bool) (xs ys : List ℤ) (k r : ℕ) (v : ℤ) → (u ≡ s → k ≡ r → ⊥)
    → cond u (slice_index_or (cond s (slice_set xs k v) xs) r (pos 0)) (slice_index_or (cond s ys (slice_set ys k v)) r (pos 0)) ≡ cond u (slice_index_or xs r (pos 0)) (slice_index_or ys r (pos 0))
picked true true xs ys k r v n = get_or-set_other xs k r v (pos 0) (λ f. n refl (sym f))
picked true false xs ys k r v n = refl
picked false true xs ys k r v n = refl
picked false false xs ys k r v n = get_or-set_other ys k r v (pos 0) (λ f. n refl (sym f))

-- the flux of an x face was set, on the edge at the low side where s is true
pub other_x : (p q : Patch) (f g : Face) (v : ℤ) (s : Bool) → f.axis ≡ X → int_eq f.x p.bx.lo.x ≡ s → q.bx ≡ p.bx
    → q.data.value.x_low.items ≡ cond s (slice_set p.data.value.x_low.items (row_of p.bx (cell f.x f.y)) v) p.data.value.x_low.items
    → q.data.value.x_high.items ≡ cond s p.data.value.x_high.items (slice_set p.data.value.x_high.items (row_of p.bx (cell f.x f.y)) v)
    → q.data.value.y_low.items ≡ p.data.value.y_low.items → q.data.value.y_high.items ≡ p.data.value.y_high.items
    → is_edge_face p.bx f ≡ true → is_edge_face p.bx g ≡ true → g ≢ f → flux_in q g ≡ flux_in p g
unfolding flux_in
other_x p q f g v s a at eb low high other_low other_high h k n = cases g.axis refl
  where
    apart : X ≡ g.axis → int_eq g.x p.bx.lo.x ≡ s → row_of p.bx (cell f.x f.y) ≡ row_of p.bx (cell g.x g.y) → ⊥
    apart e l r =
        let of_f = x_edge p.bx (cell f.x f.y) (ap (λ (t : Axis). on_edge t p.bx (cell f.x f.y)) (sym a) ∙ h) in
        let of_g = x_edge p.bx (cell g.x g.y) (ap (λ (t : Axis). on_edge t p.bx (cell g.x g.y)) e ∙ k) in
        let same_x : g.x ≡ f.x = same_end p.bx.lo.x p.bx.hi.x g.x f.x s l at of_g.ends of_f.ends in
        let same_y : g.y ≡ f.y = same_offset p.bx.lo.y g.y f.y of_g.from of_f.from (sym r) in
        n (same_faces g f (sym e ∙ sym a) same_x same_y)

    cases : (axis : Axis) → axis ≡ g.axis → flux_along axis q (cell g.x g.y) ≡ flux_along axis p (cell g.x g.y)
    cases Y e = λ i. cond (int_eq g.y (eb i).lo.y) (slice_index_or (other_low i) (column_of (eb i) (cell g.x g.y)) (pos 0)) (slice_index_or (other_high i) (column_of (eb i) (cell g.x g.y)) (pos 0))
    cases X e =
        (λ i. cond (int_eq g.x (eb i).lo.x) (slice_index_or (low i) (row_of (eb i) (cell g.x g.y)) (pos 0)) (slice_index_or (high i) (row_of (eb i) (cell g.x g.y)) (pos 0)))
        ∙ picked s (int_eq g.x p.bx.lo.x) p.data.value.x_low.items p.data.value.x_high.items (row_of p.bx (cell f.x f.y)) (row_of p.bx (cell g.x g.y)) v (apart e)

-- the flux of a y face was set, on the edge at the low side where s is true
pub other_y : (p q : Patch) (f g : Face) (v : ℤ) (s : Bool) → f.axis ≡ Y → int_eq f.y p.bx.lo.y ≡ s → q.bx ≡ p.bx
    → q.data.value.y_low.items ≡ cond s (slice_set p.data.value.y_low.items (column_of p.bx (cell f.x f.y)) v) p.data.value.y_low.items
    → q.data.value.y_high.items ≡ cond s p.data.value.y_high.items (slice_set p.data.value.y_high.items (column_of p.bx (cell f.x f.y)) v)
    → q.data.value.x_low.items ≡ p.data.value.x_low.items → q.data.value.x_high.items ≡ p.data.value.x_high.items
    → is_edge_face p.bx f ≡ true → is_edge_face p.bx g ≡ true → g ≢ f → flux_in q g ≡ flux_in p g
unfolding flux_in
other_y p q f g v s a at eb low high other_low other_high h k n = cases g.axis refl
  where
    apart : Y ≡ g.axis → int_eq g.y p.bx.lo.y ≡ s → column_of p.bx (cell f.x f.y) ≡ column_of p.bx (cell g.x g.y) → ⊥
    apart e l r =
        let of_f = y_edge p.bx (cell f.x f.y) (ap (λ (t : Axis). on_edge t p.bx (cell f.x f.y)) (sym a) ∙ h) in
        let of_g = y_edge p.bx (cell g.x g.y) (ap (λ (t : Axis). on_edge t p.bx (cell g.x g.y)) e ∙ k) in
        let same_y : g.y ≡ f.y = same_end p.bx.lo.y p.bx.hi.y g.y f.y s l at of_g.ends of_f.ends in
        let same_x : g.x ≡ f.x = same_offset p.bx.lo.x g.x f.x of_g.from of_f.from (sym r) in
        n (same_faces g f (sym e ∙ sym a) same_x same_y)

    cases : (axis : Axis) → axis ≡ g.axis → flux_along axis q (cell g.x g.y) ≡ flux_along axis p (cell g.x g.y)
    cases X e = λ i. cond (int_eq g.x (eb i).lo.x) (slice_index_or (other_low i) (row_of (eb i) (cell g.x g.y)) (pos 0)) (slice_index_or (other_high i) (row_of (eb i) (cell g.x g.y)) (pos 0))
    cases Y e =
        (λ i. cond (int_eq g.y (eb i).lo.y) (slice_index_or (low i) (column_of (eb i) (cell g.x g.y)) (pos 0)) (slice_index_or (high i) (column_of (eb i) (cell g.x g.y)) (pos 0)))
        ∙ picked s (int_eq g.y p.bx.lo.y) p.data.value.y_low.items p.data.value.y_high.items (column_of p.bx (cell f.x f.y)) (column_of p.bx (cell g.x g.y)) v (apart e)
