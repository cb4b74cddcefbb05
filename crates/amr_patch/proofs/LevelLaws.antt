-- The masses of a list of patches: of blank ones, of copies, after a write.
use Rattle.std.proofs.Common.{◌≡◌, ◌≢◌, ◌∙◌, ℕ, zero, suc, ◌<◌, ◌⊎◌, inl, inr, Bool, true, false, ◌||◌, pos, ◌+ℤ◌, ◌-ℤ◌, List, [], ◌∷◌, ◌++◌, length, map, cond, refl, sym, ap, subst, arith}
use Rattle.std.specs.Prelude.{not, slice_index_or, slice_set, is_some}
use Rattle.std.specs.List.{All}
use Rattle.std.specs.declared.option.Option.{Option}
use Rattle.std.specs.declared.option.Option.TheVariants.{None, Some}
use Rattle.std.proofs.lemmas.Int.{ints}
use Rattle.std.proofs.lemmas.Bool.{and_parts, cases_eq}
use Rattle.std.proofs.lemmas.List.{get_or-set_same, get_or-set_other, length-set}
use Rattle.amr_box.specs.declared.Cell.{Cell}
use Rattle.amr_box.specs.Cells.{Extent, cell, holds, in_boxes}
use Rattle.amr_patch.specs.declared.patches.Patch.{Patch}
use Rattle.amr_patch.specs.Places.{grown}
use Rattle.amr_patch.specs.Pairwise.{Pairwise}
use Rattle.amr_patch.specs.Patches.{ArePairwiseApart, ArePatchesApart, HasNoFluxes, HasNoMarks, IsBlank, IsCopy, KeepsFrameAndFluxes, SameGhosts, SameOtherValues, box, in_patches, mass_in, masses_in}
use Rattle.amr_patch.specs.declared.lookup.Order.{Order}
use Rattle.amr_patch.specs.Orders.{AreBoxesInRows, AreInRows, IsHolder, IsOrderOf, comes_first}
use Rattle.amr_patch.proofs.Rows.{inside, is_inside}
use Rattle.amr_patch.proofs.Entries.{in_grown, in_the_frame}
use Rattle.amr_patch.proofs.Standing.{order_of_boxes}
use Rattle.amr_patch.proofs.Lookups.{holder, one_patch, masses_in-at, masses_in-none, same_default}

-- ---- lists of one length

pub pairwise_push : {A B : Type 0} (R : A → B → Type 0) (xs : List A) (ys : List B) (x : A) (y : B) → Pairwise R xs ys → R x y → Pairwise R (xs ++ x ∷ []) (ys ++ y ∷ [])
pairwise_push R [] [] x y h r = (r, tt)
pairwise_push R [] (b ∷ ys) x y h r = absurd h
pairwise_push R (a ∷ xs) [] x y h r = absurd h
pairwise_push R (a ∷ xs) (b ∷ ys) x y h r = (h.0, pairwise_push R xs ys x y h.1 r)

pub pairwise_length : {A B : Type 0} (R : A → B → Type 0) (xs : List A) (ys : List B) → Pairwise R xs ys → length ys ≡ length xs
pairwise_length R [] [] h = refl
pairwise_length R [] (b ∷ ys) h = absurd h
pairwise_length R (a ∷ xs) [] h = absurd h
pairwise_length R (a ∷ xs) (b ∷ ys) h = ap suc (pairwise_length R xs ys h.1)

pub pairwise_at : {A B : Type 0} (R : A → B → Type 0) (xs : List A) (ys : List B) (i : ℕ) (d : A) (e : B) → Pairwise R xs ys → i < length ys → R (slice_index_or xs i d) (slice_index_or ys i e)
pairwise_at R [] [] i d e h lt = absurd (omega arith)
pairwise_at R [] (b ∷ ys) i d e h lt = absurd h
pairwise_at R (a ∷ xs) [] i d e h lt = absurd h
pairwise_at R (a ∷ xs) (b ∷ ys) zero d e h lt = h.0
pairwise_at R (a ∷ xs) (b ∷ ys) (suc i) d e h lt = pairwise_at R xs ys i d e h.1 (omega arith)

-- ---- blank patches

pub blank_boxes : (bs : List Extent) (ps : List Patch) → Pairwise IsBlank bs ps → map box ps ≡ bs
blank_boxes [] [] h = refl
blank_boxes [] (p ∷ ps) h = absurd h
blank_boxes (b ∷ bs) [] h = absurd h
blank_boxes (b ∷ bs) (p ∷ ps) h = λ i. h.0.of_box i ∷ blank_boxes bs ps h.1 i

pub blank_masses : (bs : List Extent) (ps : List Patch) (c : Cell) → Pairwise IsBlank bs ps → masses_in ps c ≡ cond (in_boxes bs c) (Some 0) None
blank_masses [] [] c h = refl
blank_masses [] (p ∷ ps) c h = absurd h
blank_masses (b ∷ bs) [] c h = absurd h
blank_masses (b ∷ bs) (p ∷ ps) c h = (λ i. cond (holds (h.0.of_box i) c) (Some (h.0.empty c i)) (blank_masses bs ps c h.1 i)) ∙ either (holds b c)
  where
    either : (t : Bool) → cond {A = Option ℕ} t (Some 0) (cond (in_boxes bs c) (Some 0) None) ≡ cond (t || in_boxes bs c) (Some 0) None
    either true = refl
    either false = refl

pub blank_apart : (bs : List Extent) (ps : List Patch) → Pairwise IsBlank bs ps → ArePairwiseApart bs → ArePatchesApart ps
blank_apart bs ps h apart i j d lt l c p q =
    let n = pairwise_length IsBlank bs ps h in
    let b = pairwise_at IsBlank bs ps i (box d) d h (omega arith) in
    let e = pairwise_at IsBlank bs ps j (box d) d h l in
    apart i j (box d) lt (omega (arith, n)) c (ap (λ (t : Extent). holds t c) (sym b.of_box) ∙ p) (ap (λ (t : Extent). holds t c) (sym e.of_box) ∙ q)

-- blank patches of boxes that go row by row go row by row, with no mark and no flux
pub blank_rows : (bs : List Extent) (ps : List Patch) → Pairwise IsBlank bs ps → AreBoxesInRows bs → AreInRows ps
blank_rows bs ps h rows i j d lt l =
    let n = pairwise_length IsBlank bs ps h in
    let b = pairwise_at IsBlank bs ps i (box d) d h (omega arith) in
    let e = pairwise_at IsBlank bs ps j (box d) d h l in
    (λ t. comes_first (b.of_box t).lo (e.of_box t).lo) ∙ rows i j (box d) lt (omega (arith, n))

pub blank_marks : (bs : List Extent) (ps : List Patch) → Pairwise IsBlank bs ps → All HasNoMarks ps
blank_marks bs ps h i d lt = (pairwise_at IsBlank bs ps i (box d) d h lt).marks

pub blank_fluxes : (bs : List Extent) (ps : List Patch) → Pairwise IsBlank bs ps → All HasNoFluxes ps
blank_fluxes bs ps h i d lt = (pairwise_at IsBlank bs ps i (box d) d h lt).fluxes

-- ---- copies

pub copy_boxes : (ps qs : List Patch) → Pairwise IsCopy ps qs → map box qs ≡ map box ps
copy_boxes [] [] h = refl
copy_boxes [] (q ∷ qs) h = absurd h
copy_boxes (p ∷ ps) [] h = absurd h
copy_boxes (p ∷ ps) (q ∷ qs) h = λ i. h.0.of_box i ∷ copy_boxes ps qs h.1 i

pub copy_masses : (ps qs : List Patch) → Pairwise IsCopy ps qs → masses_in qs ≡ masses_in ps
copy_masses ps qs h = λ i c. at ps qs c h i
  where
    at : (ps qs : List Patch) (c : Cell) → Pairwise IsCopy ps qs → masses_in qs c ≡ masses_in ps c
    at [] [] c h = refl
    at [] (q ∷ qs) c h = absurd h
    at (p ∷ ps) [] c h = absurd h
    at (p ∷ ps) (q ∷ qs) c h = λ i. cond (holds (h.0.of_box i) c) (Some (h.0.values c i)) (at ps qs c h.1 i)

pub copy_apart : (ps qs : List Patch) → Pairwise IsCopy ps qs → ArePatchesApart ps → ArePatchesApart qs
copy_apart ps qs h apart i j d lt l c p q =
    let n = pairwise_length IsCopy ps qs h in
    let b = pairwise_at IsCopy ps qs i d d h (omega arith) in
    let e = pairwise_at IsCopy ps qs j d d h l in
    apart i j d lt (omega (arith, n)) c (ap (λ (t : Extent). holds t c) (sym b.of_box) ∙ p) (ap (λ (t : Extent). holds t c) (sym e.of_box) ∙ q)

-- ---- a write

-- a patch is replaced by one of its box
pub box_set : (ps : List Patch) (k i : ℕ) (p d : Patch) → k < length ps → box p ≡ box (slice_index_or ps k p) → box (slice_index_or (slice_set ps k p) i d) ≡ box (slice_index_or ps i d)
box_set ps k i p d lt e = cases (cases_eq i k)
  where
    cases : (i ≡ k) ⊎ (i ≡ k → ⊥) → box (slice_index_or (slice_set ps k p) i d) ≡ box (slice_index_or ps i d)
    cases (inl h) =
        ap (λ (n : ℕ). box (slice_index_or (slice_set ps k p) n d)) h
        ∙ ap (λ (q : Patch). box q) (get_or-set_same ps k p d lt)
        ∙ e
        ∙ ap (λ (q : Patch). box q) (same_default ps k p d lt)
        ∙ ap (λ (n : ℕ). box (slice_index_or ps n d)) (sym h)
    cases (inr h) = ap (λ (q : Patch). box q) (get_or-set_other ps k i p d h)

pub boxes_set : (ps : List Patch) (k : ℕ) (p : Patch) → k < length ps → box p ≡ box (slice_index_or ps k p) → map box (slice_set ps k p) ≡ map box ps
boxes_set [] k p lt e = absurd (omega arith)
boxes_set (x ∷ ps) zero p lt e = λ i. e i ∷ map box ps
boxes_set (x ∷ ps) (suc k) p lt e = λ i. box x ∷ boxes_set ps k p (omega arith) e i

-- a patch keeps what it has
pub itself : (p : Patch) → KeepsFrameAndFluxes p p
itself p = record { of_box = refl; ghosts = λ c h. refl; marks = λ c. refl; fluxes = λ f. refl }

pub all_kept : (ps : List Patch) → Pairwise KeepsFrameAndFluxes ps ps
all_kept [] = tt
all_kept (p ∷ ps) = (itself p, all_kept ps)

pub apart_set : (ps : List Patch) (k : ℕ) (p : Patch) → k < length ps → box p ≡ box (slice_index_or ps k p) → ArePatchesApart ps → ArePatchesApart (slice_set ps k p)
apart_set ps k p lt e apart i j d g l c h m = apart i j d g (omega (arith, length-set ps k p)) c (ap (λ (t : Extent). holds t c) (sym (box_set ps k i p d lt e)) ∙ h) (ap (λ (t : Extent). holds t c) (sym (box_set ps k j p d lt e)) ∙ m)

-- every other cell has what it had
pub masses_set_other : (ps : List Patch) (k : ℕ) (c d : Cell) (p : Patch) → k < length ps → box p ≡ box (slice_index_or ps k p) → SameOtherValues c (slice_index_or ps k p) p → d ≢ c → masses_in (slice_set ps k p) d ≡ masses_in ps d
masses_set_other [] k c d p lt e h n = absurd (omega arith)
masses_set_other (q ∷ ps) zero c d p lt e h n = head (holds (box q) d) refl
  where
    head : (t : Bool) → holds (box q) d ≡ t → cond (holds (box p) d) (Some (mass_in p d)) (masses_in ps d) ≡ cond (holds (box q) d) (Some (mass_in q d)) (masses_in ps d)
    head true f = λ i. cond (holds (e i) d) (Some (h d (in_grown (box q) d f) n i)) (masses_in ps d)
    head false f = ap (λ (b : Extent). cond (holds b d) (Some (mass_in p d)) (masses_in ps d)) e ∙ ap (λ (t : Bool). cond t (Some (mass_in p d)) (masses_in ps d)) f ∙ ap (λ (t : Bool). cond t (Some (mass_in q d)) (masses_in ps d)) (sym f)
masses_set_other (q ∷ ps) (suc k) c d p lt e h n = ap (λ (m : Option ℕ). cond (holds (box q) d) (Some (mass_in q d)) m) (masses_set_other ps k c d p (omega arith) e h n)

-- the cell has the mass that the patch has
pub masses_set_same : (ps : List Patch) (k : ℕ) (c : Cell) (p : Patch) → k < length ps → box p ≡ box (slice_index_or ps k p) → ArePatchesApart ps → holds (box p) c ≡ true → masses_in (slice_set ps k p) c ≡ Some (mass_in p c)
masses_set_same ps k c p lt e apart h =
    masses_in-at (slice_set ps k p) c k p (apart_set ps k p lt e apart) (record {
      inside = omega (arith, length-set ps k p);
      holds_it = λ d. ap (λ (t : Extent). holds t c) (box_set ps k k p d lt e ∙ ap (λ (q : Patch). box q) (same_default ps k d p lt) ∙ sym e) ∙ h;
    })
    ∙ ap (λ (q : Patch). Some (mass_in q c)) (get_or-set_same ps k p p lt)

pub none_here : (ps : List Patch) (c : Cell) → is_some (masses_in ps c) ≡ true → in_patches ps c ≡ false → ⊥
none_here ps c h e = clash (sym h ∙ ap (λ (m : Option ℕ). is_some m) (masses_in-none ps c e))
  where
    clash : true ≡ false → ⊥
    clash f = cc

-- the patches stand as they stood
pub order_set : (o : Order) (ps : List Patch) (k : ℕ) (p : Patch) → k < length ps → box p ≡ box (slice_index_or ps k p) → IsOrderOf o ps → IsOrderOf o (slice_set ps k p)
order_set o ps k p lt e = order_of_boxes o ps (slice_set ps k p) (boxes_set ps k p lt e)

-- no ghost cell is a cell of the box
pub ghosts_stay : (c : Cell) (q p : Patch) → holds (box q) c ≡ true → SameOtherValues c q p → SameGhosts q p
ghosts_stay c q p h others d e = others d (in_the_frame (box q) d e) (λ same. apart (holds (box q) d) (and_parts (holds (grown (box q)) d) (not (holds (box q) d)) e).1 (ap (λ (b : Cell). holds (box q) b) same ∙ h))
  where
    apart : (t : Bool) → not t ≡ true → t ≡ true → ⊥
    apart true e f = cc
    apart false e f = cc

-- a patch that keeps all but its masses was put in place of the one at k
pub frames_set : (ps : List Patch) (k : ℕ) (p q : Patch) → k < length ps → q ≡ slice_index_or ps k q → KeepsFrameAndFluxes q p → Pairwise KeepsFrameAndFluxes ps (slice_set ps k p)
frames_set [] k p q lt at h = absurd (omega arith)
frames_set (x ∷ ps) zero p q lt at h = (subst (λ (r : Patch). KeepsFrameAndFluxes r p) at h, all_kept ps)
frames_set (x ∷ ps) (suc k) p q lt at h = (itself x, frames_set ps k p q (omega arith) at h)

-- the masses along a row of the patch that has the cell
pub along_span : (ps : List Patch) (c : Cell) (i k m n : ℕ) (p : Patch) → ArePatchesApart ps → IsHolder ps c i → p ≡ slice_index_or ps i p → pos n ≡ (box p).hi.x +ℤ pos 1 -ℤ c.x → k < n → m ≡ mass_in p (cell (c.x +ℤ pos k) c.y) → masses_in ps (cell (c.x +ℤ pos k) c.y) ≡ Some m
along_span ps c i k m n p apart h at_i count lt e =
    let p_there : slice_index_or ps i p ≡ p = sym at_i in
    let in_p : holds (box p) c ≡ true = ap (λ (q : Patch). holds (box q) c) at_i ∙ h.holds_it p in
    let b = inside (box p) c in_p in
    let there : holds (box p) (cell (c.x +ℤ pos k) c.y) ≡ true = is_inside (box p) (cell (c.x +ℤ pos k) c.y) (record { west = omega (arith, ints, b.west); east = omega (arith, ints, count, lt); south = b.south; north = b.north }) in
    masses_in-at ps (cell (c.x +ℤ pos k) c.y) i p apart (holder ps (cell (c.x +ℤ pos k) c.y) i p h.inside at_i there)
    ∙ ap (λ (q : Patch). Some (mass_in q (cell (c.x +ℤ pos k) c.y))) p_there
    ∙ ap (λ (v : ℕ). Some v) (sym e)

-- a patch that has the cell is the one that was found
pub one_holder_here : (ps : List Patch) (c : Cell) (i j : ℕ) (p d : Patch) → ArePatchesApart ps → IsHolder ps c i → p ≡ slice_index_or ps i p → j < length ps → holds (box (slice_index_or ps j d)) c ≡ true → p ≡ slice_index_or ps j d
one_holder_here ps c i j p d apart h at_i lt e =
    let same : i ≡ j = one_patch ps c i j d apart h.inside lt (h.holds_it d) e in
    at_i ∙ same_default ps i p d h.inside ∙ ap (λ (n : ℕ). slice_index_or ps n d) same
