-- The cells along the sides of a box.
use Rattle.std.proofs.Common.{◌≡◌, ℕ, ◌<◌, ◌≤◌, Bool, true, false, ◌&&◌, ◌||◌, ℤ, pos, negsuc, ◌+ℤ◌, ◌-ℤ◌, ◌≤ℤ◌, ◌<ℤ◌, List, length, get_or, IsTrue, refl, sym, ap, subst, ◌∙◌, arith}
use Rattle.std.specs.Prelude.{int_le, not, ◌⊎◌}
use Rattle.std.proofs.Common.{inl, inr}
use Rattle.std.proofs.lemmas.Int.{ints}
use Rattle.std.proofs.lemmas.Bool.{and_parts}
use Rattle.std.proofs.Math.Bool.{and-false}
use Rattle.amr_box.proofs.Boxes.{int_le-no, int_le-yes}
use Rattle.amr_box.specs.declared.Cell.{Cell}
use Rattle.amr_box.specs.declared.Axis.{Axis}
use Rattle.amr_box.specs.Cells.{Extent, IsNear, along, at_least_zero, cell, height, holds, width, within}
use Rattle.amr_box.proofs.CellLists.{in_range}
use Rattle.amr_def.specs.Domain.{Domain, in_domain, is_inside}
use Rattle.amr_patch.specs.declared.patches.Patch.{Patch}
use Rattle.amr_patch.specs.Places.{grown, in_frame}
use Rattle.amr_patch.specs.Patches.{box}
use Rattle.amr_patch.proofs.Lookups.{holder, in_one, same_default}
use Rattle.amr_ghost.specs.Strips.{step}
use Rattle.amr_ghost.specs.Frames.{AreInDomain, is_beside}
use Rattle.amr_ghost.specs.declared.sides.Side.{Side}
use Rattle.amr_ghost.specs.declared.sides.Side.TheVariants.{East, North, South, West}
use Rattle.amr_ghost.specs.GhostCells.{IsGhostStrip, LiesInDomain, side_axis, side_count, side_from, size_along}

le_self : (z : ℤ) → int_le z z ≡ true
le_self z = grind (arith, ints)

has_low : (b : Extent) → b.lo.x ≤ℤ b.hi.x → b.lo.y ≤ℤ b.hi.y → holds b b.lo ≡ true
has_low b wide high = rw (le_self b.lo.x, int_le-yes b.lo.x b.hi.x wide, le_self b.lo.y, int_le-yes b.lo.y b.hi.y high)

has_high : (b : Extent) → b.lo.x ≤ℤ b.hi.x → b.lo.y ≤ℤ b.hi.y → holds b b.hi ≡ true
has_high b wide high = rw (int_le-yes b.lo.x b.hi.x wide, le_self b.hi.x, int_le-yes b.lo.y b.hi.y high, le_self b.hi.y)

pub low_inside : (n : ℕ) (z : ℤ) → IsTrue (is_inside n z) → pos 0 ≤ℤ z
low_inside n z h = grind (arith, ints)

pub high_inside : (n : ℕ) (z : ℤ) → IsTrue (is_inside n z) → z <ℤ pos n
high_inside n z h = grind (arith, ints)

-- the sides of a domain round a cell
pub parts_of : (d : Domain) (c : Cell) → IsTrue (in_domain d c) → IsTrue (is_inside d.columns c.x) × IsTrue (is_inside d.rows c.y)
unfolding in_domain
parts_of d c h = ((and_parts (is_inside d.columns c.x) (is_inside d.rows c.y) h).0, (and_parts (is_inside d.columns c.x) (is_inside d.rows c.y) h).1)

-- the box of a patch of a level lies in the domain
pub lies_in : (d : Domain) (ps : List Patch) (i : ℕ) (p : Patch) → AreInDomain d ps → i < length ps → p ≡ get_or ps i p → (box p).lo.x ≤ℤ (box p).hi.x → (box p).lo.y ≤ℤ (box p).hi.y → LiesInDomain d (box p)
lies_in d ps i p inside there is wide high =
    let low = parts_of d (box p).lo (inside (box p).lo (in_one ps (box p).lo i (holder ps (box p).lo i p there is (has_low (box p) wide high)))) in
    let top = parts_of d (box p).hi (inside (box p).hi (in_one ps (box p).hi i (holder ps (box p).hi i p there is (has_high (box p) wide high)))) in
    record {
      wide = wide;
      high = high;
      west = low_inside d.columns (box p).lo.x low.0;
      south = low_inside d.rows (box p).lo.y low.1;
      east = high_inside d.columns (box p).hi.x top.0;
      north = high_inside d.rows (box p).hi.y top.1;
    }

-- ---- ghost cells along a side

out_x : (b : Extent) (c : Cell) → within (b.lo.x -ℤ pos 1) (b.hi.x +ℤ pos 1) c.x ≡ true → within (b.lo.y -ℤ pos 1) (b.hi.y +ℤ pos 1) c.y ≡ true → within b.lo.x b.hi.x c.x ≡ false → IsTrue (in_frame b c)
out_x b c x y out = frame_of (within (b.lo.x -ℤ pos 1) (b.hi.x +ℤ pos 1) c.x) (within (b.lo.y -ℤ pos 1) (b.hi.y +ℤ pos 1) c.y) (within b.lo.x b.hi.x c.x) (within b.lo.y b.hi.y c.y) x y out
  where
    frame_of : (g h a e : Bool) → g ≡ true → h ≡ true → a ≡ false → IsTrue ((g && h) && not (a && e))
    frame_of g h a e x y z = rw (x, y, z) refl

out_y : (b : Extent) (c : Cell) → within (b.lo.x -ℤ pos 1) (b.hi.x +ℤ pos 1) c.x ≡ true → within (b.lo.y -ℤ pos 1) (b.hi.y +ℤ pos 1) c.y ≡ true → within b.lo.y b.hi.y c.y ≡ false → IsTrue (in_frame b c)
out_y b c x y out = frame_of (within (b.lo.x -ℤ pos 1) (b.hi.x +ℤ pos 1) c.x) (within (b.lo.y -ℤ pos 1) (b.hi.y +ℤ pos 1) c.y) (within b.lo.x b.hi.x c.x) (within b.lo.y b.hi.y c.y) x y out
  where
    frame_of : (g h a e : Bool) → g ≡ true → h ≡ true → e ≡ false → IsTrue ((g && h) && not (a && e))
    frame_of g h a e x y z = rw (x, y, z, and-false a) refl

within_grown : (low high z : ℤ) → (low -ℤ pos 1) ≤ℤ z → z ≤ℤ (high +ℤ pos 1) → within (low -ℤ pos 1) (high +ℤ pos 1) z ≡ true
within_grown low high z from to = rw (int_le-yes (low -ℤ pos 1) z from, int_le-yes z (high +ℤ pos 1) to)

pub below_out : (low high z : ℤ) → z <ℤ low → within low high z ≡ false
below_out low high z h = rw (int_le-no low z h)

pub above_out : (low high z : ℤ) → high <ℤ z → within low high z ≡ false
above_out low high z h = rw (int_le-no z high h) (and-false (int_le low z))

-- the k-th cell from a coordinate on is below the end of as many
counted : (low high : ℤ) (k : ℕ) → k < at_least_zero (high +ℤ pos 1 -ℤ low) → (low +ℤ pos k) ≤ℤ high
counted low high k h = by_size (high +ℤ pos 1 -ℤ low) refl h
  where
    by_size : (z : ℤ) → high +ℤ pos 1 -ℤ low ≡ z → k < at_least_zero z → (low +ℤ pos k) ≤ℤ high
    by_size (pos n) e t = omega (arith, ints)
    by_size (negsuc n) e t = absurd (omega arith)

pub side_ghost : (b : Extent) (side : Side) (k : ℕ) → b.lo.x ≤ℤ b.hi.x → b.lo.y ≤ℤ b.hi.y → k < side_count b side → IsTrue (in_frame b (step (side_axis side) (side_from b side) k))
side_ghost b West k wide high t =
    let top = counted b.lo.y b.hi.y k t in
    out_x b (cell (b.lo.x -ℤ pos 1) (b.lo.y +ℤ pos k)) (within_grown b.lo.x b.hi.x (b.lo.x -ℤ pos 1) (omega (arith, ints)) (omega (arith, ints))) (within_grown b.lo.y b.hi.y (b.lo.y +ℤ pos k) (omega (arith, ints)) (omega (arith, ints))) (below_out b.lo.x b.hi.x (b.lo.x -ℤ pos 1) (omega (arith, ints)))
side_ghost b East k wide high t =
    let top = counted b.lo.y b.hi.y k t in
    out_x b (cell (b.hi.x +ℤ pos 1) (b.lo.y +ℤ pos k)) (within_grown b.lo.x b.hi.x (b.hi.x +ℤ pos 1) (omega (arith, ints)) (omega (arith, ints))) (within_grown b.lo.y b.hi.y (b.lo.y +ℤ pos k) (omega (arith, ints)) (omega (arith, ints))) (above_out b.lo.x b.hi.x (b.hi.x +ℤ pos 1) (omega (arith, ints)))
side_ghost b South k wide high t =
    let top = counted b.lo.x b.hi.x k t in
    out_y b (cell (b.lo.x +ℤ pos k) (b.lo.y -ℤ pos 1)) (within_grown b.lo.x b.hi.x (b.lo.x +ℤ pos k) (omega (arith, ints)) (omega (arith, ints))) (within_grown b.lo.y b.hi.y (b.lo.y -ℤ pos 1) (omega (arith, ints)) (omega (arith, ints))) (below_out b.lo.y b.hi.y (b.lo.y -ℤ pos 1) (omega (arith, ints)))
side_ghost b North k wide high t =
    let top = counted b.lo.x b.hi.x k t in
    out_y b (cell (b.lo.x +ℤ pos k) (b.hi.y +ℤ pos 1)) (within_grown b.lo.x b.hi.x (b.lo.x +ℤ pos k) (omega (arith, ints)) (omega (arith, ints))) (within_grown b.lo.y b.hi.y (b.hi.y +ℤ pos 1) (omega (arith, ints)) (omega (arith, ints))) (above_out b.lo.y b.hi.y (b.hi.y +ℤ pos 1) (omega (arith, ints)))

in_a_row : (f a e : Bool) → IsTrue f → e ≡ true → IsTrue (f && (a || e))
in_a_row true true e h k = refl
in_a_row true false e h k = k
in_a_row false a e h k = absurd (cc)

in_a_column : (f a e : Bool) → IsTrue f → a ≡ true → IsTrue (f && (a || e))
in_a_column true true e h k = refl
in_a_column true false e h k = absurd (cc)
in_a_column false a e h k = absurd (cc)

-- and shares a face with a cell of the box
side_beside : (b : Extent) (side : Side) (k : ℕ) → b.lo.x ≤ℤ b.hi.x → b.lo.y ≤ℤ b.hi.y → k < side_count b side → IsTrue (is_beside b (step (side_axis side) (side_from b side) k))
side_beside b West k wide high t = in_a_row (in_frame b (cell (b.lo.x -ℤ pos 1) (b.lo.y +ℤ pos k))) (within b.lo.x b.hi.x (b.lo.x -ℤ pos 1)) (within b.lo.y b.hi.y (b.lo.y +ℤ pos k)) (side_ghost b West k wide high t) (in_range b.lo.y b.hi.y k t)
side_beside b East k wide high t = in_a_row (in_frame b (cell (b.hi.x +ℤ pos 1) (b.lo.y +ℤ pos k))) (within b.lo.x b.hi.x (b.hi.x +ℤ pos 1)) (within b.lo.y b.hi.y (b.lo.y +ℤ pos k)) (side_ghost b East k wide high t) (in_range b.lo.y b.hi.y k t)
side_beside b South k wide high t = in_a_column (in_frame b (cell (b.lo.x +ℤ pos k) (b.lo.y -ℤ pos 1))) (within b.lo.x b.hi.x (b.lo.x +ℤ pos k)) (within b.lo.y b.hi.y (b.lo.y -ℤ pos 1)) (side_ghost b South k wide high t) (in_range b.lo.x b.hi.x k t)
side_beside b North k wide high t = in_a_column (in_frame b (cell (b.lo.x +ℤ pos k) (b.hi.y +ℤ pos 1))) (within b.lo.x b.hi.x (b.lo.x +ℤ pos k)) (within b.lo.y b.hi.y (b.hi.y +ℤ pos 1)) (side_ghost b North k wide high t) (in_range b.lo.x b.hi.x k t)

pub west_beside : (b : Extent) (k : ℕ) → b.lo.x ≤ℤ b.hi.x → b.lo.y ≤ℤ b.hi.y → k < height b → IsTrue (is_beside b (cell (b.lo.x -ℤ pos 1) (b.lo.y +ℤ pos k)))
west_beside b k wide high t = side_beside b West k wide high t

pub east_beside : (b : Extent) (k : ℕ) → b.lo.x ≤ℤ b.hi.x → b.lo.y ≤ℤ b.hi.y → k < height b → IsTrue (is_beside b (cell (b.hi.x +ℤ pos 1) (b.lo.y +ℤ pos k)))
east_beside b k wide high t = side_beside b East k wide high t

pub south_beside : (b : Extent) (k : ℕ) → b.lo.x ≤ℤ b.hi.x → b.lo.y ≤ℤ b.hi.y → k < width b → IsTrue (is_beside b (cell (b.lo.x +ℤ pos k) (b.lo.y -ℤ pos 1)))
south_beside b k wide high t = side_beside b South k wide high t

pub north_beside : (b : Extent) (k : ℕ) → b.lo.x ≤ℤ b.hi.x → b.lo.y ≤ℤ b.hi.y → k < width b → IsTrue (is_beside b (cell (b.lo.x +ℤ pos k) (b.hi.y +ℤ pos 1)))
north_beside b k wide high t = side_beside b North k wide high t

pub inside_of : (n : ℕ) (z : ℤ) → pos 0 ≤ℤ z → z <ℤ pos n → IsTrue (is_inside n z)
inside_of n z from to = grind (arith, ints)

along_side : (d : Domain) (b : Extent) (side : Side) (k : ℕ) → LiesInDomain d b → k < side_count b side → IsTrue (is_inside (size_along (side_axis side) d) (along (side_axis side) (side_from b side) +ℤ pos k))
along_side d b West k h t = let top = counted b.lo.y b.hi.y k t in let s = h.south in let n = h.north in inside_of d.rows (b.lo.y +ℤ pos k) (omega (arith, ints)) (omega (arith, ints))
along_side d b East k h t = let top = counted b.lo.y b.hi.y k t in let s = h.south in let n = h.north in inside_of d.rows (b.lo.y +ℤ pos k) (omega (arith, ints)) (omega (arith, ints))
along_side d b South k h t = let top = counted b.lo.x b.hi.x k t in let s = h.west in let n = h.east in inside_of d.columns (b.lo.x +ℤ pos k) (omega (arith, ints)) (omega (arith, ints))
along_side d b North k h t = let top = counted b.lo.x b.hi.x k t in let s = h.west in let n = h.east in inside_of d.columns (b.lo.x +ℤ pos k) (omega (arith, ints)) (omega (arith, ints))

pub side_is_strip : (d : Domain) (b : Extent) (side : Side) → LiesInDomain d b → IsGhostStrip d b (side_axis side) (side_from b side) (side_count b side)
side_is_strip d b side h = record {
  ghosts = λ k t. side_ghost b side k h.wide h.high t;
  beside = λ k t. side_beside b side k h.wide h.high t;
  inside = λ k t. along_side d b side k h t;
}

few : (low high : ℤ) (n : ℕ) → pos 0 ≤ℤ low → high <ℤ pos n → at_least_zero (high +ℤ pos 1 -ℤ low) ≤ n
few low high n from to = by_size (high +ℤ pos 1 -ℤ low) refl
  where
    by_size : (z : ℤ) → high +ℤ pos 1 -ℤ low ≡ z → at_least_zero z ≤ n
    by_size (pos k) e = omega (arith, ints)
    by_size (negsuc k) e = omega arith

pub side_few : (d : Domain) (b : Extent) (side : Side) → LiesInDomain d b → side_count b side ≤ size_along (side_axis side) d
side_few d b West h = few b.lo.y b.hi.y d.rows h.south h.north
side_few d b East h = few b.lo.y b.hi.y d.rows h.south h.north
side_few d b South h = few b.lo.x b.hi.x d.columns h.west h.east
side_few d b North h = few b.lo.x b.hi.x d.columns h.west h.east

-- ---- a cell beside a box is one of a side

offset_is : (low high z : ℤ) (k : ℕ) → within low high z ≡ true → k ≡ at_least_zero (z -ℤ low) → (low +ℤ pos k ≡ z) × (k < at_least_zero (high +ℤ pos 1 -ℤ low))
offset_is low high z k h e = by_sizes (z -ℤ low) (high +ℤ pos 1 -ℤ low) refl refl e
  where
    from : low ≤ℤ z
    from = grind (arith, ints)

    to : z ≤ℤ high
    to = grind (arith, ints)

    by_sizes : (s t : ℤ) → z -ℤ low ≡ s → high +ℤ pos 1 -ℤ low ≡ t → k ≡ at_least_zero s → (low +ℤ pos k ≡ z) × (k < at_least_zero t)
    by_sizes (pos m) (pos n) e f g = let a : low ≤ℤ z = from in let b : z ≤ℤ high = to in (omega (arith, ints), omega (arith, ints))
    by_sizes (pos m) (negsuc n) e f g = let a : low ≤ℤ z = from in let b : z ≤ℤ high = to in absurd (omega (arith, ints))
    by_sizes (negsuc m) t e f g = let a : low ≤ℤ z = from in absurd (omega (arith, ints))

-- one off a range
edges : (low high z : ℤ) → IsTrue (within (low -ℤ pos 1) (high +ℤ pos 1) z) → within low high z ≡ false → (z ≡ low -ℤ pos 1) ⊎ (z ≡ high +ℤ pos 1)
edges low high z h out = by_side (int_le low z) (int_le z high) refl refl
  where
    from : (low -ℤ pos 1) ≤ℤ z
    from = grind (arith, ints)

    to : z ≤ℤ (high +ℤ pos 1)
    to = grind (arith, ints)

    by_side : (s t : Bool) → int_le low z ≡ s → int_le z high ≡ t → (z ≡ low -ℤ pos 1) ⊎ (z ≡ high +ℤ pos 1)
    by_side true true e f = absurd (both_hold (int_le low z) (int_le z high) e f out)
      where
        both_hold : (a b : Bool) → a ≡ true → b ≡ true → (a && b) ≡ false → ⊥
        both_hold true true e f g = cc
        both_hold true false e f g = cc
        both_hold false b e f g = cc
    by_side false t e f = inl (let a : z <ℤ low = grind (arith, ints) in let b : (low -ℤ pos 1) ≤ℤ z = from in omega (arith, ints))
    by_side true false e f = inr (let a : high <ℤ z = grind (arith, ints) in let b : z ≤ℤ (high +ℤ pos 1) = to in omega (arith, ints))

-- all ghost cells beside a box stand along its sides
pub beside_of : (P : Cell → Type 0) (b : Extent) → ((side : Side) (k : ℕ) → k < side_count b side → P (step (side_axis side) (side_from b side) k)) → (c : Cell) → IsTrue (is_beside b c) → P c
beside_of P b sides c h = by_ranges (within b.lo.x b.hi.x c.x) (within b.lo.y b.hi.y c.y) refl refl
  where
    frame : IsTrue (in_frame b c)
    frame = (and_parts (in_frame b c) (within b.lo.x b.hi.x c.x || within b.lo.y b.hi.y c.y) h).0

    near : IsTrue (holds (grown b) c)
    near = (and_parts (holds (grown b) c) (not (holds b c)) frame).0

    near_x : IsTrue (within (b.lo.x -ℤ pos 1) (b.hi.x +ℤ pos 1) c.x)
    near_x = (and_parts (within (b.lo.x -ℤ pos 1) (b.hi.x +ℤ pos 1) c.x) (within (b.lo.y -ℤ pos 1) (b.hi.y +ℤ pos 1) c.y) near).0

    near_y : IsTrue (within (b.lo.y -ℤ pos 1) (b.hi.y +ℤ pos 1) c.y)
    near_y = (and_parts (within (b.lo.x -ℤ pos 1) (b.hi.x +ℤ pos 1) c.x) (within (b.lo.y -ℤ pos 1) (b.hi.y +ℤ pos 1) c.y) near).1

    west_or_east : within b.lo.y b.hi.y c.y ≡ true → (c.x ≡ b.lo.x -ℤ pos 1) ⊎ (c.x ≡ b.hi.x +ℤ pos 1) → P c
    west_or_east y (inl e) =
        let k = offset_is b.lo.y b.hi.y c.y (at_least_zero (c.y -ℤ b.lo.y)) y refl in
        subst P (λ i. cell (sym e i) (k.0 i)) (sides West (at_least_zero (c.y -ℤ b.lo.y)) k.1)
    west_or_east y (inr e) =
        let k = offset_is b.lo.y b.hi.y c.y (at_least_zero (c.y -ℤ b.lo.y)) y refl in
        subst P (λ i. cell (sym e i) (k.0 i)) (sides East (at_least_zero (c.y -ℤ b.lo.y)) k.1)

    south_or_north : within b.lo.x b.hi.x c.x ≡ true → (c.y ≡ b.lo.y -ℤ pos 1) ⊎ (c.y ≡ b.hi.y +ℤ pos 1) → P c
    south_or_north x (inl e) =
        let k = offset_is b.lo.x b.hi.x c.x (at_least_zero (c.x -ℤ b.lo.x)) x refl in
        subst P (λ i. cell (k.0 i) (sym e i)) (sides South (at_least_zero (c.x -ℤ b.lo.x)) k.1)
    south_or_north x (inr e) =
        let k = offset_is b.lo.x b.hi.x c.x (at_least_zero (c.x -ℤ b.lo.x)) x refl in
        subst P (λ i. cell (k.0 i) (sym e i)) (sides North (at_least_zero (c.x -ℤ b.lo.x)) k.1)

    by_ranges : (s t : Bool) → within b.lo.x b.hi.x c.x ≡ s → within b.lo.y b.hi.y c.y ≡ t → P c
    by_ranges true true x y = absurd (not_inside (holds (grown b) c) (within b.lo.x b.hi.x c.x) (within b.lo.y b.hi.y c.y) x y frame)
      where
        not_inside : (g a e : Bool) → a ≡ true → e ≡ true → IsTrue (g && not (a && e)) → ⊥
        not_inside true true true x y h = cc
        not_inside true true false x y h = cc
        not_inside true false e x y h = cc
        not_inside false a e x y h = cc
    by_ranges true false x y = south_or_north x (edges b.lo.y b.hi.y c.y near_y y)
    by_ranges false true x y = west_or_east y (edges b.lo.x b.hi.x c.x near_x x)
    by_ranges false false x y = absurd (no_range (in_frame b c) (within b.lo.x b.hi.x c.x) (within b.lo.y b.hi.y c.y) x y h)
      where
        no_range : (f a e : Bool) → a ≡ false → e ≡ false → IsTrue (f && (a || e)) → ⊥
        no_range true true e x y h = cc
        no_range true false true x y h = cc
        no_range true false false x y h = cc
        no_range false a e x y h = cc

-- all ghost cells beside a box stand west or east of its rows, or south or north of its columns
pub by_sides : (P : Cell → Type 0) (b : Extent) → ((k : ℕ) → k < height b → P (cell (b.lo.x -ℤ pos 1) (b.lo.y +ℤ pos k))) → ((k : ℕ) → k < height b → P (cell (b.hi.x +ℤ pos 1) (b.lo.y +ℤ pos k))) → ((k : ℕ) → k < width b → P (cell (b.lo.x +ℤ pos k) (b.lo.y -ℤ pos 1))) → ((k : ℕ) → k < width b → P (cell (b.lo.x +ℤ pos k) (b.hi.y +ℤ pos 1))) → (c : Cell) → IsTrue (is_beside b c) → P c
by_sides P b west east south north c h = beside_of P b side_of c h
  where
    side_of : (side : Side) (k : ℕ) → k < side_count b side → P (step (side_axis side) (side_from b side) k)
    side_of West k t = west k t
    side_of East k t = east k t
    side_of South k t = south k t
    side_of North k t = north k t

-- ---- the same, of the box that a call answers

pub box_lies : (d : Domain) (ps : List Patch) (i : ℕ) (e : Patch) (b : Extent) → AreInDomain d ps → i < length ps → e ≡ get_or ps i e → b ≡ box (get_or ps i e) → IsNear (box (get_or ps i e)) → LiesInDomain d b
box_lies d ps i e b inside there is same near = rw same (lies_in d ps i (get_or ps i e) inside there (ap (get_or ps i) is) near.wide near.high)

pub same_box : (ps : List Patch) (i : ℕ) (e q : Patch) (b : Extent) → i < length ps → b ≡ box (get_or ps i e) → box (get_or ps i q) ≡ b
same_box ps i e q b there same = ap box (same_default ps i q e there) ∙ sym same

pub strip_of : (d : Domain) (b b' : Extent) (side : Side) (axis : Axis) (from : Cell) (count : ℕ) → LiesInDomain d b → b' ≡ b → axis ≡ side_axis side → from ≡ side_from b side → count ≡ side_count b side → IsGhostStrip d b' axis from count
strip_of d b b' side axis from count lies same a f n = rw (same, a, f, n) (side_is_strip d b side lies)
