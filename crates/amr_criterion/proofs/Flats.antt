-- Patches whose values lie near to each other: bounds of them row by row, and that none of their cells is tagged.
use Rattle.std.proofs.Common.{◌≡◌, ◌∙◌, ℕ, zero, suc, ◌+◌, ◌-◌, ◌<◌, ◌≤◌, ◌⊎◌, inl, inr, Bool, true, false, ◌&&◌, ◌||◌, ℤ, pos, negsuc, ◌+ℤ◌, ◌-ℤ◌, ◌<ℤ◌, List, length, sym, ap, subst, arith}
use Rattle.std.specs.Prelude.{slice_index}
use Rattle.std.specs.List.{list_any}
use Rattle.std.proofs.Math.Bool.{and-false}
use Rattle.std.proofs.lemmas.Int.{ints}
use Rattle.std.proofs.lemmas.Bool.Decides.{nat_tests}
use Rattle.amr_box.specs.declared.Cell.{Cell}
use Rattle.amr_box.specs.Cells.{IsNear, at_least_zero, cell, holds, moved, width}
use Rattle.amr_box.proofs.CellEquality.{same_cells}
use Rattle.amr_box.proofs.Numbers.{at_least_zero-same}
use Rattle.amr_box.proofs.Tests.{and_apart}
use Rattle.amr_def.specs.Domain.{Domain, home_cell, in_domain}
use Rattle.amr_def.specs.Tags.{differs_by, neighbours}
use Rattle.amr_patch.specs.declared.patches.Patch.{Patch}
use Rattle.amr_patch.specs.Places.{grown}
use Rattle.amr_patch.specs.Patches.{box, value_in}
use Rattle.amr_patch.proofs.Rows.{inside, is_inside, sides}
use Rattle.amr_criterion.specs.Tagged.{IsFlat, is_tagged_in}

-- ---- row by row

-- a row of a patch with its frame
pub record IsFrameRow (q : Patch) (y : ℤ) (row : List ℕ) : Type 0 where
  pub count : length row ≡ width (box q) + 2
  pub values : (k : ℕ) → k < width (box q) + 2 → slice_index row k ≡ value_in q (cell ((box q).lo.x -ℤ pos 1 +ℤ pos k) y)

-- what all values of the row are, that of a cell in it is
row_value : (q : Patch) (row : List ℕ) (y : ℤ) (c : Cell) (P : ℕ → Type 0) → IsNear (box q) → IsFrameRow q y row → holds (grown (box q)) c ≡ true → c.y ≡ y → ((k : ℕ) → k < length row → P (slice_index row k)) → P (value_in q c)
row_value q row y c P near is h at all =
    let i = inside (grown (box q)) c h in
    let w = (sides (box q) near).wide in
    let j = at_least_zero (c.x -ℤ ((box q).lo.x -ℤ pos 1)) in
    let e : pos j ≡ c.x -ℤ ((box q).lo.x -ℤ pos 1) = at_least_zero-same (c.x -ℤ ((box q).lo.x -ℤ pos 1)) (omega (arith, ints, i.west)) in
    let lt : j < width (box q) + 2 = omega (arith, ints, i.east, e, w) in
    let there = same_cells (cell ((box q).lo.x -ℤ pos 1 +ℤ pos j) y) c (omega (arith, ints, e)) (sym at) in
    subst P (is.values j lt ∙ ap (value_in q) there) (all j (omega (arith, lt, is.count)))

below_or_at : (z w : ℤ) → z <ℤ (w +ℤ pos 1) → (z <ℤ w) ⊎ (z ≡ w)
below_or_at z w h = split (at_least_zero (w -ℤ z)) (at_least_zero-same (w -ℤ z) (omega (arith, ints)))
  where
    split : (n : ℕ) → pos n ≡ w -ℤ z → (z <ℤ w) ⊎ (z ≡ w)
    split zero e = inr (omega (arith, ints))
    split (suc n) e = inl (omega (arith, ints))

-- what the values of the rows below are, and those of the next one
pub one_row_more : (q : Patch) (row : List ℕ) (low y : ℤ) (k : ℕ) (P : ℕ → Type 0) → IsNear (box q) → IsFrameRow q y row → y ≡ low +ℤ pos k → ((c : Cell) → holds (grown (box q)) c ≡ true → c.y <ℤ (low +ℤ pos k) → P (value_in q c)) → ((j : ℕ) → j < length row → P (slice_index row j))
    → (c : Cell) → holds (grown (box q)) c ≡ true → c.y <ℤ (low +ℤ pos (k + 1)) → P (value_in q c)
one_row_more q row low y k P near is at below all c h lt = pick (below_or_at c.y (low +ℤ pos k) (omega (arith, ints, lt)))
  where
    pick : (c.y <ℤ (low +ℤ pos k)) ⊎ (c.y ≡ low +ℤ pos k) → P (value_in q c)
    pick (inl less) = below c h less
    pick (inr e) = row_value q row y c P near is h (e ∙ sym at) all

-- ---- no tags

pub near_values : (t least most a b : ℕ) → least ≤ a → a ≤ most → least ≤ b → b ≤ most → most - least < t → differs_by t a b ≡ false
near_values t least most a b h k i j lt = let few : (a - b) + (b - a) < t = omega arith in grind (arith, nat_tests)

pub none_tagged : (t : ℕ) (d : Domain) (q : Patch) → IsFlat t q → (c : Cell) → is_tagged_in t d q c ≡ false
unfolding is_tagged_in
none_tagged t d q flat c = and_apart (holds (box q) c) (list_any (λ o. in_domain d (home_cell d (moved c o)) && differs_by t (value_in q c) (value_in q (moved c o))) neighbours) all
  where
    all : holds (box q) c ≡ true → list_any (λ o. in_domain d (home_cell d (moved c o)) && differs_by t (value_in q c) (value_in q (moved c o))) neighbours ≡ false
    all h =
        let i = inside (box q) c h in
        let here = is_inside (grown (box q)) c (record { west = omega (arith, ints, i.west); east = omega (arith, ints, i.east); south = omega (arith, ints, i.south); north = omega (arith, ints, i.north) }) in
        let west = is_inside (grown (box q)) (moved c (cell (negsuc 0) (pos 0))) (record { west = omega (arith, ints, i.west); east = omega (arith, ints, i.east); south = omega (arith, ints, i.south); north = omega (arith, ints, i.north) }) in
        let east = is_inside (grown (box q)) (moved c (cell (pos 1) (pos 0))) (record { west = omega (arith, ints, i.west); east = omega (arith, ints, i.east); south = omega (arith, ints, i.south); north = omega (arith, ints, i.north) }) in
        let south = is_inside (grown (box q)) (moved c (cell (pos 0) (negsuc 0))) (record { west = omega (arith, ints, i.west); east = omega (arith, ints, i.east); south = omega (arith, ints, i.south); north = omega (arith, ints, i.north) }) in
        let north = is_inside (grown (box q)) (moved c (cell (pos 0) (pos 1))) (record { west = omega (arith, ints, i.west); east = omega (arith, ints, i.east); south = omega (arith, ints, i.south); north = omega (arith, ints, i.north) }) in
        let w = none here (cell (negsuc 0) (pos 0)) west in
        let e = none here (cell (pos 1) (pos 0)) east in
        let s = none here (cell (pos 0) (negsuc 0)) south in
        let n = none here (cell (pos 0) (pos 1)) north in
        λ j. w j || (e j || (s j || (n j || false)))
      where
        none : holds (grown (box q)) c ≡ true → (o : Cell) → holds (grown (box q)) (moved c o) ≡ true → (in_domain d (home_cell d (moved c o)) && differs_by t (value_in q c) (value_in q (moved c o))) ≡ false
        none here o there = ap (λ (b : Bool). in_domain d (home_cell d (moved c o)) && b) (flat c (moved c o) here there) ∙ and-false (in_domain d (home_cell d (moved c o)))
