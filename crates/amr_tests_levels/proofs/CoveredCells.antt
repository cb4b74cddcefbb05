-- Two small levels: four coarse cells, of which a fine level covers three.
use Rattle.std.proofs.Common.{◌≡◌, ◌≢◌, ◌∙◌, ◌⊎◌, inl, inr, Bool, true, false, ◌||◌, pos, List, [], ◌∷◌, refl, sym, ap, subst, arith}
use Rattle.std.proofs.lemmas.Int.{ints}
use Rattle.std.proofs.lemmas.Bool.{or_cases}
use Rattle.amr_box.specs.declared.Cell.{Cell}
use Rattle.amr_box.specs.Cells.{Extent, cell, extent, holds, in_boxes, is_same_cell, parent}
use Rattle.amr_box.proofs.CellEquality.{coordinates_itself, coordinates_same}
use Rattle.amr_box.proofs.Tests.{opposite}
use Rattle.amr_def.proofs.Nests.{half_and_odd}
use Rattle.amr_def.proofs.Nesting.{odd_small}
use Rattle.amr_patch.proofs.Rows.{inside, is_inside}

-- ---- masses

-- a fact of each cell, from the one that was set and from all others
pub set_or_other : (P : Cell → Type 0) (c d : Cell) → P c → (d ≢ c → P d) → P d
set_or_other P c d here other = cases (is_same_cell d c) refl
  where
    cases : (t : Bool) → is_same_cell d c ≡ t → P d
    cases true e = subst P (sym (coordinates_same d c e)) here
    cases false e = other (λ same. opposite (ap (λ (k : Cell). is_same_cell k c) same ∙ coordinates_itself c) e)

-- ---- boxes

abbrev pub coarse_list : List Extent
coarse_list = extent (cell (pos 0) (pos 0)) (cell (pos 0) (pos 0)) ∷ extent (cell (pos 1) (pos 0)) (cell (pos 3) (pos 0)) ∷ []

abbrev pub fine_list : List Extent
fine_list = extent (cell (pos 0) (pos 0)) (cell (pos 1) (pos 1)) ∷ extent (cell (pos 2) (pos 0)) (cell (pos 5) (pos 1)) ∷ []

or_none : (a b : Bool) → (a || (b || false)) ≡ true → (a || b) ≡ true
or_none true b h = refl
or_none false true h = refl
or_none false false h = h

left_of : (a b : Bool) → a ≡ true → (a || (b || false)) ≡ true
left_of a b e = rw e refl

right_of : (a b : Bool) → b ≡ true → (a || (b || false)) ≡ true
right_of true b e = refl
right_of false b e = rw e refl

abbrev low : Extent
low = extent (cell (pos 0) (pos 0)) (cell (pos 1) (pos 1))

abbrev high : Extent
high = extent (cell (pos 2) (pos 0)) (cell (pos 5) (pos 1))

abbrev first : Extent
first = extent (cell (pos 0) (pos 0)) (cell (pos 0) (pos 0))

abbrev last : Extent
last = extent (cell (pos 1) (pos 0)) (cell (pos 3) (pos 0))

pub parents_there : (c : Cell) → in_boxes fine_list c ≡ true → in_boxes coarse_list (parent c) ≡ true
parents_there c h = cases (or_cases (holds low c) (holds high c) (or_none (holds low c) (holds high c) h))
  where
    cases : (holds low c ≡ true) ⊎ (holds high c ≡ true) → in_boxes coarse_list (parent c) ≡ true
    cases (inl e) =
        let i = inside low c e in
        left_of (holds first (parent c)) (holds last (parent c))
        (is_inside first (parent c) (record { west = omega (arith, ints, i.west, half_and_odd c.x, odd_small c.x); east = omega (arith, ints, i.east, half_and_odd c.x, odd_small c.x); south = omega (arith, ints, i.south, half_and_odd c.y, odd_small c.y); north = omega (arith, ints, i.north, half_and_odd c.y, odd_small c.y) }))
    cases (inr e) =
        let i = inside high c e in
        right_of (holds first (parent c)) (holds last (parent c))
        (is_inside last (parent c) (record { west = omega (arith, ints, i.west, half_and_odd c.x, odd_small c.x); east = omega (arith, ints, i.east, half_and_odd c.x, odd_small c.x); south = omega (arith, ints, i.south, half_and_odd c.y, odd_small c.y); north = omega (arith, ints, i.north, half_and_odd c.y, odd_small c.y) }))
