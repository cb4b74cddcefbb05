-- The parents of the cells of a strip.
use Rattle.std.proofs.Common.{◌≡◌, ◌∙◌, ℕ, ◌+◌, ◌/◌, ◌<◌, ℤ, pos, ◌+ℤ◌, ◌≤ℤ◌, IsTrue, sym, ap, subst, arith}
use Rattle.std.proofs.lemmas.Int.{ints}
use Rattle.amr_box.specs.declared.Cell.{Cell}
use Rattle.amr_box.specs.declared.Axis.{Axis}
use Rattle.amr_box.specs.declared.Axis.TheVariants.{X, Y}
use Rattle.amr_box.specs.Cells.{Extent, along, cell, half, holds, parent}
use Rattle.amr_def.specs.Regrid.{odd}
use Rattle.amr_def.proofs.Nests.{half_and_odd}
use Rattle.amr_def.proofs.Nesting.{half_ahead, odd_small}
use Rattle.amr_patch.specs.declared.patches.Patch.{Patch}
use Rattle.amr_patch.specs.Places.{place}
use Rattle.amr_patch.specs.Patches.{box}
use Rattle.amr_ghost.specs.declared.entries.Entries.{Entries}
use Rattle.amr_ghost.specs.Strips.{nth_place, step}
use Rattle.amr_ghost.proofs.Homes.{held_ahead}

-- two cells of a strip have one parent
pub parent_ahead : (axis : Axis) (c : Cell) (k : ℕ) → parent (step axis c k) ≡ step axis (parent c) ((odd (along axis c) + k) / 2)
parent_ahead X c k = λ i. cell (half_ahead c.x k i) (half c.y)
parent_ahead Y c k = λ i. cell (half c.x) (half_ahead c.y k i)

pub parent_place : (q : Patch) (b : Extent) (e : Entries) (axis : Axis) (from first_parent : Cell) (skipped k : ℕ) → b ≡ box q → first_parent ≡ parent from → skipped ≡ odd (along axis from) → ((j : ℕ) → nth_place e j ≡ place b (step axis first_parent j)) → nth_place e ((skipped + k) / 2) ≡ place (box q) (parent (step axis from k))
parent_place q b e axis from first_parent skipped k same is_parent is_odd places =
    places ((skipped + k) / 2)
    ∙ ap (λ (t : Extent). place t (step axis first_parent ((skipped + k) / 2))) same
    ∙ ap (λ (c : Cell). place (box q) (step axis c ((skipped + k) / 2))) is_parent
    ∙ ap (λ (n : ℕ). place (box q) (step axis (parent from) ((n + k) / 2))) is_odd
    ∙ ap (λ (c : Cell). place (box q) c) (sym (parent_ahead axis from k))

below_high : (z h : ℤ) (n k : ℕ) → z +ℤ pos n ≡ h +ℤ h +ℤ pos 2 → k < n → (half z +ℤ pos ((odd z + k) / 2)) ≤ℤ h
below_high z h n k e t = omega (arith, ints, half_and_odd z, odd_small z, e, t)

-- the cells whose parents a box has, from one on
pub parents_held : (b : Extent) (axis : Axis) (c : Cell) (n k : ℕ) → IsTrue (holds b (parent c)) → along axis c +ℤ pos n ≡ along axis b.hi +ℤ along axis b.hi +ℤ pos 2 → k < n → IsTrue (holds b (parent (step axis c k)))
parents_held b axis c n k h end t = subst (λ (s : Cell). IsTrue (holds b s)) (sym (parent_ahead axis c k)) (held_ahead b axis (parent c) ((odd (along axis c) + k) / 2) h (below axis end))
  where
    below : (axis : Axis) → along axis c +ℤ pos n ≡ along axis b.hi +ℤ along axis b.hi +ℤ pos 2 → (along axis (parent c) +ℤ pos ((odd (along axis c) + k) / 2)) ≤ℤ along axis b.hi
    below X e = below_high c.x b.hi.x n k e t
    below Y e = below_high c.y b.hi.y n k e t

-- a cell is not past the children of its parent
pub child_below : (z h : ℤ) → half z ≤ℤ h → z ≤ℤ (h +ℤ h +ℤ pos 1)
child_below z h below = omega (arith, ints, half_and_odd z, odd_small z, below)
