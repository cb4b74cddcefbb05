-- The cells that the cells of a strip stand for, and what a strip has in a box.
use Rattle.std.proofs.Common.{◌≡◌, ℕ, ◌+◌, Bool, true, false, ◌&&◌, ℤ, pos, ◌+ℤ◌, ◌≤ℤ◌, IsTrue, refl, sym, ap, ◌∙◌, arith}
use Rattle.std.proofs.lemmas.Int.{ints}
use Rattle.std.proofs.lemmas.Bool.{and_parts}
use Rattle.amr_box.specs.declared.Cell.{Cell}
use Rattle.amr_box.specs.declared.Axis.{Axis}
use Rattle.amr_box.specs.declared.Axis.TheVariants.{X, Y}
use Rattle.amr_box.specs.Cells.{Extent, along, cell, holds, within}
use Rattle.amr_def.specs.Domain.{Domain, home_cell, is_inside, wrapped}
use Rattle.amr_def.proofs.Homes.{inside-itself}
use Rattle.amr_ghost.specs.Strips.{step}
use Rattle.amr_ghost.specs.GhostCells.{size_along}

-- the cells of a strip along an axis of the domain stand for those of a strip
pub home_step : (d : Domain) (axis : Axis) (c : Cell) (k : ℕ) → IsTrue (is_inside (size_along axis d) (along axis c)) → IsTrue (is_inside (size_along axis d) (along axis c +ℤ pos k)) → home_cell d (step axis c k) ≡ step axis (home_cell d c) k
home_step d X c k first here = λ i. cell (x i) (wrapped d.wrap_y d.rows c.y)
  where
    x : wrapped d.wrap_x d.columns (c.x +ℤ pos k) ≡ wrapped d.wrap_x d.columns c.x +ℤ pos k
    x = inside-itself d.wrap_x d.columns (c.x +ℤ pos k) here ∙ ap (λ (z : ℤ). z +ℤ pos k) (sym (inside-itself d.wrap_x d.columns c.x first))
home_step d Y c k first here = λ i. cell (wrapped d.wrap_x d.columns c.x) (y i)
  where
    y : wrapped d.wrap_y d.rows (c.y +ℤ pos k) ≡ wrapped d.wrap_y d.rows c.y +ℤ pos k
    y = inside-itself d.wrap_y d.rows (c.y +ℤ pos k) here ∙ ap (λ (z : ℤ). z +ℤ pos k) (sym (inside-itself d.wrap_y d.rows c.y first))

within_ahead : (low high z : ℤ) (k : ℕ) → IsTrue (within low high z) → (z +ℤ pos k) ≤ℤ high → IsTrue (within low high (z +ℤ pos k))
within_ahead low high z k h below = grind (arith, ints)

both : (a b c : Bool) → (IsTrue a → IsTrue c) → IsTrue (a && b) → IsTrue (c && b)
both true b c f h = rw (f refl) h
both false b c f h = absurd (cc)

both_right : (a b c : Bool) → (IsTrue b → IsTrue c) → IsTrue (a && b) → IsTrue (a && c)
both_right true b c f h = f h
both_right false b c f h = absurd (cc)

-- the cells of a box from one of its cells on
pub held_ahead : (b : Extent) (axis : Axis) (c : Cell) (k : ℕ) → IsTrue (holds b c) → (along axis c +ℤ pos k) ≤ℤ along axis b.hi → IsTrue (holds b (step axis c k))
held_ahead b X c k h below = both (within b.lo.x b.hi.x c.x) (within b.lo.y b.hi.y c.y) (within b.lo.x b.hi.x (c.x +ℤ pos k)) (λ t. within_ahead b.lo.x b.hi.x c.x k t below) h
held_ahead b Y c k h below = both_right (within b.lo.x b.hi.x c.x) (within b.lo.y b.hi.y c.y) (within b.lo.y b.hi.y (c.y +ℤ pos k)) (λ t. within_ahead b.lo.y b.hi.y c.y k t below) h

-- a strip that goes on from a later cell
pub step_step : (axis : Axis) (c : Cell) (j k : ℕ) → step axis (step axis c j) k ≡ step axis c (j + k)
step_step X c j k = λ i. cell (add c.x j k i) c.y
  where
    add : (z : ℤ) (j k : ℕ) → z +ℤ pos j +ℤ pos k ≡ z +ℤ pos (j + k)
    add z j k = omega (arith, ints)
step_step Y c j k = λ i. cell c.x (add c.y j k i)
  where
    add : (z : ℤ) (j k : ℕ) → z +ℤ pos j +ℤ pos k ≡ z +ℤ pos (j + k)
    add z j k = omega (arith, ints)

-- where a cell of a box lies
pub record HasBounds (b : Extent) (c : Cell) : Type 0 where
  pub west : b.lo.x ≤ℤ c.x
  pub east : c.x ≤ℤ b.hi.x
  pub south : b.lo.y ≤ℤ c.y
  pub north : c.y ≤ℤ b.hi.y

two_sides : (low high z : ℤ) → IsTrue (within low high z) → (low ≤ℤ z) × (z ≤ℤ high)
two_sides low high z h = grind (arith, ints)

pub bounds : (b : Extent) (c : Cell) → IsTrue (holds b c) → HasBounds b c
bounds b c h =
    let x = two_sides b.lo.x b.hi.x c.x ((and_parts (within b.lo.x b.hi.x c.x) (within b.lo.y b.hi.y c.y) h).0) in
    let y = two_sides b.lo.y b.hi.y c.y ((and_parts (within b.lo.x b.hi.x c.x) (within b.lo.y b.hi.y c.y) h).1) in
    record { west = x.0; east = x.1; south = y.0; north = y.1 }
