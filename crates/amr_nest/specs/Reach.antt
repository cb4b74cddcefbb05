-- The cells of a domain at most one away from a box, as at most nine boxes: one for each way to move the box by whole domains.
use Rattle.std.specs.Prelude.{ℕ, zero, suc, ◌*◌, ◌/◌, ◌%◌, Bool, false, ◌&&◌, ◌||◌, ◌==◌, ℤ, pos, ◌+ℤ◌, ◌-ℤ◌, ◌≤ℤ◌, ◌<ℤ◌}
use Rattle.amr_box.specs.declared.Cell.{Cell}
use Rattle.amr_box.specs.Cells.{Extent, cell, extent, holds}
use Rattle.amr_def.specs.Domain.{Domain, domain_box}

-- turns 0, 1 and 2 of an axis of n cells move by one domain down, by nothing, and by one domain up
abbrev pub shift : ℕ → ℕ → ℤ
shift n turn = pos (n * turn) -ℤ pos n

-- on an open axis nothing is moved
abbrev pub is_turn : Bool → ℕ → Bool
is_turn wrap turn = wrap || (turn == 1)

-- a box grown by one cell and moved
abbrev pub moved_reach : Domain → ℕ → ℕ → Extent → Extent
moved_reach d i j b =
    extent (cell (b.lo.x -ℤ pos 1 +ℤ shift d.columns i) (b.lo.y -ℤ pos 1 +ℤ shift d.rows j))
    (cell (b.hi.x +ℤ pos 1 +ℤ shift d.columns i) (b.hi.y +ℤ pos 1 +ℤ shift d.rows j))

-- whether a cell of the domain is at most one away from a box, where it is moved by turn `k mod 3` of x and turn `k div 3` of y
abbrev pub is_reached_at : Domain → Extent → ℕ → Cell → Bool
is_reached_at d b k c = (is_turn d.wrap_x (k % 3) && is_turn d.wrap_y (k / 3)) && (holds (domain_box d) c && holds (moved_reach d (k % 3) (k / 3) b) c)

-- whether a cell of the domain is at most one away from a box at one of the first n turns
abbrev pub is_reached : Domain → Extent → ℕ → Cell → Bool
is_reached d b zero c = false
is_reached d b (suc n) c = is_reached d b n c || is_reached_at d b n c

-- a box whose cells are all of the domain
pub record IsInDomainBox (d : Domain) (b : Extent) : Type 0 where
  pub west : pos 0 ≤ℤ b.lo.x
  pub south : pos 0 ≤ℤ b.lo.y
  pub east : b.hi.x <ℤ pos d.columns
  pub north : b.hi.y <ℤ pos d.rows
