-- The boxes of a level lie in its domain, and so near 0.
use Rattle.std.proofs.Common.{◌≡◌, ℕ, ◌<◌, ◌≤◌, true, ℤ, ◌≤ℤ◌, arith, length}
use Rattle.std.specs.Prelude.{slice_index_or}
use Rattle.std.specs.List.{All}
use Rattle.std.proofs.lemmas.Int.{ints}
use Rattle.std.proofs.lemmas.Bool.{and_from}
use Rattle.std.proofs.lemmas.List.Folds.{list_any_at}
use Rattle.amr_box.specs.declared.Cell.{Cell}
use Rattle.amr_box.specs.Cells.{Extent, IsProper, holds, within}
use Rattle.amr_def.specs.declared.problem.Problem.{Problem}
use Rattle.amr_def.specs.Domain.{columns, rows, domain, in_domain}
use Rattle.amr_def.specs.State.{Level}
use Rattle.amr_def.specs.Facts.{IsLevel}
use Rattle.amr_def.proofs.Nesting.{in_domain-inside}
use Rattle.amr_def.proofs.Sizes.{doubled_small}
use Rattle.amr_laws.specs.Levels.{LiesInLevel}

from_itself : (lo hi : ℤ) → lo ≤ℤ hi → within lo hi lo ≡ true
from_itself lo hi h = grind (arith, ints)

to_itself : (lo hi : ℤ) → lo ≤ℤ hi → within lo hi hi ≡ true
to_itself lo hi h = grind (arith, ints)

holds_low : (b : Extent) → IsProper b → holds b b.lo ≡ true
holds_low b h = and_from (within b.lo.x b.hi.x b.lo.x) (within b.lo.y b.hi.y b.lo.y) (from_itself b.lo.x b.hi.x h.wide) (from_itself b.lo.y b.hi.y h.high)

holds_high : (b : Extent) → IsProper b → holds b b.hi ≡ true
holds_high b h = and_from (within b.lo.x b.hi.x b.hi.x) (within b.lo.y b.hi.y b.hi.y) (to_itself b.lo.x b.hi.x h.wide) (to_itself b.lo.y b.hi.y h.high)

module _ (p : Problem) (l : ℕ) (k : Level) (known : l ≤ 4) (level : IsLevel p l k) where
  held_inside : (j : ℕ) (d : Extent) (c : Cell) → j < length k.boxes → holds (slice_index_or k.boxes j d) c ≡ true → in_domain (domain p l) c ≡ true
  held_inside j d c fits h = level.inside c (list_any_at (λ b. holds b c) k.boxes j d fits h)

  pub boxes_near : All (LiesInLevel p l) k.boxes
  boxes_near j d fits =
      let b = slice_index_or k.boxes j d in
      let proper = level.proper j d fits in
      let low = held_inside j d b.lo fits (holds_low b proper) in
      let high = held_inside j d b.hi fits (holds_high b proper) in
      let from = in_domain-inside p l b.lo low in
      let to = in_domain-inside p l b.hi high in
      let few : columns p l ≤ 4096 = doubled_small p.nx l p.limits.greatest_nx known in
      let low_rows : rows p l ≤ 4096 = doubled_small p.ny l p.limits.greatest_ny known in
      record {
        low = low;
        high = high;
        near = record {
          west = omega (arith, ints, from.west);
          east = omega (arith, ints, to.east, few);
          south = omega (arith, ints, from.south);
          north = omega (arith, ints, to.north, low_rows);
          wide = proper.wide;
          high = proper.high;
        };
      }
