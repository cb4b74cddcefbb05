-- The corners of a box in the domain of a level.
use Rattle.std.proofs.Common.{ℕ, ◌≤◌, ◌*◌, ◌^◌, pos, ◌≤ℤ◌, arith}
use Rattle.std.specs.Prelude.{IsTrue}
use Rattle.std.proofs.lemmas.Int.{ints}
use Rattle.amr_box.specs.declared.Cell.{Cell}
use Rattle.amr_box.specs.Cells.{Extent, IsNear, IsProper, holds}
use Rattle.amr_def.specs.declared.problem.Problem.{Problem}
use Rattle.amr_def.specs.Domain.{domain, in_domain}
use Rattle.amr_def.proofs.Nesting.{in_domain-inside}
use Rattle.amr_def.proofs.Sizes.{doubled_small}
use Rattle.amr_patch.proofs.Rows.{is_inside}

pub record HasCornersInside (b : Extent) : Type 0 where
  pub west : pos 0 ≤ℤ b.lo.x
  pub south : pos 0 ≤ℤ b.lo.y
  pub east : pos 0 ≤ℤ b.hi.x
  pub north : pos 0 ≤ℤ b.hi.y
  pub near : IsNear b

pub corners : (p : Problem) (l : ℕ) (b : Extent) → l ≤ 4 → IsProper b → ((c : Cell) → IsTrue (holds b c) → IsTrue (in_domain (domain p l) c)) → HasCornersInside b
corners p l b h proper inside =
    let low = in_domain-inside p l b.lo (inside b.lo (is_inside b b.lo (record { west = omega (arith, ints); east = proper.wide; south = omega (arith, ints); north = proper.high }))) in
    let high = in_domain-inside p l b.hi (inside b.hi (is_inside b b.hi (record { west = proper.wide; east = omega (arith, ints); south = proper.high; north = omega (arith, ints) }))) in
    let wide : p.nx * 2 ^ l ≤ 4096 = doubled_small p.nx l p.limits.greatest_nx h in
    let flat : p.ny * 2 ^ l ≤ 4096 = doubled_small p.ny l p.limits.greatest_ny h in
    record {
      west = low.west;
      south = low.south;
      east = high.west;
      north = high.south;
      near = record {
        west = omega (arith, ints, low.west);
        east = omega (arith, ints, high.east, wide);
        south = omega (arith, ints, low.south);
        north = omega (arith, ints, high.north, flat);
        wide = proper.wide;
        high = proper.high;
      };
    }
