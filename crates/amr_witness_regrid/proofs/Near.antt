-- Where cells lie.
use Rattle.std.proofs.Common.{◌≡◌, ℕ, zero, suc, ◌<◌, ◌≤◌, true, ℤ, pos, neg_ℤ, ◌-ℤ◌, ◌≤ℤ◌, sym, subst, arith, List, [], ◌∷◌, length, get_or}
use Rattle.std.proofs.lemmas.Int.{ints}
use Rattle.amr_box.specs.declared.Cell.{Cell}
use Rattle.amr_box.specs.Cells.{cell, cells_of, extent, holds, square}
use Rattle.amr_def.specs.declared.problem.Problem.{Problem}
use Rattle.amr_def.specs.Domain.{columns, domain, home_cell, is_periodic, rows}
use Rattle.amr_def.proofs.ClusterLaws.{Each}
use Rattle.amr_def.proofs.Homes.{wrapped_between}
use Rattle.amr_laws.proofs.CellSets.{both_parts, each_held, each_then}
use Rattle.amr_witness.specs.Parts.{IsInDomain}
use Rattle.amr_def.proofs.Sizes.{doubled_small}
use Rattle.amr_witness.proofs.Sizes.{level_some}
use Rattle.amr_regrid.proofs.BlockPlaces.{axis_bounds}
use Rattle.amr_witness_regrid.specs.Places.{IsUpTo}

pub up_more : (m n : ℕ) (c : Cell) → m ≤ n → IsUpTo m c → IsUpTo n c
up_more m n c h u = record {
  west = omega (arith, ints, h, u.west);
  east = omega (arith, ints, h, u.east);
  south = omega (arith, ints, h, u.south);
  north = omega (arith, ints, h, u.north);
}

held_up : (n : ℕ) (c : Cell) → holds (extent (cell (pos 0 -ℤ pos n) (pos 0 -ℤ pos n)) (cell (pos n) (pos n))) c ≡ true → IsUpTo n c
held_up n c h =
    let parts = both_parts _ _ h in
    let x = axis_bounds (pos 0 -ℤ pos n) (pos n) c.x parts.0 in
    let y = axis_bounds (pos 0 -ℤ pos n) (pos n) c.y parts.1 in
    record {
      west = omega (arith, ints, x.0);
      east = x.1;
      south = omega (arith, ints, y.0);
      north = y.1;
    }

pub each_get : (P : Cell → Type 0) (cs : List Cell) (i : ℕ) (d : Cell) → i < length cs → Each P cs → P (get_or cs i d)
each_get P [] i d h e = absurd (omega arith)
each_get P (c ∷ cs) zero d h e = e.0
each_get P (c ∷ cs) (suc i) d h e = each_get P cs i d (omega (arith, h)) e.1

each_up : (n : ℕ) → Each (IsUpTo n) (square n)
each_up n =
    let b = extent (cell (pos 0 -ℤ pos n) (pos 0 -ℤ pos n)) (cell (pos n) (pos n)) in
    each_then (λ q. holds b q ≡ true) (IsUpTo n) (λ q h. held_up n q h) (cells_of b) (each_held b)

pub square_small : (n m : ℕ) (xs : List Cell) (i : ℕ) (d : Cell) → n ≤ m → xs ≡ square n → i < length xs → IsUpTo m (get_or xs i d)
square_small n m xs i d h is inside = up_more n m _ h (each_get (IsUpTo n) xs i d inside (subst (Each (IsUpTo n)) (sym is) (each_up n)))

module _ (p : Problem) (l : ℕ) (c : Cell) (known : l ≤ 4) (inside : IsInDomain p l c) where
  few_columns : columns p l ≤ 4096
  few_columns = doubled_small p.nx l p.limits.greatest_nx known

  few_rows : rows p l ≤ 4096
  few_rows = doubled_small p.ny l p.limits.greatest_ny known

  pub inside_up : (n : ℕ) → 4096 ≤ n → IsUpTo n c
  inside_up n h = record {
    west = omega (arith, ints, inside.west);
    east = omega (arith, ints, inside.east, few_columns, h);
    south = omega (arith, ints, inside.south);
    north = omega (arith, ints, inside.north, few_rows, h);
  }

-- the cell that a cell stands for lies no farther out than the domain or the cell
pub home_up : (p : Problem) (l n : ℕ) (c : Cell) → l ≤ 4 → 4096 ≤ n → IsUpTo n c → IsUpTo n (home_cell (domain p l) c)
home_up p l n c known far up =
    let low : neg_ℤ (pos n) ≤ℤ pos 0 = omega (arith, ints) in
    let wide : pos (columns p l) ≤ℤ pos n = omega (arith, ints, doubled_small p.nx l p.limits.greatest_nx known, far) in
    let tall : pos (rows p l) ≤ℤ pos n = omega (arith, ints, doubled_small p.ny l p.limits.greatest_ny known, far) in
    let x = wrapped_between (is_periodic p.x_sides) (columns p l) c.x (neg_ℤ (pos n)) (pos n) (level_some p.nx l p.limits.least_nx) low wide up.west up.east in
    let y = wrapped_between (is_periodic p.y_sides) (rows p l) c.y (neg_ℤ (pos n)) (pos n) (level_some p.ny l p.limits.least_ny) low tall up.south up.north in
    record { west = x.0; east = x.1; south = y.0; north = y.1 }
