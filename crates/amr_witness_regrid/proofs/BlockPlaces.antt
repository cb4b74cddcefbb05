-- The blocks of a level: how many there are, and where their cells lie.
use Rattle.std.proofs.Common.{◌≡◌, ℕ, ◌*◌, ◌/◌, ◌%◌, ◌^◌, ◌<◌, ◌≤◌, true, inl, inr, sym, subst, arith}
use Rattle.std.specs.List.{All}
use Rattle.std.proofs.lemmas.Int.{ints}
use Rattle.std.proofs.Math.Nat.{mul-le-mul_left}
use Rattle.amr_box.specs.declared.Cell.{Cell}
use Rattle.amr_box.specs.Cells.{cells_of, extent, holds}
use Rattle.amr_cluster.proofs.Sound.{all_cells}
use Rattle.amr_def.specs.declared.problem.Problem.{Problem}
use Rattle.amr_def.specs.Domain.{columns, domain_box, refined, rows}
use Rattle.amr_def.specs.NewBoxes.{block_side}
use Rattle.amr_def.proofs.Courants.{power_positive}
use Rattle.amr_laws.proofs.Blocks.{IsSide, side_positive}
use Rattle.amr_laws.proofs.CellSets.{both_parts, each_held, each_then}
use Rattle.amr_laws.proofs.NewLevels.{is_blocking_of}
use Rattle.amr_def.proofs.Sizes.{doubled_small}
use Rattle.amr_regrid.specs.Blocks.{IsLow, blocks_of}
use Rattle.amr_regrid.proofs.BlockPlaces.{axis_bounds, block_inside, columns_few, rows_few}
use Rattle.amr_witness_regrid.specs.Places.{IsUpTo}

-- ---- how many there are

some_of : (n x s : ℕ) → IsSide s → 2 ≤ n → n ≤ x → n % s ≡ 0 → 1 ≤ x / s
some_of n x s (inl e) h k d = subst (λ t. 1 ≤ x / t) (sym e) (omega (arith, h, k))
some_of n x s (inr (inl e)) h k d = subst (λ t. 1 ≤ x / t) (sym e) (omega (arith, h, k))
some_of n x s (inr (inr (inl e))) h k d = let m : n % 4 ≡ 0 = subst (λ t. n % t ≡ 0) e d in subst (λ t. 1 ≤ x / t) (sym e) (omega (arith, h, k, m))
some_of n x s (inr (inr (inr e))) h k d = let m : n % 8 ≡ 0 = subst (λ t. n % t ≡ 0) e d in subst (λ t. 1 ≤ x / t) (sym e) (omega (arith, h, k, m))

level_more : (n l : ℕ) → n ≤ n * 2 ^ l
level_more n l =
    let one : 0 < 1 * 2 ^ l = power_positive 1 l (omega arith) in
    let up : n * 1 ≤ n * 2 ^ l = mul-le-mul_left n (omega (arith, one)) in
    omega (arith, up)

pub side_some : (p : Problem) → 0 < block_side p
side_some p = side_positive (block_side p) (is_blocking_of p).half_side

pub columns_some : (p : Problem) (l : ℕ) → 1 ≤ (blocks_of p l).columns
columns_some p l = some_of p.nx (columns p l) (block_side p) (is_blocking_of p).half_side p.limits.least_nx (level_more p.nx l) p.limits.x_blocks

pub rows_some : (p : Problem) (l : ℕ) → 1 ≤ (blocks_of p l).rows
rows_some p l = some_of p.ny (rows p l) (block_side p) (is_blocking_of p).half_side p.limits.least_ny (level_more p.ny l) p.limits.y_blocks

-- ---- where they lie

pub block_low : (p : Problem) (l : ℕ) (c : Cell) → l ≤ 4 → holds (domain_box (blocks_of p l)) c ≡ true → IsLow (extent c c)
block_low p l c k h =
    let parts = both_parts _ _ h in
    let x = axis_bounds _ _ c.x parts.0 in
    let y = axis_bounds _ _ c.y parts.1 in
    record {
      west = x.0;
      east = omega (arith, ints, x.1, columns_few p l k);
      south = y.0;
      north = omega (arith, ints, y.1, rows_few p l k);
    }

pub block_cells : (p : Problem) (l : ℕ) (c : Cell) → l ≤ 4 → holds (domain_box (blocks_of p l)) c ≡ true → All (IsUpTo 4098) (cells_of (refined (block_side p) (extent c c)))
block_cells p l c k h =
    let b = refined (block_side p) (extent c c) in
    let wide = doubled_small p.nx l p.limits.greatest_nx k in
    let high = doubled_small p.ny l p.limits.greatest_ny k in
    all_cells (IsUpTo 4098) (cells_of b) (each_then (λ q. holds b q ≡ true) (IsUpTo 4098)
    (λ q held.
    let inside = block_inside p l c q h held in
    record {
      west = omega (arith, ints, inside.west);
      east = omega (arith, ints, inside.east, wide);
      south = omega (arith, ints, inside.south);
      north = omega (arith, ints, inside.north, high);
    })
    (cells_of b) (each_held b))

-- ---- sides

side_eight : (s : ℕ) → IsSide s → s ≤ 8
side_eight s (inl e) = omega (arith, e)
side_eight s (inr (inl e)) = omega (arith, e)
side_eight s (inr (inr (inl e))) = omega (arith, e)
side_eight s (inr (inr (inr e))) = omega (arith, e)

pub side_few : (p : Problem) → block_side p ≤ 8
side_few p = side_eight (block_side p) (is_blocking_of p).half_side

pub blocking_few : (p : Problem) → p.blocking ≤ 8
blocking_few p = side_eight p.blocking (is_blocking_of p).side

pub blocking_some : (p : Problem) → 0 < p.blocking
blocking_some p = side_positive p.blocking (is_blocking_of p).side

pub fine : (p : Problem) (l : ℕ) → l < p.max_level → l ≤ 4
fine p l h = omega (arith, h, p.limits.greatest_max_level)
