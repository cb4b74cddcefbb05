use Rattle.std.proofs.Common.{◌≡◌, ◌/◌, sym, ap, subst, arith}
use Rattle.std.proofs.lemmas.Int.{ints}
use Rattle.std.proofs.Math.Nat.{div-le_self}
use Rattle.amr_box.specs.Cells.{IsNear}
use Rattle.amr_def.specs.NewBoxes.{block_side}
use Rattle.amr_regrid.proofs.BlockPlaces.{columns_few, rows_few}
use Rattle.amr_witness_regrid.proofs.BlockPlaces.{columns_some, rows_some, side_some}
use Rattle.amr_witness_regrid.proofs.CellRows.{corners_are}
use Rattle.amr_regrid.specs.Blocks.{blocks_of}
use Rattle.amr_witness_regrid.proofs.wanted.blocks_of.Goals as goal

pub nonzero_div-columns : goal.nonzero_div-columns
nonzero_div-columns c = omega (arith, side_some c.args.p.now)

pub nonzero_div-rows : goal.nonzero_div-rows
nonzero_div-rows c = omega (arith, side_some c.args.p.now)

pub overflow_cast-high : goal.overflow_cast-high
overflow_cast-high c = let d = div-le_self c.columns.result (block_side c.args.p.now) in omega (arith, ints, d, c.columns.ensures.small)

pub overflow_cast-high-2 : goal.overflow_cast-high-2
overflow_cast-high-2 c = let d = div-le_self c.rows.result (block_side c.args.p.now) in omega (arith, ints, d, c.rows.ensures.small)

pub unwrap-requires : goal.unwrap-requires
unwrap-requires c =
    let p = c.args.p.now in
    let l = c.args.level in
    let x : c.columns.result / block_side p ≡ (blocks_of p l).columns = ap (λ n. n / block_side p) c.columns.ensures.value in
    let y : c.rows.result / block_side p ≡ (blocks_of p l).rows = ap (λ n. n / block_side p) c.rows.ensures.value in
    c.try_new.ensures.proper.1 (omega (arith, ints, x, columns_some p l, columns_few p l c.requires), omega (arith, ints, y, rows_some p l, rows_few p l c.requires))

pub returns-clause-value : goal.returns-clause-value
returns-clause-value c =
    let p = c.args.p.now in
    let l = c.args.level in
    let is = rw c.unwrap.ensures at c.try_new.ensures.some in
    let x : c.columns.result / block_side p ≡ (blocks_of p l).columns = ap (λ n. n / block_side p) c.columns.ensures.value in
    let y : c.rows.result / block_side p ≡ (blocks_of p l).rows = ap (λ n. n / block_side p) c.rows.ensures.value in
    corners_are c.unwrap.result _ _ _ _ _ _ _ _ is (omega (arith, ints)) (omega (arith, ints)) (omega (arith, ints, x, columns_some p l, columns_few p l c.requires)) (omega (arith, ints, y, rows_some p l, rows_few p l c.requires))

pub returns-clause-near : goal.returns-clause-near
returns-clause-near c =
    let p = c.args.p.now in
    let l = c.args.level in
    subst IsNear (sym (returns-clause-value c)) (record {
      west = omega (arith, ints);
      east = omega (arith, ints, columns_few p l c.requires);
      south = omega (arith, ints);
      north = omega (arith, ints, rows_few p l c.requires);
      wide = omega (arith, ints, columns_some p l);
      high = omega (arith, ints, rows_some p l);
    })
