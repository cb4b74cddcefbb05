use Rattle.std.proofs.Common.{◌≡◌, pos, ◌+ℤ◌, subst, sym, arith}
use Rattle.std.specs.Prelude.{IsTrue}
use mir.Val.{to_z, of_z}
use mir.Syntax.{w32}
use Rattle.std.proofs.lemmas.Int.{ints}
use Rattle.amr_box.specs.declared.Cell.{Cell}
use Rattle.amr_box.specs.Cells.{cell, holds}
use Rattle.amr_patch.proofs.Rows.{is_inside}
use Rattle.amr_patch.proofs.box_rows.cell_in.Goals as goal

pub returns-clause-place : goal.returns-clause-place
returns-clause-place c =
    let x : to_z w32 (of_z w32 (to_z w32 (of_z w32 c.lo-lo.result.x) +ℤ to_z w32 c.args.column)) ≡ c.args.b.now.lo.x +ℤ pos c.args.column = omega (arith, ints, c.lo-lo.ensures.x, c.requires.near.west, c.requires.near.east, c.requires.column) in
    let y : to_z w32 (of_z w32 (to_z w32 (of_z w32 c.lo-lo.result.y) +ℤ to_z w32 c.args.row)) ≡ c.args.b.now.lo.y +ℤ pos c.args.row = omega (arith, ints, c.lo-lo.ensures.y, c.requires.near.south, c.requires.near.north, c.requires.row) in
    λ i. cell (x i) (y i)

pub returns-clause-inside : goal.returns-clause-inside
returns-clause-inside c =
    let b = c.args.b.now in
    let at = cell (b.lo.x +ℤ pos c.args.column) (b.lo.y +ℤ pos c.args.row) in
    let inside : IsTrue (holds b at) = is_inside b at (record { west = omega (arith, ints); east = c.requires.column; south = omega (arith, ints); north = c.requires.row }) in
    subst (λ (d : Cell). IsTrue (holds b d)) (sym (returns-clause-place c)) inside
