use Rattle.std.proofs.Common.{◌∙◌, ◌<◌, ◌≤◌, List, length, sym, arith}
use Rattle.std.proofs.lemmas.List.{take_all}
use Rattle.std.proofs.lemmas.Option.{get_or_from_slice_get}
use Rattle.amr_def.specs.declared.problem.Row.{Row}
use Rattle.amr_patch.specs.Meshes.{state_of}
use Rattle.amr_witness_regrid.proofs.Loops.{taken_more}
use Rattle.amr_witness_regrid.proofs.mesh.rows_of.Goals as goal

pub loop-k-preserved : goal.loop-k-preserved
loop-k-preserved c =
    let rows = (state_of c.args.mesh.now).rows in
    let k = c.loop-k.k in
    let row = c.row.result in
    let inside : k < length rows = omega (arith, c.requires.rows, c.loop-k-test.true) in
    ◌∙◌ {A = List Row} c.in_ok-push.ensures.items (taken_more rows c.loop-k.rows.items k row row c.loop-k.invariant inside (sym (get_or_from_slice_get rows k row row c.row.ensures)))

pub returns : goal.returns
returns c =
    let rows = (state_of c.args.mesh.now).rows in
    let all : length rows ≤ c.loop-k.k = omega (arith, c.loop-k.auto.k-end, c.loop-k-test.false, c.requires.rows) in
    c.loop-k.invariant ∙ take_all c.loop-k.k rows all
