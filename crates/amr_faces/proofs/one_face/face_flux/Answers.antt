use mir.Syntax.{w32, w64}
use mir.Val.{of_z, to_z}
use Rattle.std.proofs.Common.{◌≡◌, ap, ◌∙◌, arith}
use Rattle.std.specs.Prelude.{◌||◌}
use Rattle.std.proofs.lemmas.Int.{ints}
use Rattle.std.proofs.lemmas.Bool.{and_parts}
use Rattle.amr_box.specs.Cells.{holds, within}
use Rattle.amr_box.proofs.CellEquality.{same_cell}
use Rattle.amr_def.specs.Flux.{courant, flow, high_cell, low_cell}
use Rattle.amr_patch.specs.Places.{grown}
use Rattle.amr_patch.specs.Patches.{value_in}
use Rattle.amr_faces.specs.Faces.{flux_beside}
use Rattle.amr_faces.proofs.Shown.{high_in_reach, low_in_reach, flow_of}
use Rattle.amr_faces.proofs.one_face.face_flux.Goals as goal

pub value_of-low-requires : goal.value_of-low-requires
value_of-low-requires c =
    let b = c.args.patch.now.bx in
    let f = c.args.f in
    let d = low_cell f in
    let parts = and_parts (holds (grown b) d) (within b.lo.x b.hi.x d.x || within b.lo.y b.hi.y d.y) (low_in_reach b f.axis f.x f.y c.requires.of_box) in
    ap (holds (grown b)) c.low_cell.ensures ∙ parts.0

pub value_of-high-requires : goal.value_of-high-requires
value_of-high-requires c =
    let b = c.args.patch.now.bx in
    let f = c.args.f in
    let d = high_cell f in
    let parts = and_parts (holds (grown b) d) (within b.lo.x b.hi.x d.x || within b.lo.y b.hi.y d.y) (high_in_reach b f.axis f.x f.y c.requires.of_box) in
    let x : to_z w32 (of_z w32 f.x) ≡ f.x = omega (arith, ints) in
    let y : to_z w32 (of_z w32 f.y) ≡ f.y = omega (arith, ints) in
    ap (holds (grown b)) (same_cell x y) ∙ parts.0

pub with-share-requires-clause-slow : goal.with-share-requires-clause-slow
with-share-requires-clause-slow c = let e : to_z w32 (of_z w32 c.courant.result) ≡ c.courant.result = omega (arith, ints) in rw e c.courant.ensures.slow

pub returns-clause-value : goal.returns-clause-value
unfolding flux_beside
returns-clause-value c =
    let f = c.args.f in
    let q = c.args.patch.now in
    let e : to_z w32 (of_z w32 c.courant.result) ≡ c.courant.result = omega (arith, ints) in
    let x : to_z w32 (of_z w32 f.x) ≡ f.x = omega (arith, ints) in
    let y : to_z w32 (of_z w32 f.y) ≡ f.y = omega (arith, ints) in
    let number : to_z w32 (of_z w32 c.courant.result) ≡ courant c.args.p.now c.args.l f = e ∙ c.courant.ensures.value in
    let low : c.value_of-low.result ≡ value_in q (low_cell f) = c.value_of-low.ensures ∙ ap (value_in q) c.low_cell.ensures in
    let high : c.value_of-high.result ≡ value_in q (high_cell f) = c.value_of-high.ensures ∙ ap (value_in q) (same_cell x y) in
    let sum : flow c.with-share.result.number c.with-share.result.parts c.value_of-low.result c.value_of-high.result ≡ flow (courant c.args.p.now c.args.l f) c.args.p.now.d (value_in q (low_cell f)) (value_in q (high_cell f)) = flow_of (c.with-share.ensures.number ∙ number) c.with-share.ensures.parts low high in
    let whole : to_z w64 (of_z w64 c.flow_between.result) ≡ c.flow_between.result = omega (arith, ints) in
    whole ∙ c.flow_between.ensures.value ∙ sum
