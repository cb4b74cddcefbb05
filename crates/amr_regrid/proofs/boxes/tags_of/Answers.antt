use Rattle.std.proofs.Common.{◌≡◌, ◌∙◌, List, length, map, sym, ap, subst, arith}
use Rattle.std.specs.Prelude.{slice_index_or}
use Rattle.std.proofs.lemmas.List.{with_items_is}
use Rattle.std.proofs.lemmas.Result.{IfOk-weaker}
use Rattle.amr_def.specs.Facts.{IsLevel}
use Rattle.amr_def.specs.State as defined
use Rattle.amr_def.specs.State.{no_level}
use Rattle.amr_patch.specs.Levels.{level_of}
use Rattle.amr_patch.specs.Meshes.{state_of}
use Rattle.amr_regrid.specs.Outlines.{outlines}
use Rattle.amr_regrid.proofs.Bases.{level_count}
use Rattle.amr_regrid.proofs.MeshOutlines.{as_before, outline_by, tags_by}
use Rattle.amr_regrid.proofs.OutlineLaws.{same_count}
use Rattle.amr_regrid.proofs.boxes.tags_of.Goals as goal

pub tags_at-tags-requires-clause-there : goal.tags_at-tags-requires-clause-there
tags_at-tags-requires-clause-there c =
    let levels : map level_of c.as_mut_slice.result.now ≡ (state_of c.args.mesh.now).levels = ap (map level_of) c.as_mut_slice.ensures.value ∙ c.take-rows.ensures.levels in
    let many : length (map level_of c.as_mut_slice.result.now) ≡ length (state_of c.args.mesh.now).levels = ap length levels in
    omega (arith, many, level_count c.as_mut_slice.result.now, c.requires.there)

pub tags_at-tags-requires-clause-of_domain : goal.tags_at-tags-requires-clause-of_domain
tags_at-tags-requires-clause-of_domain c =
    let levels : map level_of c.as_mut_slice.result.now ≡ (state_of c.args.mesh.now).levels = ap (map level_of) c.as_mut_slice.ensures.value ∙ c.take-rows.ensures.levels in
    subst (λ (ls : List defined.Level). IsLevel c.args.p.now c.args.l (slice_index_or ls c.args.l no_level)) (sym levels) (c.requires.sound.nested.each c.args.l c.requires.there)

pub returns-clause-cells : goal.returns-clause-cells
returns-clause-cells c =
    let levels : map level_of c.as_mut_slice.result.now ≡ (state_of c.args.mesh.now).levels = ap (map level_of) c.as_mut_slice.ensures.value ∙ c.take-rows.ensures.levels in
    IfOk-weaker c.tags_at-tags.result _ _ (λ t e q. e q ∙ tags_by c.args.p.now (state_of c.args.mesh.now) c.as_mut_slice.result.now levels c.args.l q) c.tags_at-tags.ensures.cells

pub returns-clause-outline : goal.returns-clause-outline
returns-clause-outline c =
    let old = c.take-rows.result.1 in
    let new = c.tags_at-tags.new.levels in
    let value = c.as_mut_slice.ensures.value in
    let many = same_count new c.as_mut_slice.result.now c.tags_at-tags.ensures.outlines in
    let long : length c.as_mut_slice.result.now ≡ length old.items = ap length value in
    let stays = ap outlines (with_items_is old new (omega (arith, many, long))) ∙ c.tags_at-tags.ensures.outlines ∙ ap outlines value in
    outline_by c.of.result c.args.mesh.now
    (c.of.ensures.state ∙ as_before (state_of c.args.mesh.now) old.items _ c.step-step.result c.take-rows.result.0.items c.step-step.ensures c.take-rows.ensures.rows c.take-rows.ensures.levels stays)
    (ap outlines c.of.ensures.levels ∙ stays ∙ ap outlines c.take-rows.ensures.all)
    (c.of.ensures.whole ∙ sym c.requires.whole)
