use Rattle.std.proofs.Common.{◌≡◌, ◌∙◌, map, sym, ap}
use Rattle.std.specs.Vec.{with_items}
use Rattle.std.proofs.lemmas.List.{with_items_is}
use Rattle.amr_patch.specs.Levels.{level_of}
use Rattle.amr_patch.specs.Meshes.{state_of}
use Rattle.amr_checkpoint.specs.Exchanges.{shape_of}
use Rattle.amr_checkpoint.proofs.exchange.exchange.Goals as goal

pub copy_levels-requires : goal.copy_levels-requires
copy_levels-requires c = ap (map shape_of) (c.as_mut_slice.ensures.value ∙ c.take-rows.ensures.all) ∙ c.requires.boxes.shapes ∙ ap (map shape_of) (sym c.levels.ensures.all)

pub returns-clause-state : goal.returns-clause-state
returns-clause-state c =
    let items = with_items_is c.take-rows.result.1 c.copy_levels.new.to (c.copy_levels.auto.to ∙ c.as_mut_slice.ensures.len) in
    let levels : map level_of (with_items c.take-rows.result.1 c.copy_levels.new.to).items ≡ (state_of c.args.mesh.now).levels = ap (map level_of) items ∙ c.copy_levels.ensures ∙ c.levels.ensures.levels in
    c.of.ensures.state ∙ (λ i. record { step = c.step.ensures i; rows = c.requires.rows i; levels = levels i })
