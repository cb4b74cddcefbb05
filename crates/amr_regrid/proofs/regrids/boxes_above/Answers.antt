use Rattle.std.proofs.Common.{◌≡◌, ◌∙◌, ℕ, List, length, map, get_or, refl, ap, arith}
use Rattle.std.specs.Prelude.{min}
use Rattle.std.proofs.lemmas.Result.{IfOk-weaker}
use Rattle.amr_def.specs.NewBoxes.{new_boxes}
use Rattle.amr_def.specs.Regrid.{new_level_count}
use Rattle.amr_def.specs.Species.{first_state, is_tagged_in_some}
use Rattle.amr_def.specs.State as defined
use Rattle.amr_patch.specs.Levels.{level_of}
use Rattle.amr_patch.specs.Meshes.{state_of}
use Rattle.amr_regrid.proofs.Bases.{level_count}
use Rattle.amr_regrid.proofs.MeshOutlines.{itself, read_count, read_levels, read_sound, read_whole}
use Rattle.amr_regrid.proofs.regrids.boxes_above.Goals as goal

pub bounds-meshes-0 : goal.bounds-meshes-0
bounds-meshes-0 c = c.requires.some

pub levels-requires : goal.levels-requires
levels-requires c = read_whole c.args.p.now c.args.meshes.now c.args.meshes.now refl c.requires 0 (get_or c.args.meshes.now 0 c.index-meshes-0.result) c.requires.some (itself c.args.meshes.now 0 c.index-meshes-0.result c.requires.some)

pub new_level_count-count-requires : goal.new_level_count-count-requires
new_level_count-count-requires c =
    let sound = read_sound c.args.p.now c.args.meshes.now c.args.meshes.now refl c.requires 0 (get_or c.args.meshes.now 0 c.index-meshes-0.result) c.requires.some (itself c.args.meshes.now 0 c.index-meshes-0.result c.requires.some) in
    let many : length (map level_of c.levels.result.now) ≡ length (state_of (get_or c.args.meshes.now 0 c.index-meshes-0.result)).levels = ap length c.levels.ensures.levels in
    omega (arith, sound.few_levels, many, level_count c.levels.result.now, c.args.p.now.limits.greatest_max_level)

pub new_boxes-requires-clause-known : goal.new_boxes-requires-clause-known
new_boxes-requires-clause-known c = omega (arith, c.new_level_count-count.ensures)

pub new_boxes-requires-clause-there : goal.new_boxes-requires-clause-there
new_boxes-requires-clause-there c =
    let many : length (map level_of c.levels.result.now) ≡ length (state_of (get_or c.args.meshes.now 0 c.index-meshes-0.result)).levels = ap length c.levels.ensures.levels in
    let first = read_levels c.args.p.now c.args.meshes.now c.args.meshes.now refl c.requires 0 (get_or c.args.meshes.now 0 c.index-meshes-0.result) c.requires.some (itself c.args.meshes.now 0 c.index-meshes-0.result c.requires.some) in
    omega (arith, many, first, c.new_level_count-count.ensures)

pub returns-clause-boxes : goal.returns-clause-boxes
returns-clause-boxes c =
    let p = c.args.p.now in
    let ss = map state_of c.args.meshes.now in
    let count : c.new_level_count-count.result ≡ new_level_count p (first_state ss) =
    c.new_level_count-count.ensures ∙ ap (λ (ls : List defined.Level). min (length ls) p.max_level) c.levels.ensures.levels
    ∙ read_count p c.args.meshes.now c.args.meshes.now refl c.requires 0 (get_or c.args.meshes.now 0 c.index-meshes-0.result) c.requires.some (itself c.args.meshes.now 0 c.index-meshes-0.result c.requires.some) in
    IfOk-weaker c.new_boxes.result _ _ (λ r e. e ∙ ap (λ (n : ℕ). new_boxes p (is_tagged_in_some p ss) n 0) count) c.new_boxes.ensures.boxes
