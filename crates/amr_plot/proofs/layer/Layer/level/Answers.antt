use Rattle.std.proofs.Common.{◌≡◌, ◌<◌, List, get_or, length, sym, ap, subst, ◌∙◌, arith}
use Rattle.std.proofs.lemmas.List.{length-map}
use Rattle.amr_def.specs.Facts.{IsLevel}
use Rattle.amr_def.specs.State.{Level, State, level_at, no_level}
use Rattle.amr_patch.specs.Levels.{level_of}
use Rattle.amr_patch.specs.Meshes.{state_of}
use Rattle.amr_patch.proofs.Items.{level_item}
use Rattle.amr_plot.proofs.Layers.{level_boxes, level_is, level_sound, level_there}
use Rattle.amr_plot.proofs.Meshes.{mesh_here}
use Rattle.amr_plot.proofs.layer.Layer.level.Goals as goal

pub bounds-levels-self : goal.bounds-levels-self
bounds-levels-self c =
    let k = c.args.self in
    let state = mesh_here k.meshes.now c.args.species c.index-self-species.result c.requires.there in
    let count : length c.levels.result.now ≡ length (state_of (get_or k.meshes.now c.args.species c.index-self-species.result)).levels = sym (length-map c.levels.result.now level_of) ∙ ap length c.levels.ensures.levels in
    omega (arith, count, ap (λ (s : State). length s.levels) state, level_there k c.requires.layer c.args.species c.requires.there)

pub returns-clause-level : goal.returns-clause-level
returns-clause-level c =
    let k = c.args.self in
    let m = get_or k.meshes.now c.args.species c.index-self-species.result in
    let state = mesh_here k.meshes.now c.args.species c.index-self-species.result c.requires.there in
    let there : k.l < length c.levels.result.now =
    let count : length c.levels.result.now ≡ length (state_of m).levels = sym (length-map c.levels.result.now level_of) ∙ ap length c.levels.ensures.levels in
    omega (arith, count, ap (λ (s : State). length s.levels) state, level_there k c.requires.layer c.args.species c.requires.there) in
    level_item c.levels.result.now k.l c.index-levels-self.result there c.index-levels-self.is
    ∙ ap (λ (ls : List Level). get_or ls k.l no_level) c.levels.ensures.levels
    ∙ ap (λ (s : State). level_at s k.l) state
    ∙ sym (level_is k c.requires.layer c.args.species c.requires.there)

pub returns-clause-sound : goal.returns-clause-sound
returns-clause-sound c =
    subst (λ (j : Level). IsLevel c.args.self.problem.now c.args.self.l j) (sym (returns-clause-level c)) (level_sound c.args.self c.requires.layer c.args.species c.requires.there)

pub returns-clause-boxes : goal.returns-clause-boxes
returns-clause-boxes c = ap (λ (j : Level). j.boxes) (returns-clause-level c) ∙ level_boxes c.args.self c.requires.layer c.args.species c.requires.there
