use Rattle.std.proofs.Common.{◌≡◌, ◌∙◌, map}
use Rattle.std.proofs.lemmas.Result.{IfOk-weaker}
use Rattle.amr_patch.specs.declared.levels.Level.{Level as Held}
use Rattle.amr_patch.specs.Levels.{level_of, patches_of}
use Rattle.amr_patch.specs.Pairwise.{Pairwise}
use Rattle.amr_patch.specs.Patches.{IsCopy, box}
use Rattle.amr_patch.proofs.LevelLaws.{copy_boxes}
use Rattle.amr_cycle.proofs.Cycling.{same_level}
use Rattle.amr_cycle.proofs.kept.before_in.Goals as goal

pub returns-clause-level : goal.returns-clause-level
returns-clause-level c =
    let on = c.is_on_boxes_of.ensures c.if-not-is_on_boxes_of.false in
    same_level (level_of c.copy_masses.new.to) (level_of c.args.level.now) (c.copy_masses.ensures.boxes ∙ on.boxes) c.copy_masses.ensures.masses

pub returns-then-not-is_on_boxes_of-clause-patches : goal.returns-then-not-is_on_boxes_of-clause-patches
returns-then-not-is_on_boxes_of-clause-patches c =
    let ps = patches_of c.args.level.now in
    IfOk-weaker c.copy.result (λ (k : Held). Pairwise IsCopy ps (patches_of k)) (λ (k : Held). map box (patches_of k) ≡ map box ps) (λ k. copy_boxes ps (patches_of k)) c.copy.ensures.patches
