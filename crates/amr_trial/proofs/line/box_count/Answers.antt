use Rattle.std.proofs.Common.{◌+◌, ◌<◌, ◌^◌, length, map, sum, sym, ap, subst, ◌∙◌, arith}
use Rattle.amr_patch.specs.Levels.{level_of}
use Rattle.amr_trial.proofs.Boxes.{boxes_in, one_more_level, within_total}
use Rattle.amr_trial.proofs.line.box_count.Goals as goal

pub overflow_add-count : goal.overflow_add-count
overflow_add-count c =
    let levels = c.levels-levels.result.now in
    let l = c.loop-level in
    let few : sum (map boxes_in (map level_of levels)) < 2 ^ 64 = subst (λ ks. sum (map boxes_in ks) < 2 ^ 64) (sym c.levels-levels.ensures.levels) c.requires.few in
    let here = ap length c.boxes.ensures in
    let most = within_total levels l.level-index c.level-item.result c.loop-level-test.true c.level-item.is in
    omega (arith, l.invariant, here, most, few)

pub loop-level-preserved : goal.loop-level-preserved
loop-level-preserved c =
    let l = c.loop-level in
    (λ i. l.invariant i + length (c.boxes.ensures i)) ∙ sym (one_more_level c.levels-levels.result.now l.level-index c.level-item.result c.loop-level-test.true c.level-item.is)
