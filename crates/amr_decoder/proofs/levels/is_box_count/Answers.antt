use Rattle.std.proofs.Common.{◌≡◌, ◌∙◌, ◌-◌, suc, arith}
use Rattle.amr_def.specs.Limits.{between}
use Rattle.amr_decoder.proofs.LevelReadings.{one_box, some_boxes}
use Rattle.amr_decoder.proofs.levels.is_box_count.Goals as goal

pub returns-then-l-eq0 : goal.returns-then-l-eq0
returns-then-l-eq0 c = one_box c.args.p.now c.args.l c.args.k c.if-l-eq0.true

pub returns : goal.returns
returns c =
    let less : c.args.l ≡ suc (c.args.l - 1) = omega (arith, c.if-l-eq0.false) in
    c.is_between.ensures ∙ (λ i. between 1 (c.cells_of_level.ensures i) (c.from.ensures i)) ∙ some_boxes c.args.p.now c.args.l c.args.k (c.args.l - 1) c.if-l-eq0.false less
