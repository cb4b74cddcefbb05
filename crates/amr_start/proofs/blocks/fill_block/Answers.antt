use Rattle.std.proofs.Common.{◌≡◌, ◌+◌, ◌*◌, Bool, cond, get_or, ◌∙◌, ap, arith}
use Rattle.amr_start.proofs.Filling.{is_in_rows, no_rows, row_filled, all_rows, span_inside}
use Rattle.amr_start.proofs.blocks.fill_block.Goals as goal

pub loop-y-init : goal.loop-y-init
loop-y-init c = λ x y hx hy. no_rows c.args.b.now x y c.args.b.now.mass _

pub loop-y-preserved : goal.loop-y-preserved
loop-y-preserved c = λ x y hx hy. row_filled c.args.b.now c.args.columns c.loop-y.y x y c.args.b.now.mass _ _ _ hx c.requires.block.east c.loop-y.auto.y (c.loop-y.invariant x y hx hy) (c.fill.ensures (y * c.args.columns + x))

pub fill-requires-clause-inside : goal.fill-requires-clause-inside
fill-requires-clause-inside c =
    span_inside c.args.columns c.args.rows c.loop-y.y _ _ (omega (arith, c.requires.block.north, c.loop-y-test.true)) (omega (arith, c.requires.block.east)) (c.loop-y.auto.masses ∙ c.requires.count)

pub returns : goal.returns
returns c =
    let b = c.args.b.now in
    let past : c.loop-y.y ≡ b.y1 + 1 = omega (arith, c.loop-y.auto.y-end, c.loop-y-test.false, c.requires.block.high) in
    record { at = λ x y hx hy. c.loop-y.invariant x y hx hy ∙ ap (λ (t : Bool). cond t b.mass (get_or c.args.masses.now (y * c.args.columns + x) 0)) (ap (λ e. is_in_rows b e x y) past ∙ all_rows b x y) }
