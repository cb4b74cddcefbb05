use Rattle.std.proofs.Common.{◌∙◌, ◌+◌, ◌&&◌, ◌||◌, Bool, ap, refl, arith}
use Rattle.std.specs.Prelude.{◌==◌}
use Rattle.amr_tags.specs.Coarse.{paired}
use Rattle.amr_tags.proofs.Pairs.{all-pairs, next-pair, no-pairs, zero-paired}
use Rattle.amr_tags.proofs.coarsen.coarse_of.Goals as goal

pub loop-i-init : goal.loop-i-init
loop-i-init c = λ k h. no-pairs 0 k (paired c.args.low c.args.high k) refl

pub loop-i-preserved : goal.loop-i-preserved
loop-i-preserved c = λ k h.
    c.with_bit-word-in-loop-i.ensures k h ∙ ap (λ (t : Bool). t || (c.pair-in-loop-i.result && (k == (c.loop-i.i + 32)))) (c.with_bit-word.ensures k h)
    ∙ next-pair c.args.low c.args.high c.loop-i.i k (omega (arith, c.loop-i-test.true)) h _ c.pair.result c.pair-in-loop-i.result (c.loop-i.invariant k h) c.pair.ensures c.pair-in-loop-i.ensures

pub returns-then-low-high-eq0 : goal.returns-then-low-high-eq0
returns-then-low-high-eq0 c = λ i h. zero-paired c.args.low c.args.high c.if-low-high-eq0.true i

pub returns : goal.returns
returns c = λ i h. c.loop-i.invariant i h ∙ all-pairs i c.loop-i.i (paired c.args.low c.args.high i) c.loop-i-test.false
