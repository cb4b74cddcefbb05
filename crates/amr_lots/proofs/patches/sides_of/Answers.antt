use Rattle.std.proofs.Common.{◌≡◌, true, pos, get_or, below_more, subst, arith}
use Rattle.std.proofs.lemmas.List.{get_or_default}
use Rattle.amr_box.specs.declared.Axis.TheVariants.{X}
use Rattle.amr_def.specs.Flux.{face}
use Rattle.amr_flux.specs.PatchSides.{includes, side_of}
use Rattle.amr_layout.specs.declared.FlowTo.{FlowTo}
use Rattle.amr_layout.specs.declared.PutAt.{PutAt}
use Rattle.amr_lots.proofs.Adding.{with_more}
use Rattle.amr_lots.proofs.Posts.{no_put}
use Rattle.amr_lots.proofs.patches.sides_of.Goals as goal

-- what stands for a flow that is not there
abbrev no_flow : FlowTo
no_flow = record { word = 0; face = face X (pos 0) (pos 0) }

pub loop-flow-init : goal.loop-flow-init
loop-flow-init c = λ k d lt. absurd (omega (arith, lt))

pub loop-flow-preserved : goal.loop-flow-preserved
loop-flow-preserved c = λ k d lt.
    let b = c.args.b.now in
    let xs = c.args.flows.now in
    let n = c.loop-flow.flow-index in
    let r = c.with-sides.result in
    below_more (λ i. (e : FlowTo) → includes r (side_of b (get_or xs i e).face) ≡ true) n
    (λ i low e. with_more c.loop-flow.sides r (side_of b (get_or xs n no_flow).face) c.with-sides.ensures.there c.with-sides.ensures.others (side_of b (get_or xs i e).face) (c.loop-flow.invariant i e low))
    (λ e. subst (λ (x : FlowTo). includes r (side_of b x.face) ≡ true) (get_or_default xs n no_flow e c.loop-flow-test.true) c.with-sides.ensures.there)
    k lt d

pub loop-put-init : goal.loop-put-init
loop-put-init c = record { flows = λ k d lt. c.loop-flow.invariant k d (omega (arith, lt, c.loop-flow-test.false)); puts = λ k d lt. absurd (omega (arith, lt)) }

pub loop-put-preserved : goal.loop-put-preserved
loop-put-preserved c =
    let b = c.args.b.now in
    let xs = c.args.puts.now in
    let n = c.loop-put.put-index in
    let r = c.with-sides-in-loop-put.result in
    let more = with_more c.loop-put.sides r (side_of b (get_or xs n no_put).face) c.with-sides-in-loop-put.ensures.there c.with-sides-in-loop-put.ensures.others in
    record {
      flows = λ k d lt. more (side_of b (get_or c.args.flows.now k d).face) (c.loop-put.invariant.flows k d lt);
      puts = λ k d lt.
          below_more (λ i. (e : PutAt) → includes r (side_of b (get_or xs i e).face) ≡ true) n
          (λ i low e. more (side_of b (get_or xs i e).face) (c.loop-put.invariant.puts i e low))
          (λ e. subst (λ (x : PutAt). includes r (side_of b x.face) ≡ true) (get_or_default xs n no_put e c.loop-put-test.true) c.with-sides-in-loop-put.ensures.there)
          k lt d;
    }

pub returns-clause-flows : goal.returns-clause-flows
returns-clause-flows c = c.loop-put.invariant.flows

pub returns-clause-puts : goal.returns-clause-puts
returns-clause-puts c = λ k d lt. c.loop-put.invariant.puts k d (omega (arith, lt, c.loop-put-test.false))
