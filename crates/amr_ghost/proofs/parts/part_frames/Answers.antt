use Rattle.std.proofs.Common.{◌≡◌, ◌*◌, length, sym, subst, arith}
use Rattle.amr_ghost.specs.declared.sources.GhostSpan.{GhostSpan}
use Rattle.amr_ghost.specs.Parts.{ArePartedTo, IsSpanBelow}
use Rattle.amr_ghost.proofs.Parting.{none_parted}
use Rattle.amr_ghost.proofs.parts.part_frames.Goals as goal

pub loop-k-init : goal.loop-k-init
loop-k-init c = none_parted c.args.plan.now.spans.items c.args.width c.args.runs _ c.in_ok-no_lists.ensures.count c.in_ok-no_lists.ensures.empty c.in_ok-no_lists-2.ensures.count c.in_ok-no_lists-2.ensures.empty

pub part_span-requires-clause-there : goal.part_span-requires-clause-there
part_span-requires-clause-there c =
    let s = c.index.result.now in
    subst (λ (x : GhostSpan). IsSpanBelow (c.args.runs * c.args.width) x) (sym c.index.ensures) (c.requires.enough c.loop-k.k s (omega arith))

pub loop-k-preserved : goal.loop-k-preserved
loop-k-preserved c = c.in_ok-part_span.ensures c.args.plan.now.spans.items c.loop-k.k (omega arith) (sym c.index.ensures) c.loop-k.invariant

pub returns : goal.returns
returns c =
    let ss = c.args.plan.now.spans.items in
    let all : c.loop-k.k ≡ length ss = omega arith in
    subst (λ m. ArePartedTo ss m c.args.width c.args.runs c.loop-k.parts) all c.loop-k.invariant
