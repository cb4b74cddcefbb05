use Rattle.std.proofs.Common.{◌≡◌, ◌∙◌, ap, get_or, refl, sym, length, arith}
use Rattle.std.specs.Global.{Vec}
use Rattle.std.specs.Option.{option_copied}
use Rattle.std.proofs.lemmas.List.Elements.{All-same}
use Rattle.amr_def.specs.Domain.{domain}
use Rattle.amr_ghost.specs.Frames.{old_masses}
use Rattle.amr_ghost.specs.Outer.{IsOuterSpan}
use Rattle.amr_ghost.specs.declared.parts.FrameCopy.{FrameCopy}
use Rattle.amr_ghost.specs.declared.sources.GhostSpan.{GhostSpan}
use Rattle.amr_ghost.proofs.PartLaws.{outer_spans, plan_small}
use Rattle.amr_ghost.proofs.WholeFrames.{fills}
use Rattle.amr_ghost.proofs.fills.find_sources.Goals as goal

pub part_frames-requires-clause-enough : goal.part_frames-requires-clause-enough
part_frames-requires-clause-enough c = plan_small (domain c.args.p.now c.args.l) c.args.patches.now c.in_ok-plan.plan c.max.result 1 c.in_ok-plan.ensures.spans (omega arith)

pub find_values-requires-clause-spans : goal.find_values-requires-clause-spans
find_values-requires-clause-spans c =
    let v = c.index.result.now in
    let d = domain c.args.p.now c.args.l in
    let parts = c.in_ok-parts in
    All-same (IsOuterSpan d) c.in_ok-outer.outer.spans.items (get_or parts.parts.outer.items 0 v).items (ap (λ (x : Vec GhostSpan). x.items) c.in_ok-outer.ensures.spans ∙ c.in_ok-spans.ensures.items ∙ c.deref.ensures.value ∙ ap (λ (x : Vec GhostSpan). x.items) c.index.ensures)
    (outer_spans d c.args.patches.now c.in_ok-plan.plan c.max.result 1 parts.parts c.in_ok-plan.ensures.spans parts.ensures 0 v (omega arith))

pub returns : goal.returns
returns c =
    let v = c.index.result.now in
    let outer = c.find_values.new.self in
    fills c.args.p.now c.args.l (old_masses (option_copied c.args.old)) c.args.patches.now c.in_ok-plan.plan c.max.result c.in_ok-parts.parts c.in_ok-plan.ensures c.in_ok-parts.ensures (omega arith) c.requires.apart c.requires.inside
    (record { outer = outer; copies = c.in_ok-copies.copies; inbox = _ }) v c.index-2.result.now
    (ap (λ (x : Vec GhostSpan). x.items) (c.find_values.ensures.spans ∙ c.in_ok-outer.ensures.spans) ∙ c.in_ok-spans.ensures.items ∙ c.deref.ensures.value ∙ ap (λ (x : Vec GhostSpan). x.items) c.index.ensures)
    c.find_values.ensures.places c.find_values.ensures.found
    (c.in_ok-copies.ensures.items ∙ c.deref-2.ensures.value ∙ ap (λ (x : Vec FrameCopy). x.items) c.index-2.ensures) c.empty.result refl c.empty.ensures.copies c.empty.ensures.masses
