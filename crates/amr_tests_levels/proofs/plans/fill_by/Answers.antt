use Rattle.std.proofs.Common.{◌∙◌, List, ap, get_or, length, arith}
use Rattle.std.specs.List.{All}
use Rattle.std.specs.Global.{Vec}
use Rattle.std.proofs.lemmas.List.Elements.{All-same}
use Rattle.amr_def.specs.Domain.{domain}
use Rattle.amr_patch.specs.declared.patches.Patch.{Patch}
use Rattle.amr_ghost.specs.Messages.{IsFrameCopy}
use Rattle.amr_ghost.specs.Outer.{IsOuterSpan, IsSpanBeside}
use Rattle.amr_ghost.specs.Parts.{IsRun}
use Rattle.amr_ghost.specs.declared.parts.FrameCopy.{FrameCopy}
use Rattle.amr_ghost.specs.declared.sources.GhostSpan.{GhostSpan}
use Rattle.amr_ghost.proofs.PartLaws.{copies_received, copies_taken, outer_beside, outer_spans, plan_small}
use Rattle.amr_ghost.proofs.Zips.{keeps_refl, zip_refl}
use Rattle.amr_ghost.specs.GhostCells.{KeepsCells}
use Rattle.amr_tests_levels.proofs.plans.fill_by.Goals as goal

pub part_frames-requires-clause-enough : goal.part_frames-requires-clause-enough
part_frames-requires-clause-enough c = plan_small (domain c.args.p.now 0) c.args.patches.now c.args.plan.now (length c.args.patches.now) 1 c.requires.plan.spans (omega arith)

pub outer_of-requires : goal.outer_of-requires
outer_of-requires c =
    let v = c.index.result.now in
    let ps = c.args.patches.now in
    let d = domain c.args.p.now 0 in
    let parts = c.in_ok-parts in
    All-same (IsOuterSpan d) c.deref.result.now (get_or parts.parts.outer.items 0 v).items (c.deref.ensures.value ∙ ap (λ (x : Vec GhostSpan). x.items) c.index.ensures)
    (outer_spans d ps c.args.plan.now (length ps) 1 parts.parts c.requires.plan.spans parts.ensures 0 v (omega arith))

-- all patches are one run
whole : (ps : List Patch) → IsRun (length ps) 0 ps ps
whole ps = record {
  small = omega arith;
  same = λ k q lt. ap (λ n. get_or ps n q) (omega arith);
  there = λ k lt. omega (arith, lt);
  whole = λ k lt there. lt;
}

pub fill_run-requires-clause-outer : goal.fill_run-requires-clause-outer
fill_run-requires-clause-outer c =
    let v = c.index.result.now in
    let ps = c.args.patches.now in
    let d = domain c.args.p.now 0 in
    let parts = c.in_ok-parts in
    c.in_ok-outer.ensures ps (All-same (IsSpanBeside ps) c.deref.result.now (get_or parts.parts.outer.items 0 v).items (c.deref.ensures.value ∙ ap (λ (x : Vec GhostSpan). x.items) c.index.ensures)
    (outer_beside d ps ps c.args.plan.now (length ps) 1 parts.parts c.requires.plan.spans parts.ensures (zip_refl KeepsCells keeps_refl ps) 0 ps v (omega arith) (whole ps)))

pub fill_run-requires-clause-copies : goal.fill_run-requires-clause-copies
fill_run-requires-clause-copies c =
    let v = c.index-2.result.now in
    let ps = c.args.patches.now in
    let d = domain c.args.p.now 0 in
    let parts = c.in_ok-parts in
    let kept = zip_refl KeepsCells keeps_refl ps in
    let within : All (IsFrameCopy ps) (get_or parts.parts.copies.items 0 v).items = λ k x lt. (
      copies_taken d ps ps c.args.plan.now (length ps) 1 parts.parts c.requires.plan.spans parts.ensures kept 0 0 ps v (omega arith) (omega arith) (whole ps) k x lt,
      copies_received d ps ps c.args.plan.now (length ps) 1 parts.parts c.requires.plan.spans parts.ensures kept 0 0 ps v (omega arith) (omega arith) (whole ps) k x lt,
    ) in
    All-same (IsFrameCopy ps) c.deref-2.result.now (get_or parts.parts.copies.items 0 v).items (c.deref-2.ensures.value ∙ ap (λ (x : Vec FrameCopy). x.items) c.index-2.ensures) within
