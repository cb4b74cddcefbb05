use Rattle.std.proofs.Common.{◌≡◌, ◌+◌, ◌<◌, ◌++◌, ◌∷◌, [], List, ℕ, length, take, sym, ap, subst, ◌∙◌, arith}
use Rattle.amr_box.specs.Cells.{Extent}
use Rattle.amr_def.specs.Domain.{domain}
use Rattle.amr_patch.specs.declared.patches.Patch.{Patch}
use Rattle.amr_patch.specs.Patches.{box}
use Rattle.amr_faces.specs.Faces.{IsInDomain}
use Rattle.amr_layout.specs.declared.FlowTo.{FlowTo}
use Rattle.amr_layout.specs.Adds.{HasCellsBeyond, flows_of}
use Rattle.amr_layout.specs.Arounds.{around_of}
use Rattle.amr_layout.specs.LevelFlowLists.{level_flows}
use Rattle.amr_layout.proofs.LevelFlowLists.{bounds_more, first_bound, none_yet, patch_more}
use Rattle.amr_layout.proofs.level_flows.flows_of_run.Goals as goal

pub loop-i-init : goal.loop-i-init
loop-i-init c = record {
  gap = tt;
  flows = c.new-flows.ensures.items ∙ sym (none_yet (around_of c.args.s) c.args.run.now);
  bounds = c.in_ok-push.ensures.items ∙ ap (λ (l : List ℕ). l ++ 0 ∷ []) c.in_ok-bounds.ensures.items ∙ first_bound (around_of c.args.s) c.args.run.now;
}

pub append_flows-requires-clause-inside : goal.append_flows-requires-clause-inside
append_flows-requires-clause-inside c =
    subst (λ (b : Extent). IsInDomain (domain c.args.s.problem.now c.args.s.level) b) (sym c.bx.ensures.value)
    (subst (λ (q : Patch). IsInDomain (domain c.args.s.problem.now c.args.s.level) (box q)) (sym c.index-run-i.is) (c.requires.inside c.loop-i.i c.index-run-i.result (omega arith)))

pub append_flows-requires-clause-there : goal.append_flows-requires-clause-there
append_flows-requires-clause-there c =
    subst (λ (b : Extent). HasCellsBeyond (around_of c.args.s) b) (sym c.bx.ensures.value)
    (subst (λ (q : Patch). HasCellsBeyond (around_of c.args.s) (box q)) (sym c.index-run-i.is) (c.requires.there c.loop-i.i c.index-run-i.result (omega arith)))

pub loop-i-preserved : goal.loop-i-preserved
loop-i-preserved c =
    let s = around_of c.args.s in
    let i = c.loop-i.i in
    let run = c.args.run.now in
    let q = c.index-run-i.result in
    let lt : i < length run = omega arith in
    let more : c.append_flows.new.flows.items ≡ level_flows s (take (i + 1) run) =
    c.in_ok-append_flows.ensures.flows ∙ (λ t. c.loop-i.invariant.flows t ++ flows_of s (c.bx.ensures.value t)) ∙ sym (patch_more s run i q lt c.index-run-i.is) in
    record {
      gap = c.in_ok-append_flows.ensures.gap;
      flows = more;
      bounds = c.in_ok-push-2.ensures.items ∙ bounds_more s run i c.len.result c.loop-i.bounds.items c.loop-i.invariant.bounds (c.len.ensures ∙ c.append_flows.new.flows.ok.0 ∙ ap (λ (l : List FlowTo). length l) more);
    }
