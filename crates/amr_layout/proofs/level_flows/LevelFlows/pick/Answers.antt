use Rattle.std.proofs.Common.{◌≡◌, ◌∙◌, ◌++◌, ◌∷◌, ◌+◌, ◌<◌, List, ℕ, [], length, refl, take, sym, ap, arith}
use Rattle.std.specs.Prelude.{slice_index}
use Rattle.amr_layout.specs.declared.FlowTo.{FlowTo}
use Rattle.amr_layout.specs.LevelFlowLists.{picked_flows}
use Rattle.amr_layout.proofs.LevelFlowLists.{picked_bounds, picked_more}
use Rattle.amr_layout.proofs.level_flows.LevelFlows.pick.Goals as goal

pub loop-i-init : goal.loop-i-init
loop-i-init c = record {
  flows = c.new-flows.ensures.items;
  bounds = c.in_ok-push.ensures.items ∙ ap (λ (l : List ℕ). l ++ 0 ∷ []) c.in_ok-bounds.ensures.items;
}

pub loop-i-preserved : goal.loop-i-preserved
loop-i-preserved c =
    let v = c.args.self.now in
    let ns = c.args.numbers.now in
    let i = c.loop-i.i in
    let lt : i < length ns = omega arith in
    let more : c.extend_from_slice.new.self.items ≡ picked_flows v (take (i + 1) ns) =
    c.in_ok-extend_from_slice.ensures.items ∙ (λ t. c.loop-i.invariant.flows t ++ c.of.ensures t) ∙ sym (picked_more v ns i (slice_index ns i) lt refl) in
    record {
      flows = more;
      bounds = c.in_ok-push-2.ensures.items ∙ picked_bounds v ns i c.len.result c.loop-i.bounds.items c.loop-i.invariant.bounds (c.len.ensures ∙ c.extend_from_slice.new.self.ok.0 ∙ ap (λ (l : List FlowTo). length l) more);
    }
