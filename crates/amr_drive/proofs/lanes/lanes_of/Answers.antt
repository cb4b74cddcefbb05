use Rattle.std.proofs.Common.{◌≡◌, ◌∙◌, ◌++◌, ◌∷◌, [], List, ap, length, subst, sym, arith, rules}
use Rattle.std.specs.Prelude.{slice_index_or}
use Rattle.std.proofs.lemmas.List.{get_or_default, length_push}
use Rattle.amr_def.specs.declared.problem.Problem.{Problem}
use Rattle.amr_drive.specs.declared.lanes.Lane.{Lane}
use Rattle.amr_drive.specs.Lanes.{IsNewLane}
use Rattle.amr_drive.proofs.Written.{one_pushed}
use Rattle.amr_drive.proofs.lanes.lanes_of.Goals as goal

pub loop-k-init : goal.loop-k-init
loop-k-init c = record { count = search rules; new = λ k p e lt. absurd (omega (arith, lt)) }

pub loop-k-preserved : goal.loop-k-preserved
loop-k-preserved c =
    let ps = c.args.problems.now in
    let workers = c.args.workers in
    let k = c.loop-k.k in
    let xs = c.loop-k.lanes.items in
    let lane = c.new_lane-lane.result in
    let inv = c.loop-k.invariant in
    let items : c.push.new.self.items ≡ xs ++ lane ∷ [] = c.in_ok-push.ensures.items in
    record {
      count = omega (arith, ap length items, length_push xs lane, inv.count);
      new = λ j q e lt.
          subst (λ (ls : List Lane). IsNewLane workers (slice_index_or ps j q) (slice_index_or ls j e)) (sym items)
          (one_pushed (λ i l. (p : Problem) → IsNewLane workers (slice_index_or ps i p) l) xs lane k inv.count (λ i d below p. inv.new i p d below) (λ p. record {
            problem = c.new_lane-lane.ensures.problem ∙ c.index-problems-k.is ∙ get_or_default ps k c.index-problems-k.result p (omega arith);
            some_workers = omega (arith, c.new_lane-lane.ensures.workers, c.share_of-share.ensures.some);
            few_workers = omega (arith, c.new_lane-lane.ensures.workers, c.share_of-share.ensures.few);
            kept = c.new_lane-lane.ensures.kept;
          }) j e lt q);
    }

pub returns : goal.returns
returns c = record {
  one_each = omega (arith, c.loop-k.invariant.count);
  new = λ k p e lt. c.loop-k.invariant.new k p e (omega (arith, lt));
}
