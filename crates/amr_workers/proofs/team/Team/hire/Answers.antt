use Rattle.std.proofs.Common.{◌≡◌, ℕ, ◌+◌, ◌<◌, List, [], ◌∷◌, length, get_or, refl, sym, ap, subst, arith}
use Rattle.std.specs.Arc.{arc_value}
use Rattle.std.specs.List.{All}
use Rattle.amr_workers.specs.declared.helper.Helper.{Helper}
use Rattle.amr_workers.specs.declared.helper.Recruit.{Recruit}
use Rattle.amr_workers.specs.declared.order.DrawOrder.{DrawOrder}
use Rattle.amr_workers.specs.Helpers.{IsHelper, IsRecruit}
use Rattle.std.proofs.lemmas.List.{length-append}
use Rattle.amr_mailbox.proofs.Lists.{all_snoc}
use Rattle.amr_workers.proofs.Lists.{one_numbered}
use Rattle.amr_workers.proofs.team.Team.hire.Goals as goal

pub loop-number-preserved : goal.loop-number-preserved
loop-number-preserved g c =
    let H : Type 0 = Helper g.row.P.Denot g.row.J.Denot g.row.G.Denot in
    let R : Type 0 = Recruit g.row.P.Denot g.row.J.Denot g.row.G.Denot in
    let Q : H → Type 0 = λ h. IsHelper {O = DrawOrder g.row.P.Denot} c.args.job.now c.args.gate.now c.args.workers (arc_value h.mailbox) h.asker in
    let S : R → Type 0 = λ r. IsRecruit {O = DrawOrder g.row.P.Denot} c.args.job.now c.args.gate.now (arc_value r.mailbox) r.worker r.number in
    let old = c.loop-number.invariant in
    let rs : List R = c.loop-number.recruits.items in
    let below : c.loop-number.number < c.args.workers = c.loop-number-test.true in
    record {
      helpers = subst (λ (l : List H). All Q l) (sym c.in_ok-push.ensures.items)
          (all_snoc Q c.loop-number.helpers.items c.in_ok-helper.helper old.helpers (c.in_ok-helper.ensures.helper c.args.workers below));
      recruits = subst (λ (l : List R). All S l) (sym c.in_ok-push-2.ensures.items)
          (all_snoc S c.loop-number.recruits.items c.in_ok-helper.recruit old.recruits c.in_ok-helper.ensures.recruit);
      count = (let more = c.in_ok-push.ensures.len in let so_far = old.count in omega arith);
      recruited = omega (arith, ap length c.in_ok-push-2.ensures.items, length-append rs (c.in_ok-helper.recruit ∷ []), c.in_ok-push.ensures.len, old.recruited);
      numbers = subst (λ (l : List R). (k : ℕ) (r : R) → k < length l → (get_or l k r).number ≡ 1 + k) (sym c.in_ok-push-2.ensures.items)
          (λ k d lt. one_numbered (λ (r : R). r.number) rs c.in_ok-helper.recruit (length rs) refl old.numbers (omega (arith, old.count, old.recruited, c.in_ok-helper.ensures.number)) k d (omega (arith, lt, length-append rs (c.in_ok-helper.recruit ∷ []))));
    }
