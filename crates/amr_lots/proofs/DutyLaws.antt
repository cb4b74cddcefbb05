-- Duties that post nothing.
use Rattle.std.proofs.Common.{◌≡◌, ◌∙◌, [], length, refl, sym, ap}
use Rattle.amr_phase.specs.Plans.{PlanOf, adds_of, puts_of}
use Rattle.amr_board.specs.declared.view.View.{View}
use Rattle.amr_board.specs.Views.{HasWorked, IsFresh, current}
use Rattle.amr_lots.specs.declared.lot.Duty.{Duty}
use Rattle.amr_lots.specs.declared.lot.Duty.TheVariants.{Correct, Keep, Send, Step}
use Rattle.amr_lots.specs.declared.lot.LotStage.TheVariants.{Finished}
use Rattle.amr_lots.specs.declared.lot.Work.{Work}
use Rattle.amr_lots.specs.Ready.{MayBeginIn}
use Rattle.amr_lots.specs.Duties.{IsServed, MayServe}
use Rattle.amr_lots.specs.Works.{StandsForIn, adds_in, puts_in}

pub serves : (d : Duty) (plan : PlanOf) (w : Work) → (d ≡ Step → ⊥) → MayBeginIn d plan w → MayServe d w.lot.value
serves Step plan w other may = absurd (other refl)
serves Send plan w other may = may
serves Correct plan w other may = may
serves Keep plan w other may = may

pub no_puts : (d : Duty) (w : Work) → (d ≡ Step → ⊥) → puts_in d w ≡ []
no_puts Step w other = absurd (other refl)
no_puts Send w other = refl
no_puts Correct w other = refl
no_puts Keep w other = refl

pub no_adds : (d : Duty) (w : Work) → (d ≡ Step → ⊥) → adds_in d w ≡ []
no_adds Step w other = absurd (other refl)
no_adds Send w other = refl
no_adds Correct w other = refl
no_adds Keep w other = refl

pub served : (d : Duty) (w v : Work) → (d ≡ Step → ⊥) → v.stage ≡ Finished → IsServed d w.lot.value v.lot.value → StandsForIn d w v
served Step w v other finished h = absurd (other refl)
served Send w v other finished h = (finished, h)
served Correct w v other finished h = (finished, h)
served Keep w v other finished h = (finished, h)

pub worked_none : (plan : PlanOf) (v : View Work) → IsFresh v → puts_of plan (current v).task ≡ [] → adds_of plan (current v).task ≡ [] → HasWorked plan v v
worked_none plan v fresh puts adds = record {
  others = refl;
  count = refl;
  same_task = refl;
  ungiven = fresh.ungiven;
  is_taken = fresh.is_taken;
  puts = fresh.no_puts ∙ sym (ap length puts);
  adds = fresh.no_adds ∙ sym (ap length adds);
  past = refl;
  share = refl;
}
