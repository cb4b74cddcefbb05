-- A piece whose task was drawn, while its lot is swept and posts.
use Rattle.std.proofs.Common.{◌≡◌, List, refl, sym, subst}
use Rattle.std.specs.Box.{with_value}
use Rattle.amr_def.specs.declared.problem.Problem.{Problem}
use Rattle.amr_phase.specs.declared.plan.Post.{Post}
use Rattle.amr_phase.specs.Plans.{PlanOf}
use Rattle.amr_lots.specs.declared.lot.Duty.{Duty}
use Rattle.amr_lots.specs.declared.lot.Duty.TheVariants.{Step}
use Rattle.amr_lots.specs.declared.lot.Lot.{Lot}
use Rattle.amr_lots.specs.declared.lot.LotStage.TheVariants.{Swept}
use Rattle.amr_lots.specs.declared.lot.Work.{Work}
use Rattle.amr_lots.specs.Ready.{CanStep, MayBegin, MayBeginIn, MayStepBeside}
use Rattle.amr_lots.specs.LotSteps.{ArePosts, CanStepInner, HasSteppedWhere, HasSweptLot, ReadsNone, ReadsSome}
use Rattle.amr_lots.specs.Works.{StandsFor, StandsForIn, adds_of_work, patches_of, puts_of_work}
use Rattle.amr_lots.proofs.Begun.{can_step}
use Rattle.amr_lots.proofs.Swept.{can_inner, posts, under_way}

-- a piece that is swept, with another lot
abbrev pub swept_with : Work → Lot → Work
swept_with v x = record { task = v.task; level = v.level; duty = v.duty; stage = Swept; lot = with_value v.lot x; basis = v.basis }

module _ (p : Problem) (plan : PlanOf) (w : Work) (step : w.duty ≡ Step) (begin : MayBegin p plan w) where
  beside : MayStepBeside plan w
  beside = subst (λ (d : Duty). MayBeginIn d plan w) step begin.duty

  -- its lot, by what a borrow of its block shows
  module _ (d : Lot) (d_is : d ≡ w.lot.value) where
    pub can_sweep : CanStep p w.level d.patches.items d.edges.items d.workspace
    can_sweep =
        subst (λ (x : Lot). CanStep p w.level x.patches.items x.edges.items x.workspace) (sym d_is)
        (subst (λ (u : Problem). CanStep u w.level (patches_of w) w.lot.value.edges.items w.lot.value.workspace) begin.problem (can_step plan w beside))

    module _ (a : Lot) (h : HasSweptLot p w.level d a) where
      swept : HasSweptLot w.basis.value.problem.value w.level w.lot.value a
      swept = subst (λ (u : Problem). HasSweptLot u w.level w.lot.value a) (sym begin.problem) (subst (λ (x : Lot). HasSweptLot p w.level x a) d_is h)

      pub posts_for : (b : Lot) → b ≡ a → (puts adds : List Post) → puts ≡ puts_of_work w → adds ≡ adds_of_work w → ArePosts b puts adds
      posts_for b b_is puts adds puts_are adds_are = subst (λ (x : Lot). ArePosts x puts adds) (sym b_is) (posts plan w beside a swept puts adds step puts_are adds_are)

      module _ (b : Lot) (b_is : b ≡ a) where
        pub inner_for : CanStepInner p w.level b
        inner_for = subst (CanStepInner p w.level) (sym b_is) (subst (λ (u : Problem). CanStepInner u w.level a) begin.problem (can_inner plan w beside a swept))

        pub swept_stands : (z : Lot) → HasSteppedWhere p w.level ReadsNone ReadsSome b z → StandsFor w (swept_with w z)
        swept_stands z g = record {
          keeps = record { task = refl; level = refl; duty = refl; basis = refl };
          does = subst (λ (k : Duty). StandsForIn k w (swept_with w z)) (sym step)
              (under_way plan w beside a swept (swept_with w z) refl
              (subst (λ (u : Problem). HasSteppedWhere u w.level ReadsNone ReadsSome a z) (sym begin.problem) (subst (λ (x : Lot). HasSteppedWhere p w.level ReadsNone ReadsSome x z) b_is g)));
        }
