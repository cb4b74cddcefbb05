-- A swept piece whose lot reads what stands at its places: it stays as ready, and stands for what it stood for.
use Rattle.std.proofs.Common.{◌≡◌, ◌∙◌, inl, inr, ℕ, length, refl, sym, subst, arith}
use Rattle.std.specs.Box.{with_value}
use Rattle.std.specs.Global.{Vec}
use Rattle.amr_def.specs.declared.problem.Problem.{Problem}
use Rattle.amr_flux.specs.Rooms.{widest}
use Rattle.amr_board.specs.Ended.{EndedOf, face_of}
use Rattle.amr_lots.specs.declared.lot.Lot.{Lot}
use Rattle.amr_lots.specs.declared.lot.LotStage.{LotStage}
use Rattle.amr_lots.specs.declared.lot.Work.{Work}
use Rattle.amr_lots.specs.Ready.{MayComplete, MayFinish}
use Rattle.amr_lots.specs.Duties.{MaySend}
use Rattle.amr_lots.specs.LotSteps.{CanRead, CanStepBorder, HasFinishedLot, HasRead, KeepsButSizes}
use Rattle.amr_lots.specs.Works.{IsUnderWay, StandsFor, coarser_of, layouts_of, masses_of, patches_of}
use Rattle.amr_lots.specs.declared.lot.LotStage.TheVariants.{Finished, Raw, Swept}
use Rattle.amr_lots.proofs.Borders.{all_readable, all_sizes}
use Rattle.amr_lots.proofs.Finishing.{finished_stands, steps_stand, swept_steps}

-- ---- a piece with another lot

abbrev pub with_lot : Work → Lot → Work
with_lot v x = record { task = v.task; level = v.level; duty = v.duty; stage = v.stage; lot = with_value v.lot x; basis = v.basis }

-- finished with it
abbrev pub finished_with : Work → Lot → Work
finished_with v x = record { task = v.task; level = v.level; duty = v.duty; stage = Finished; lot = with_value v.lot x; basis = v.basis }

abbrev with_sizes : Lot → Vec ℕ → Lot
with_sizes x sizes = record x { workspace = record x.workspace { sizes = sizes } }

-- ---- other sizes

read_way : (w v : Work) (sizes : Vec ℕ) → length sizes.items ≡ length v.lot.value.workspace.sizes.items → IsUnderWay w v → IsUnderWay w (with_lot v (with_sizes v.lot.value sizes))
read_way w v sizes count way = record {
  begun = way.begun;
  layout = record {
    layouts = way.layout.layouts;
    flows = way.layout.flows;
    sides = way.layout.sides;
    words = way.layout.words;
    totals = way.layout.totals;
    copies = way.layout.copies;
    spans = way.layout.spans;
    coarser = way.layout.coarser;
    inbox = way.layout.inbox;
    room = way.layout.room;
    sizes = count ∙ way.layout.sizes;
  };
  before = way.before;
  correction = way.correction;
  places = way.places;
  values = way.values;
  count = way.count;
  swept = way.swept;
  finished = way.finished;
  edges = record { same = way.edges.same; small = way.edges.small; nets = way.edges.nets };
  unsent = way.unsent;
  sent = way.sent;
}

module _ (p : Problem) (faces : ℕ → ℕ) (places : ℕ) (v : Work) (may : MayFinish p faces places v) where
  pub can_read : CanRead faces places v.lot.value
  can_read = record {
    room = may.sizes;
    readable = all_readable p v.level (widest v.lot.value.workspace.room) (masses_of v.basis.value) (coarser_of v.basis.value) faces places (layouts_of v) (patches_of v) may.count may.waits;
  }

  -- the lot with the sizes that were read
  module _ (x : Lot) (kept : KeepsButSizes v.lot.value x) where
    pub read_may : MayFinish p faces places (with_lot v x)
    read_may = subst (λ y. MayFinish p faces places (with_lot v y)) (sym kept.others) (record {
      swept = may.swept;
      problem = may.problem;
      count = may.count;
      sizes = omega (arith, may.sizes, kept.count);
      waits = may.waits;
      sends = may.sends;
    })

    pub read_stands : (w : Work) → StandsFor w v → StandsFor w (with_lot v x)
    read_stands w stands = subst (λ y. StandsFor w (with_lot v y)) (sym kept.others) (record {
      keeps = record { task = stands.keeps.task; level = stands.keeps.level; duty = stands.keeps.duty; basis = stands.keeps.basis };
      does = steps_stand w.duty w v (with_lot v (with_sizes v.lot.value x.workspace.sizes)) stands.does may.swept (read_way w v x.workspace.sizes kept.count (swept_steps w.duty w v stands.does may.swept));
    })

    -- where all were read it can be finished
    module _ (read : HasRead faces x) where
      pub can_border : CanStepBorder p v.level x
      can_border =
          let m = read_may in (
            record { count = m.count; steps = λ k q t lt some. let u = m.waits k q t lt some in record { step = u.step; room = u.room } },
            all_sizes p v.level (widest x.workspace.room) (masses_of v.basis.value) (coarser_of v.basis.value) faces places x.workspace.layouts.items x.patches.items m.count m.waits x.workspace.sizes.items m.sizes read,
          )

      pub still_may_send : MaySend x
      still_may_send = read_may.sends

      pub all_stands : (z : Lot) → HasFinishedLot p v.level x z → (w : Work) → StandsFor w v → StandsFor w (finished_with v z)
      all_stands z h w stands =
          finished_stands p faces places (with_lot v x) (finished_with v z) read_may (record { task = refl; level = refl; duty = refl; basis = refl }) refl h w (read_stands w stands)

-- what may be completed and isn't finished may be finished
pub not_finished : (p : Problem) (ended : EndedOf Work) (v : Work) → (v.stage ≡ Finished → ⊥) → MayComplete p ended v → MayFinish p (face_of ended) ended.places v
not_finished p ended v other may = elim may [ inl e ↦ absurd (other e) | inr h ↦ h ]

-- what is neither raw nor finished is swept
pub still_swept : (s : LotStage) → (s ≡ Raw → ⊥) → (s ≡ Finished → ⊥) → s ≡ Swept
still_swept Raw a b = absurd (a refl)
still_swept Swept a b = refl
still_swept Finished a b = absurd (b refl)
