use Rattle.std.proofs.Common.{◌≡◌, ℕ, ◌<◌, List, length, get_or, refl, sym, subst, arith}
use Rattle.std.specs.Global.{Box}
use Rattle.std.specs.List.{All}
use Rattle.std.specs.Option.{option_copied}
use Rattle.std.specs.Vec.{with_items}
use Rattle.std.proofs.lemmas.Result.{IfOk-weaker, on_err_weaker, on_ok_weaker}
use Rattle.amr_def.specs.declared.problem.Problem.{Problem}
use Rattle.amr_ghost.specs.Frames.{old_masses}
use Rattle.amr_board.specs.declared.board.Shape.{Shape}
use Rattle.amr_lots.specs.declared.lot.StepBasis.{StepBasis}
use Rattle.amr_lots.specs.declared.lot.Duty.{Duty}
use Rattle.amr_lots.specs.declared.lot.Duty.TheVariants.{Step}
use Rattle.amr_lots.specs.declared.lot.Lot.{Lot}
use Rattle.amr_lots.specs.Runs.{HasBoxes, run}
use Rattle.amr_patch.specs.Patches.{masses_in}
use Rattle.amr_advance.specs.Handed.{AreHanded, AreLent, HaveBeenHanded}
use Rattle.amr_advance.specs.Phases.{ArePieces, IsOpened, MayBeRun}
use Rattle.amr_advance.proofs.Delivered.{all_may_send, sent_from}
use Rattle.amr_advance.proofs.InLots.{IsInStep, in_step}
use Rattle.amr_advance.proofs.LotCounts.{few_runs, fewer_tasks}
use Rattle.amr_advance.proofs.LotsHanded.{AreSentFrom, HaveRuns, all_exchanged, all_handed, all_lent, boxes, first_counts, first_empty, first_lots, handed_empty, handed_lots, lent_runs, list_counts, still_carried}
use Rattle.amr_advance.proofs.SteppedLots.{may_run, several, xs_count}
use Rattle.amr_advance.proofs.level.open_step.Given as given
use Rattle.amr_advance.proofs.level.open_step.Goals.{After-exchange_lists, After-exchange_messages, After-exchange_runs, After-pack_lots}
use Rattle.amr_advance.proofs.level.open_step.Goals as goal
use Rattle.amr_advance.specs.Steps.{around_of}

-- ---- the stages of the step

in_its_step : (g : given.Over) (c : After-exchange_runs g) → IsInStep (around_of c.args.given c.args.patches.now) (old_masses (option_copied c.args.given.old)) c.args.lots.now
in_its_step g c = in_step (around_of c.args.given c.args.patches.now) (old_masses (option_copied c.args.given.old)) c.args.lots.now c.requires.step.level c.requires.lots.lots

handed : (g : given.Over) (c : After-exchange_runs g) → AreHanded c.args.lots.now.each c.args.patches.now c.args.lots.now.lots.items (with_items c.args.lots.now.lots c.exchange_runs.new.lots).items
handed g c =
    let call = c.exchange_runs.ensures in
    all_handed c.args.lots.now.each c.args.patches.now c.args.lots.now.lots c.deref_mut.result.now c.exchange_runs.new.lots c.deref_mut.ensures.value (record { patches = call.handed; others = call.others })

handed_back : (g : given.Over) (c : After-exchange_runs g) → (k : ℕ) (x : Box Lot) → k < length c.args.lots.now.lots.items → run c.args.lots.now.each k c.exchange_runs.new.patches ≡ (get_or c.args.lots.now.lots.items k x).value.patches.items
handed_back g c = subst (λ (ys : List (Box Lot)). (k : ℕ) (x : Box Lot) → k < length ys → run c.args.lots.now.each k c.exchange_runs.new.patches ≡ (get_or ys k x).value.patches.items) c.deref_mut.ensures.value c.exchange_runs.ensures.back

lent : (g : given.Over) (c : After-exchange_lists g) → AreLent c.args.lots.now.each c.args.edges.now c.exchange_lists.new.edges (with_items c.args.lots.now.lots c.exchange_runs.new.lots).items
    (with_items (with_items c.args.lots.now.lots c.exchange_runs.new.lots) c.exchange_lists.new.lots).items
lent g c =
    let call = c.exchange_lists.ensures in
    all_lent c.args.lots.now.each c.args.edges.now c.exchange_lists.new.edges (with_items c.args.lots.now.lots c.exchange_runs.new.lots) c.deref_mut-2.result.now c.exchange_lists.new.lots c.deref_mut-2.ensures.value
    (record { none = call.none; handed = call.handed; back = call.back; count = call.count; others = call.others })

-- the lots with their runs of patches and lists
with_runs : (g : given.Over) (c : After-exchange_lists g) → HaveRuns (in_its_step g (goal.at.After-exchange_lists g c).After-exchange_runs) (with_items (with_items c.args.lots.now.lots c.exchange_runs.new.lots) c.exchange_lists.new.lots).items
    (with_items (with_items c.args.lots.now.lots c.exchange_runs.new.lots) c.exchange_lists.new.lots).items
with_runs g c =
    let at = goal.at.After-exchange_lists g c in
    let level = in_its_step g at.After-exchange_runs in
    lent_runs level (first_lots level (several level c.requires.several c.requires.lots.values) c.requires.lots.values) (handed g at.After-exchange_runs) (lent g c)

sent : (g : given.Over) (c : After-pack_lots g) → AreSentFrom (in_its_step g (goal.at.After-pack_lots g c).After-exchange_runs) (with_items (with_items c.args.lots.now.lots c.exchange_runs.new.lots) c.exchange_lists.new.lots).items c.pack_lots.new.lots.lots.items
sent g c =
    let at = goal.at.After-pack_lots g c in
    let level = in_its_step g at.After-exchange_runs in
    let first = first_lots level (several level c.requires.several c.requires.lots.values) c.requires.lots.values in
    sent_from level (with_runs g at.After-exchange_lists) (still_carried level first (handed g at.After-exchange_runs) (lent g at.After-exchange_lists) (masses_in c.args.patches.now)) c.requires.lots.packed c.pack_lots.new.lots.lots.items
    (λ packed i. (c.pack_lots.ensures.packed packed i).lots.items) c.pack_lots.ensures.sent

handed_over : (g : given.Over) (c : After-exchange_messages g) → HaveBeenHanded c.args.lots.now c.args.patches.now c.exchange_runs.new.patches c.args.edges.now c.exchange_lists.new.edges (with_items c.pack_lots.new.lots.lots c.exchange_messages.new.lots).items
handed_over g c =
    let at = goal.at.After-exchange_messages g c in
    let call = c.exchange_messages.ensures in
    record {
      handed = (with_items c.args.lots.now.lots c.exchange_runs.new.lots).items;
      patches = handed g at.After-exchange_runs;
      patches_back = handed_back g at.After-exchange_runs;
      count = c.exchange_runs.ensures.count;
      lent = (with_items (with_items c.args.lots.now.lots c.exchange_runs.new.lots) c.exchange_lists.new.lots).items;
      lists = lent g at.After-exchange_lists;
      sent = c.pack_lots.new.lots.lots.items;
      packed = λ packed i. (c.pack_lots.ensures.packed packed i).lots.items;
      packed_now = c.pack_lots.ensures.sent;
      delivered = all_exchanged c.pack_lots.new.lots.lots c.deref_mut-3.result.now c.exchange_messages.new.lots c.deref_mut-3.ensures.value (record { delivered = call.delivered; back = call.back; others = call.others });
    }

-- ---- the goals

pub exchange_runs-requires : goal.exchange_runs-requires
exchange_runs-requires g c = record {
  counts = subst (λ (ys : List (Box Lot)). (k : ℕ) (x : Box Lot) → k < length ys → length (get_or ys k x).value.patches.items ≡ length (run c.args.lots.now.each k c.args.patches.now)) (sym c.deref_mut.ensures.value)
      (let level = in_step (around_of c.args.given c.args.patches.now) (old_masses (option_copied c.args.given.old)) c.args.lots.now c.requires.step.level c.requires.lots.lots in
      first_counts level (several level c.requires.several c.requires.lots.values) c.requires.lots.values);
}

pub exchange_lists-requires : goal.exchange_lists-requires
exchange_lists-requires g c =
    let at = goal.at.exchange_lists-requires g c in
    let level = in_its_step g at.After-exchange_runs in
    let all = several level c.requires.several c.requires.lots.values in
    let first = first_lots level all c.requires.lots.values in
    record {
      counts = λ some. subst (λ (ys : List (Box Lot)). (k : ℕ) (x : Box Lot) → k < length ys → length (get_or ys k x).value.edges.items ≡ length (run c.args.lots.now.each k c.args.edges.now)) (sym c.deref_mut-2.ensures.value)
          (list_counts level c.args.edges.now (handed_lots level first (handed g at.After-exchange_runs)) (handed_empty level first (handed g at.After-exchange_runs) (first_empty level all c.requires.lots.values)) c.requires.edges some);
    }

pub pack_lots-requires-clause-problem : goal.pack_lots-requires-clause-problem
pack_lots-requires-clause-problem g c κs within = c.requires.step.basis.problem

pub pack_lots-requires-clause-few : goal.pack_lots-requires-clause-few
pack_lots-requires-clause-few g c κs within =
    let at = goal.at.pack_lots-requires-clause-few g c in
    let level = in_its_step g at.After-exchange_runs in
    let all = with_runs g at.After-exchange_lists in
    let n = all.lots.count in
    let m = c.requires.lots.lots.many in
    omega (arith, n, m)

pub pack_lots-requires-clause-may : goal.pack_lots-requires-clause-may
pack_lots-requires-clause-may g c κs within =
    let at = goal.at.pack_lots-requires-clause-may g c in
    let level = in_its_step g at.After-exchange_runs in
    all_may_send level (with_runs g at.After-exchange_lists)

pub pack_lots-requires-clause-crew : goal.pack_lots-requires-clause-crew
pack_lots-requires-clause-crew g c κs within =
    let at = goal.at.pack_lots-requires-clause-crew g c in
    let level = in_its_step g at.After-exchange_runs in
    let all = with_runs g at.After-exchange_lists in
    let t = c.args.lots.now in
    let few = few_runs t.each (length t.lots.items) (length c.args.patches.now) c.requires.lots.lots.some (several level c.requires.several c.requires.lots.values).tight in
    fewer_tasks _ c.args.given.problem.now _ (length c.args.patches.now) c.args.workers.now (let n = all.lots.count in omega (arith, n, few)) c.requires.crew

pub exchange_messages-requires : goal.exchange_messages-requires
exchange_messages-requires g c =
    let at = goal.at.exchange_messages-requires g c in
    let xs = c.pack_lots.new.lots.lots.items in
    record { boxes = subst (λ (ys : List (Box Lot)). All (HasBoxes (length ys)) ys) (sym c.deref_mut-3.ensures.value) (boxes (in_its_step g at.After-exchange_runs) xs (sent g at.After-pack_lots).all.lots) }

pub open_lots-requires-clause-few : goal.open_lots-requires-clause-few
open_lots-requires-clause-few g c =
    let at = goal.at.open_lots-requires-clause-few g c in
    let n = xs_count (in_its_step g at.After-exchange_runs) c.requires.several c.requires.lots.values (handed_over g at.After-exchange_messages) c.requires.edges c.requires.lots.packed in
    let m = c.requires.lots.lots.many in
    omega (arith, n, m)

pub open_lots-requires-clause-pieces : goal.open_lots-requires-clause-pieces
open_lots-requires-clause-pieces g c = λ ws raw.
    let at = goal.at.open_lots-requires-clause-pieces g c in
    let xs = (with_items c.pack_lots.new.lots.lots c.exchange_messages.new.lots).items in
    let of : ArePieces c.args.given.basis.now c.args.given.level Step xs ws =
    subst (λ (b : StepBasis). ArePieces b c.args.given.level Step xs ws) c.phase_of.ensures.basis (subst (λ n. ArePieces c.phase_of.result.basis.now n Step xs ws) c.phase_of.ensures.level (subst (λ (d : Duty). ArePieces c.phase_of.result.basis.now c.phase_of.result.level d xs ws) c.phase_of.ensures.duty raw)) in
    subst (λ (p : Problem). MayBeRun p c.pack_lots.new.lots.shape ws) (sym c.phase_of.ensures.problem)
    (subst (λ (h : Shape). MayBeRun c.args.given.problem.now h ws) (λ i. (sym c.pack_lots.ensures.rest i).shape)
    (may_run (in_its_step g at.After-exchange_runs) c.requires.several c.requires.lots.values (handed_over g at.After-exchange_messages) c.requires.edges c.requires.lots.packed
    c.args.given.basis.now (option_copied c.args.given.old) c.requires.step.basis refl ws of))

pub returns-clause-opened : goal.returns-clause-opened
returns-clause-opened g c =
    let at = goal.at.returns-clause-opened g c in
    let q = c.phase_of.result in
    let xs = (with_items c.pack_lots.new.lots.lots c.exchange_messages.new.lots).items in
    let shape : c.pack_lots.new.lots.shape ≡ c.args.lots.now.shape = λ i. (c.pack_lots.ensures.rest i).shape in
    IfOk-weaker c.open_lots.result _ _ (λ r begun. (
      xs,
      handed_over g at.After-exchange_messages,
      subst (λ (h : Shape). IsOpened c.args.given.basis.now c.args.given.level Step c.args.given.problem.now h xs r.0 r.1) shape
          (subst (λ (p : Problem). IsOpened c.args.given.basis.now c.args.given.level Step p c.pack_lots.new.lots.shape xs r.0 r.1) c.phase_of.ensures.problem
          (subst (λ (b : StepBasis). IsOpened b c.args.given.level Step q.problem.now c.pack_lots.new.lots.shape xs r.0 r.1) c.phase_of.ensures.basis
          (subst (λ n. IsOpened q.basis.now n Step q.problem.now c.pack_lots.new.lots.shape xs r.0 r.1) c.phase_of.ensures.level
          (subst (λ (d : Duty). IsOpened q.basis.now q.level d q.problem.now c.pack_lots.new.lots.shape xs r.0 r.1) c.phase_of.ensures.duty begun)))),
    )) c.open_lots.ensures.opened

pub returns-clause-room : goal.returns-clause-room
returns-clause-room g c =
    let at = goal.at.returns-clause-room g c in
    let n = xs_count (in_its_step g at.After-exchange_runs) c.requires.several c.requires.lots.values (handed_over g at.After-exchange_messages) c.requires.edges c.requires.lots.packed in
    on_ok_weaker c.open_lots.result (λ room. omega (arith, n, room)) c.open_lots.ensures.room

pub returns-clause-back : goal.returns-clause-back
returns-clause-back g c =
    let at = goal.at.returns-clause-back g c in
    on_err_weaker c.open_lots.result (λ same. subst (HaveBeenHanded c.args.lots.now c.args.patches.now c.exchange_runs.new.patches c.args.edges.now c.exchange_lists.new.edges) (sym same) (handed_over g at.After-exchange_messages)) c.open_lots.ensures.back
