use Rattle.std.proofs.Common.{◌≡◌, ℕ, ◌*◌, ◌^◌, ◌<◌, List, length, get_or, sym, subst, arith}
use Rattle.std.specs.Global.{Box}
use Rattle.std.specs.List.{All, AllZip}
use Rattle.std.specs.Vec.{with_items}
use Rattle.std.proofs.lemmas.List.Elements.{length_all_zip}
use Rattle.amr_lots.specs.declared.lot.Duty.{Duty}
use Rattle.amr_lots.specs.declared.lot.Duty.TheVariants.{Correct}
use Rattle.amr_lots.specs.declared.lot.Lot.{Lot}
use Rattle.amr_patch.specs.Patches.{masses_in}
use Rattle.amr_lots.specs.Runs.{KeepOthers, run}
use Rattle.amr_lots.specs.Duties.{IsServed, MayServe}
use Rattle.amr_advance.specs.Correction.{KeepsAllButCorrection}
use Rattle.amr_advance.proofs.KeptRuns.{AreServed, AreTraded, KeepRuns, PackRuns, all_traded, few_lots, now_serve, same_count, several_of, still_serve}
use Rattle.amr_advance.proofs.CorrectedLots.{AreGivenBack, AreLentParts, IsGivenBack, all_corrected, all_current, all_given_back, all_may_correct, all_new, counts_back, lent_counts, lent_small}
use Rattle.amr_advance.proofs.LotCounts.{few_runs, fewer_tasks}
use Rattle.amr_advance.proofs.LotsHanded.{when_lent}
use Rattle.amr_advance.proofs.correction.correct_in_lots.Given as given
use Rattle.amr_advance.proofs.correction.correct_in_lots.Goals.{After-deref_mut-in-Ok, After-exchange_runs, After-exchange_runs-in-Ok, After-serve_lots, After-take_back, After-take_back-in-Ok}
use Rattle.amr_advance.proofs.correction.correct_in_lots.Goals as goal

-- ---- the stages

lent : (g : given.Over) (c : After-deref_mut-in-Ok g) → AreLentParts c.args.lots.now.each c.args.whole.now c.args.lots.now.lots.items (with_items c.args.lots.now.lots c.lend.new.lots).items
lent g c =
    when_lent (AreLentParts c.args.lots.now.each c.args.whole.now) c.args.lots.now.lots c.deref_mut.result.now c.lend.new.lots c.deref_mut.ensures.value (sym c.lend.auto.lots)
    (record { count = c.lend.auto.lots; parts = c.in-Ok.ensures.lent })

traded : (g : given.Over) (c : After-exchange_runs g) → AreTraded c.args.lots.now.each c.args.patches.now c.exchange_runs.new.patches (with_items c.args.lots.now.lots c.lend.new.lots).items (with_items (with_items c.args.lots.now.lots c.lend.new.lots) c.exchange_runs.new.lots).items
traded g c =
    let call = c.exchange_runs.ensures in
    all_traded c.args.lots.now.each c.args.patches.now c.exchange_runs.new.patches (with_items c.args.lots.now.lots c.lend.new.lots) c.deref_mut-in-Ok.result.now c.exchange_runs.new.lots c.deref_mut-in-Ok.ensures.value (record { handed = call.handed; back = call.back; count = call.count; others = call.others })

served : (g : given.Over) (c : After-serve_lots g) → AreServed Correct (with_items (with_items c.args.lots.now.lots c.lend.new.lots) c.exchange_runs.new.lots).items c.serve_lots.new.lots.items
served g c = record { served = subst (λ (d : Duty). AllZip (λ (a b : Box Lot). IsServed d a.value b.value) (with_items (with_items c.args.lots.now.lots c.lend.new.lots) c.exchange_runs.new.lots).items c.serve_lots.new.lots.items) c.requires.duty c.serve_lots.ensures.served }

returned : (g : given.Over) (c : After-exchange_runs-in-Ok g) → AreTraded c.args.lots.now.each c.exchange_runs.new.patches c.exchange_runs-in-Ok.new.patches c.serve_lots.new.lots.items (with_items c.serve_lots.new.lots c.exchange_runs-in-Ok.new.lots).items
returned g c =
    let call = c.exchange_runs-in-Ok.ensures in
    all_traded c.args.lots.now.each c.exchange_runs.new.patches c.exchange_runs-in-Ok.new.patches c.serve_lots.new.lots c.deref_mut-in-Ok-2.result.now c.exchange_runs-in-Ok.new.lots c.deref_mut-in-Ok-2.ensures.value (record { handed = call.handed; back = call.back; count = call.count; others = call.others })

given_back : (g : given.Over) (c : After-take_back-in-Ok g) → AreGivenBack (with_items c.serve_lots.new.lots c.exchange_runs-in-Ok.new.lots).items (with_items (with_items c.serve_lots.new.lots c.exchange_runs-in-Ok.new.lots) c.take_back-in-Ok.new.lots).items
given_back g c =
    let v = with_items c.serve_lots.new.lots c.exchange_runs-in-Ok.new.lots in
    when_lent AreGivenBack v c.deref_mut-in-Ok-3.result.now c.take_back-in-Ok.new.lots c.deref_mut-in-Ok-3.ensures.value (length_all_zip IsGivenBack c.deref_mut-in-Ok-3.result.now c.take_back-in-Ok.new.lots c.take_back-in-Ok.ensures) (record { back = c.take_back-in-Ok.ensures })

-- what the lots keep, whether they corrected the patches or not
done : (g : given.Over) (c : After-take_back-in-Ok g) → PackRuns c.args.lots.now.each c.exchange_runs-in-Ok.new.patches c.args.lots.now.lots.items (with_items (with_items c.serve_lots.new.lots c.exchange_runs-in-Ok.new.lots) c.take_back-in-Ok.new.lots).items
done g c =
    let at = goal.at.After-take_back-in-Ok g c in
    all_new c.args.patches.now c.args.whole.now c.requires.lots (lent g at.After-deref_mut-in-Ok) (traded g at.After-exchange_runs) (served g at.After-serve_lots) (returned g at.After-exchange_runs-in-Ok) (given_back g c)

undone : (g : given.Over) (c : After-take_back g) → KeepRuns c.args.lots.now.lots.items (with_items (with_items c.args.lots.now.lots c.lend.new.lots) c.take_back.new.lots).items
undone g c =
    let v = c.args.lots.now.lots in
    let w = with_items v c.lend.new.lots in
    let R : List (Box Lot) → List (Box Lot) → Type 0 = AllZip (λ (a b : Box Lot). KeepsAllButCorrection a.value b.value) in
    all_given_back v.items w.items (with_items w c.take_back.new.lots).items (when_lent R v c.deref_mut.result.now c.lend.new.lots c.deref_mut.ensures.value (sym c.lend.auto.lots) c.lend.ensures.kept)
    (when_lent AreGivenBack w c.deref_mut-in-Err.result.now c.take_back.new.lots c.deref_mut-in-Err.ensures.value (length_all_zip IsGivenBack c.deref_mut-in-Err.result.now c.take_back.new.lots c.take_back.ensures) (record { back = c.take_back.ensures }))

-- ---- the goals

pub lend-requires : goal.lend-requires
lend-requires g c = record { small = subst (λ (xs : List (Box Lot)). (k : ℕ) → k < length xs → k * c.args.lots.now.each < 2 ^ 62) (sym c.deref_mut.ensures.value) (lent_small c.args.patches.now c.requires.lots) }

pub exchange_runs-requires : goal.exchange_runs-requires
exchange_runs-requires g c = record {
  counts = subst (λ (xs : List (Box Lot)). (k : ℕ) (x : Box Lot) → k < length xs → length (get_or xs k x).value.patches.items ≡ length (run c.args.lots.now.each k c.args.patches.now)) (sym c.deref_mut-in-Ok.ensures.value)
      (lent_counts c.args.patches.now c.args.whole.now c.requires.lots (lent g c));
}

pub serve_lots-requires-clause-few : goal.serve_lots-requires-clause-few
serve_lots-requires-clause-few g c κs within =
    let at = goal.at.serve_lots-requires-clause-few g c in
    let n = length_all_zip KeepOthers (with_items c.args.lots.now.lots c.lend.new.lots).items (with_items (with_items c.args.lots.now.lots c.lend.new.lots) c.exchange_runs.new.lots).items (traded g at.After-exchange_runs).others in
    let m = (lent g at.After-deref_mut-in-Ok).count in
    omega (arith, n, m, few_lots c.args.patches.now c.requires.lots)

pub serve_lots-requires-clause-may : goal.serve_lots-requires-clause-may
serve_lots-requires-clause-may g c κs within =
    let at = goal.at.serve_lots-requires-clause-may g c in
    subst (λ (d : Duty). All (λ (x : Box Lot). MayServe d x.value) (with_items (with_items c.args.lots.now.lots c.lend.new.lots) c.exchange_runs.new.lots).items) (sym c.requires.duty)
    (all_may_correct c.args.patches.now c.args.whole.now c.requires.lots (lent g at.After-deref_mut-in-Ok) (traded g at.After-exchange_runs) c.requires.ready c.requires.apart c.requires.edges c.requires.fits)

pub serve_lots-requires-clause-crew : goal.serve_lots-requires-clause-crew
serve_lots-requires-clause-crew g c κs within =
    let at = goal.at.serve_lots-requires-clause-crew g c in
    let t = c.args.lots.now in
    let tight = (several_of c.args.patches.now c.requires.lots).tight in
    let few = few_runs t.each (length t.lots.items) (length c.args.patches.now) c.requires.lots.lots.some (omega (arith, tight, same_count c.args.patches.now c.requires.lots)) in
    let n = length_all_zip KeepOthers (with_items t.lots c.lend.new.lots).items (with_items (with_items t.lots c.lend.new.lots) c.exchange_runs.new.lots).items (traded g at.After-exchange_runs).others in
    let m = (lent g at.After-deref_mut-in-Ok).count in
    fewer_tasks _ c.args.phase.problem.now _ (length c.args.patches.now) c.args.workers.now (omega (arith, n, m, few)) c.requires.crew

pub exchange_runs-requires-in-Ok : goal.exchange_runs-requires-in-Ok
exchange_runs-requires-in-Ok g c =
    let at = goal.at.exchange_runs-requires-in-Ok g c in
    record {
      counts = subst (λ (xs : List (Box Lot)). (k : ℕ) (x : Box Lot) → k < length xs → length (get_or xs k x).value.patches.items ≡ length (run c.args.lots.now.each k c.exchange_runs.new.patches)) (sym c.deref_mut-in-Ok-2.ensures.value)
          (counts_back c.args.patches.now c.args.whole.now c.requires.lots (lent g at.After-deref_mut-in-Ok) (traded g at.After-exchange_runs) (served g at.After-serve_lots));
    }

pub returns-in-Err-clause-lots : goal.returns-in-Err-clause-lots
returns-in-Err-clause-lots g c = still_serve c.args.lots.now (with_items (with_items c.args.lots.now.lots c.lend.new.lots) c.take_back.new.lots) c.requires.lots.several (undone g (goal.at.returns-in-Err-clause-lots g c).After-take_back)

pub returns-in-Ok-clause-corrected : goal.returns-in-Ok-clause-corrected
returns-in-Ok-clause-corrected g c _ =
    let at = goal.at.returns-in-Ok-clause-corrected g c in
    all_corrected c.args.patches.now c.args.whole.now c.requires.lots (lent g at.After-deref_mut-in-Ok) (traded g at.After-exchange_runs) (served g at.After-serve_lots) (returned g at.After-exchange_runs-in-Ok)

pub returns-in-Ok-clause-lots : goal.returns-in-Ok-clause-lots
returns-in-Ok-clause-lots g c =
    let at = goal.at.returns-in-Ok-clause-lots g c in
    now_serve c.args.lots.now (with_items (with_items c.serve_lots.new.lots c.exchange_runs-in-Ok.new.lots) c.take_back-in-Ok.new.lots) (masses_in c.exchange_runs-in-Ok.new.patches) c.exchange_runs-in-Ok.new.patches c.requires.lots.several (done g at.After-take_back-in-Ok)
    (all_current c.args.patches.now c.args.whole.now c.requires.lots (lent g at.After-deref_mut-in-Ok) (traded g at.After-exchange_runs) (served g at.After-serve_lots) (returned g at.After-exchange_runs-in-Ok) (given_back g at.After-take_back-in-Ok) c.requires.apart)
