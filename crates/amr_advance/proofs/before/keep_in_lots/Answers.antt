use Rattle.std.proofs.Common.{◌≡◌, ℕ, ◌<◌, List, length, get_or, sym, subst, arith}
use Rattle.std.specs.Global.{Box}
use Rattle.std.specs.List.{All, AllZip}
use Rattle.std.specs.Vec.{with_items}
use Rattle.std.proofs.lemmas.List.Elements.{length_all_zip}
use Rattle.amr_lots.specs.declared.lot.Duty.{Duty}
use Rattle.amr_lots.specs.declared.lot.Duty.TheVariants.{Keep}
use Rattle.amr_lots.specs.declared.lot.Lot.{Lot}
use Rattle.amr_lots.specs.Runs.{KeepAllButBefore, KeepOthers, run}
use Rattle.amr_lots.specs.Duties.{IsServed, MayServe}
use Rattle.amr_advance.proofs.KeptRuns.{AreServed, AreTraded, KeepRuns, all_traded, counts, few_lots, same_count, several_of, still_serve}
use Rattle.amr_advance.proofs.LotCounts.{few_runs, fewer_tasks}
use Rattle.amr_advance.proofs.KeptMasses.{AreTradedBefore, all_copied, all_may_keep, all_new, all_traded_before, before_back, before_counts, patches_back, same_patches}
use Rattle.amr_advance.proofs.before.keep_in_lots.Given as given
use Rattle.amr_advance.proofs.before.keep_in_lots.Goals.{After-exchange_before, After-exchange_before-2, After-exchange_runs, After-exchange_runs-2, After-serve_lots}
use Rattle.amr_advance.proofs.before.keep_in_lots.Goals as goal

-- ---- the stages

traded : (g : given.Over) (c : After-exchange_runs g) → AreTraded c.args.lots.now.each c.args.patches.now c.exchange_runs.new.patches c.args.lots.now.lots.items (with_items c.args.lots.now.lots c.exchange_runs.new.lots).items
traded g c =
    let call = c.exchange_runs.ensures in
    all_traded c.args.lots.now.each c.args.patches.now c.exchange_runs.new.patches c.args.lots.now.lots c.deref_mut.result.now c.exchange_runs.new.lots c.deref_mut.ensures.value (record { handed = call.handed; back = call.back; count = call.count; others = call.others })

given_before : (g : given.Over) (c : After-exchange_before g) → AreTradedBefore c.args.lots.now.each c.args.before.now c.exchange_before.new.patches (with_items c.args.lots.now.lots c.exchange_runs.new.lots).items
    (with_items (with_items c.args.lots.now.lots c.exchange_runs.new.lots) c.exchange_before.new.lots).items
given_before g c =
    let call = c.exchange_before.ensures in
    all_traded_before c.args.lots.now.each c.args.before.now c.exchange_before.new.patches (with_items c.args.lots.now.lots c.exchange_runs.new.lots) c.deref_mut-2.result.now c.exchange_before.new.lots c.deref_mut-2.ensures.value
    (record { handed = call.handed; back = call.back; count = call.count; others = call.others })

served : (g : given.Over) (c : After-serve_lots g) → AreServed Keep (with_items (with_items c.args.lots.now.lots c.exchange_runs.new.lots) c.exchange_before.new.lots).items c.serve_lots.new.lots.items
served g c = record { served = subst (λ (d : Duty). AllZip (λ (a b : Box Lot). IsServed d a.value b.value) (with_items (with_items c.args.lots.now.lots c.exchange_runs.new.lots) c.exchange_before.new.lots).items c.serve_lots.new.lots.items) c.requires.duty c.serve_lots.ensures.served }

back_before : (g : given.Over) (c : After-exchange_before-2 g) → AreTradedBefore c.args.lots.now.each c.exchange_before.new.patches c.exchange_before-2.new.patches c.serve_lots.new.lots.items (with_items c.serve_lots.new.lots c.exchange_before-2.new.lots).items
back_before g c =
    let call = c.exchange_before-2.ensures in
    all_traded_before c.args.lots.now.each c.exchange_before.new.patches c.exchange_before-2.new.patches c.serve_lots.new.lots c.deref_mut-3.result.now c.exchange_before-2.new.lots c.deref_mut-3.ensures.value
    (record { handed = call.handed; back = call.back; count = call.count; others = call.others })

returned : (g : given.Over) (c : After-exchange_runs-2 g) → AreTraded c.args.lots.now.each c.exchange_runs.new.patches c.exchange_runs-2.new.patches (with_items c.serve_lots.new.lots c.exchange_before-2.new.lots).items
    (with_items (with_items c.serve_lots.new.lots c.exchange_before-2.new.lots) c.exchange_runs-2.new.lots).items
returned g c =
    let call = c.exchange_runs-2.ensures in
    all_traded c.args.lots.now.each c.exchange_runs.new.patches c.exchange_runs-2.new.patches (with_items c.serve_lots.new.lots c.exchange_before-2.new.lots) c.deref_mut-4.result.now c.exchange_runs-2.new.lots c.deref_mut-4.ensures.value
    (record { handed = call.handed; back = call.back; count = call.count; others = call.others })

kept : (g : given.Over) (c : After-exchange_runs-2 g) → KeepRuns c.args.lots.now.lots.items (with_items (with_items c.serve_lots.new.lots c.exchange_before-2.new.lots) c.exchange_runs-2.new.lots).items
kept g c =
    let at = goal.at.After-exchange_runs-2 g c in
    all_new c.args.patches.now c.args.before.now c.requires.lots c.requires.boxes (traded g at.After-exchange_runs) (given_before g at.After-exchange_before) (served g at.After-serve_lots) (back_before g at.After-exchange_before-2) (returned g c)

-- ---- the goals

pub exchange_runs-requires : goal.exchange_runs-requires
exchange_runs-requires g c = record {
  counts = subst (λ (xs : List (Box Lot)). (k : ℕ) (x : Box Lot) → k < length xs → length (get_or xs k x).value.patches.items ≡ length (run c.args.lots.now.each k c.args.patches.now)) (sym c.deref_mut.ensures.value) (counts c.args.patches.now c.requires.lots);
}

pub exchange_before-requires : goal.exchange_before-requires
exchange_before-requires g c =
    let at = goal.at.exchange_before-requires g c in
    record {
      counts = subst (λ (xs : List (Box Lot)). (k : ℕ) (x : Box Lot) → k < length xs → length (get_or xs k x).value.before.items ≡ length (run c.args.lots.now.each k c.args.before.now)) (sym c.deref_mut-2.ensures.value)
          (before_counts c.args.patches.now c.args.before.now c.requires.lots c.requires.boxes (traded g at.After-exchange_runs));
    }

pub serve_lots-requires-clause-few : goal.serve_lots-requires-clause-few
serve_lots-requires-clause-few g c κs within =
    let at = goal.at.serve_lots-requires-clause-few g c in
    let v = with_items c.args.lots.now.lots c.exchange_runs.new.lots in
    let n = length_all_zip KeepOthers c.args.lots.now.lots.items v.items (traded g at.After-exchange_runs).others in
    let m = length_all_zip KeepAllButBefore v.items (with_items v c.exchange_before.new.lots).items (given_before g at.After-exchange_before).others in
    omega (arith, n, m, few_lots c.args.patches.now c.requires.lots)

pub serve_lots-requires-clause-may : goal.serve_lots-requires-clause-may
serve_lots-requires-clause-may g c κs within =
    let at = goal.at.serve_lots-requires-clause-may g c in
    subst (λ (d : Duty). All (λ (x : Box Lot). MayServe d x.value) (with_items (with_items c.args.lots.now.lots c.exchange_runs.new.lots) c.exchange_before.new.lots).items) (sym c.requires.duty)
    (all_may_keep c.args.patches.now c.args.before.now c.requires.lots c.requires.boxes (traded g at.After-exchange_runs) (given_before g at.After-exchange_before))

pub serve_lots-requires-clause-crew : goal.serve_lots-requires-clause-crew
serve_lots-requires-clause-crew g c κs within =
    let at = goal.at.serve_lots-requires-clause-crew g c in
    let t = c.args.lots.now in
    let tight = (several_of c.args.patches.now c.requires.lots).tight in
    let few = few_runs t.each (length t.lots.items) (length c.args.patches.now) c.requires.lots.lots.some (omega (arith, tight, same_count c.args.patches.now c.requires.lots)) in
    let v = with_items t.lots c.exchange_runs.new.lots in
    let n = length_all_zip KeepOthers t.lots.items v.items (traded g at.After-exchange_runs).others in
    let m = length_all_zip KeepAllButBefore v.items (with_items v c.exchange_before.new.lots).items (given_before g at.After-exchange_before).others in
    fewer_tasks _ c.args.phase.problem.now _ (length c.args.patches.now) c.args.workers.now (omega (arith, n, m, few)) c.requires.crew

pub exchange_before-requires-2 : goal.exchange_before-requires-2
exchange_before-requires-2 g c =
    let at = goal.at.exchange_before-requires-2 g c in
    record {
      counts = subst (λ (xs : List (Box Lot)). (k : ℕ) (x : Box Lot) → k < length xs → length (get_or xs k x).value.before.items ≡ length (run c.args.lots.now.each k c.exchange_before.new.patches)) (sym c.deref_mut-3.ensures.value)
          (before_back c.args.patches.now c.args.before.now c.requires.lots c.requires.boxes (traded g at.After-exchange_runs) (given_before g at.After-exchange_before) (served g at.After-serve_lots));
    }

pub exchange_runs-requires-2 : goal.exchange_runs-requires-2
exchange_runs-requires-2 g c =
    let at = goal.at.exchange_runs-requires-2 g c in
    record {
      counts = subst (λ (xs : List (Box Lot)). (k : ℕ) (x : Box Lot) → k < length xs → length (get_or xs k x).value.patches.items ≡ length (run c.args.lots.now.each k c.exchange_runs.new.patches)) (sym c.deref_mut-4.ensures.value)
          (patches_back c.args.patches.now c.args.before.now c.requires.lots c.requires.boxes (traded g at.After-exchange_runs) (given_before g at.After-exchange_before) (served g at.After-serve_lots) (back_before g at.After-exchange_before-2));
    }

pub returns-clause-patches : goal.returns-clause-patches
returns-clause-patches g c =
    let at = goal.at.returns-clause-patches g c in
    same_patches c.args.patches.now c.args.before.now c.requires.lots c.requires.boxes (traded g at.After-exchange_runs) (given_before g at.After-exchange_before) (served g at.After-serve_lots) (back_before g at.After-exchange_before-2) (returned g at.After-exchange_runs-2)

pub returns-clause-copied : goal.returns-clause-copied
returns-clause-copied g c =
    let at = goal.at.returns-clause-copied g c in
    all_copied c.args.patches.now c.args.before.now c.requires.lots c.requires.boxes (traded g at.After-exchange_runs) (given_before g at.After-exchange_before) (served g at.After-serve_lots) (back_before g at.After-exchange_before-2)

pub returns-clause-lots : goal.returns-clause-lots
returns-clause-lots g c = still_serve c.args.lots.now (with_items (with_items c.serve_lots.new.lots c.exchange_before-2.new.lots) c.exchange_runs-2.new.lots) c.requires.lots.several (kept g (goal.at.returns-clause-lots g c).After-exchange_runs-2)
