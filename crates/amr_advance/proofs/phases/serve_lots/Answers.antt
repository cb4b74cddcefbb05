use Rattle.std.proofs.Common.{◌∙◌, List, length, refl, sym, subst, arith}
use Rattle.std.specs.Global.{Box}
use Rattle.std.specs.List.{All, AllZip}
use Rattle.std.specs.Vec.{with_items}
use Rattle.std.proofs.lemmas.List.Elements.{length_all_zip}
use Rattle.amr_lots.specs.declared.lot.Lot.{Lot}
use Rattle.amr_lots.specs.Duties.{IsServed, MayServe}
use Rattle.amr_advance.proofs.LotCounts.{fewer_tasks}
use Rattle.amr_advance.proofs.LotsHanded.{when_lent}
use Rattle.amr_advance.proofs.ServedPieces.{all_served, may_be_served}
use Rattle.amr_advance.proofs.phases.serve_lots.Goals as goal

pub open_lots-requires-clause-pieces : goal.open_lots-requires-clause-pieces
open_lots-requires-clause-pieces g c = λ ws raw. may_be_served c.args.phase.basis.now c.args.phase.level c.args.phase.duty c.args.phase.problem.now c.requires.problem c.args.lots.now.items c.requires.may ws raw _

pub run_lots-requires-clause-opened : goal.run_lots-requires-clause-opened
run_lots-requires-clause-opened g c κs within = (_, c.args.lots.now.items, c.in-Ok.ensures.opened)

pub run_lots-requires-clause-few : goal.run_lots-requires-clause-few
run_lots-requires-clause-few g c κs within = let n = c.in-Ok.ensures.opened.are.count in omega (arith, n, c.requires.few)

pub run_lots-requires-clause-room : goal.run_lots-requires-clause-room
run_lots-requires-clause-room g c κs within = let n = c.in-Ok.ensures.opened.are.count in omega (arith, n, c.in-Ok.ensures.room)

pub run_lots-requires-clause-crew : goal.run_lots-requires-clause-crew
run_lots-requires-clause-crew g c κs within =
    let n = c.in-Ok.ensures.opened.are.count in
    fewer_tasks _ c.args.phase.problem.now _ (length c.args.lots.now.items) c.args.workers.now (omega (arith, n)) c.requires.crew

pub serve_alone-requires : goal.serve_alone-requires
serve_alone-requires g c = subst (All (λ (x : Box Lot). MayServe c.args.phase.duty x.value)) (sym (c.deref_mut.ensures.value ∙ c.in-Err.ensures.back)) c.requires.may

pub returns-in-Ok-clause-served : goal.returns-in-Ok-clause-served
returns-in-Ok-clause-served g c =
    let ran = c.run_lots.ensures.run _ c.args.lots.now.items c.in-Ok.ensures.opened in
    all_served c.args.phase.basis.now c.args.phase.level c.args.phase.duty c.args.phase.problem.now c.requires.problem c.args.lots.now.items c.requires.may ran.run _ c.run_lots.new.lots.items refl ran.collected

pub returns-in-Err-clause-served : goal.returns-in-Err-clause-served
returns-in-Err-clause-served g c =
    let v = c.open_lots.new.lots in
    let xs = c.serve_alone.new.lots in
    let served = λ (a b : Box Lot). IsServed c.args.phase.duty a.value b.value in
    subst (λ (ys : List (Box Lot)). AllZip served ys (with_items v xs).items) c.in-Err.ensures.back
    (when_lent (AllZip served) v c.deref_mut.result.now xs c.deref_mut.ensures.value (length_all_zip served c.deref_mut.result.now xs c.serve_alone.ensures) c.serve_alone.ensures)
