use Rattle.std.proofs.Common.{◌*◌, ◌<◌, List, length, get_or, take, drop, sym, ap, subst, arith}
use Rattle.std.specs.Prelude.{IfOk}
use Rattle.std.specs.List.{All}
use Rattle.std.proofs.lemmas.List.Elements.{All-drop, All-take}
use Rattle.amr_def.specs.Domain.{domain}
use Rattle.amr_patch.specs.declared.patches.Patch.{Patch}
use Rattle.amr_patch.specs.Patches.{box}
use Rattle.amr_faces.specs.Faces.{IsInDomain}
use Rattle.amr_layout.specs.Adds.{HasCellsBeyond}
use Rattle.amr_layout.specs.LevelFlowLists.{AreFlowsOfRun}
use Rattle.amr_layout.specs.Arounds.{around_of}
use Rattle.amr_layout.proofs.Runs.{runs_enough}
use Rattle.amr_layout.proofs.in_threads.flows_by_runs.Goals as goal

pub map_chunks-requires-clause-accepts : goal.map_chunks-requires-clause-accepts
map_chunks-requires-clause-accepts g c κs within = λ start p chunk.
    let s = around_of c.args.s in
    let ps = c.args.s.patches.now in
    let P : Patch → Type 0 = λ q. IsInDomain (domain c.args.s.problem.now c.args.s.level) (box q) in
    let Q : Patch → Type 0 = λ q. HasCellsBeyond s (box q) in (
      c.requires.search,
      subst (λ (l : List Patch). All P l) (sym chunk.value) (All-take P c.args.size (drop start ps) (All-drop P start ps c.requires.inside)),
      subst (λ (l : List Patch). All Q l) (sym chunk.value) (All-take Q c.args.size (drop start ps) (All-drop Q start ps c.requires.there)),
    )

pub join_runs-requires-clause-all : goal.join_runs-requires-clause-all
join_runs-requires-clause-all g c =
    let items = c.deref.ensures.value in
    runs_enough (length c.args.s.patches.now) c.args.size (length c.deref.result.now) c.requires.some (omega (arith, c.in_ok-runs.ensures.len, c.in_ok-runs.runs.ok.0, ap length items))

pub join_runs-requires-clause-flows : goal.join_runs-requires-clause-flows
join_runs-requires-clause-flows g c = λ n d lt.
    let s = around_of c.args.s in
    let items = c.deref.ensures.value in
    let below : n < length c.in_ok-runs.runs.items = omega (arith, lt, ap length items) in
    let k = (c.in_ok-runs.ensures.each n d below).1 in
    subst (λ xs. IfOk (get_or xs n d) (AreFlowsOfRun s (take c.args.size (drop (n * c.args.size) c.args.s.patches.now)))) (sym items)
    (subst (λ (l : List Patch). IfOk (get_or c.in_ok-runs.runs.items n d) (AreFlowsOfRun s l)) k.argument_is.value k.call)
