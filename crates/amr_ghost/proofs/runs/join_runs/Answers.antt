use Rattle.std.proofs.Common.{◌≡◌, ◌∙◌, ◌*◌, List, length, sym, subst, arith}
use Rattle.std.specs.Global.{Vec}
use Rattle.std.specs.declared.result.Result.{Result}
use Rattle.std.proofs.lemmas.List.{map-id}
use Rattle.std.proofs.lemmas.Iterator.Adapters.{YieldsList-from_vec}
use Rattle.std.proofs.lemmas.Iterator.Consumers.{YieldsList-end}
use Rattle.amr_causes.specs.declared.no_memory.NoMemory.{NoMemory}
use Rattle.amr_ghost.specs.Plans.{ArePlannedRuns, PlansRun}
use Rattle.amr_ghost.specs.declared.sources.GhostSpan.{GhostSpan}
use Rattle.amr_ghost.proofs.RunLaws.{next_joined, no_run}
use Rattle.amr_ghost.proofs.runs.join_runs.Goals as goal

pub loop-run-init : goal.loop-run-init
loop-run-init c d ps size h = no_run d ps _ _ (omega arith) c.new-all.ensures.items

pub loop-run-preserved : goal.loop-run-preserved
loop-run-preserved c d ps size h = next_joined d ps size c.loop-run.yielded c.in-Some.run' c.in_ok-spans.spans c.loop-run.all.items c.append.new.self.items c.in_ok-spans.was c.in_ok-append.ensures.items (c.loop-run.invariant d ps size) h

-- the loop has seen all runs
pub returns : goal.returns
returns c d ps size h =
    let gives = c.into_iter-run-iterator.ensures.into_iter_gives in
    let seen = YieldsList-end (YieldsList-from_vec c.args.runs.items gives.0 (gives.1 ∙ c.args.runs.ok.0)) c.loop-run.yielded c.loop-run.run-iterator c.loop-run.yielded_by c.next.result c.next.new.self c.in-None.is c.next.ensures.steps in
    let all_seen : c.loop-run.yielded ≡ c.args.runs.items = sym (map-id c.loop-run.yielded) ∙ seen.0 in
    subst (λ (rs : List (Result (Vec GhostSpan) NoMemory)). ArePlannedRuns d ps size rs → PlansRun d ps 0 (length rs * size) c.loop-run.all.items) all_seen (c.loop-run.invariant d ps size) h
