use Rattle.std.proofs.Common.{ℕ, ◌*◌, ◌≤◌, ◌++◌, ◌∷◌, [], List, length, take, sym, ap, subst, ◌∙◌, arith, le_trans, mul-le-mul_right}
use Rattle.std.specs.Prelude.{IfOk}
use Rattle.std.specs.declared.result.Result.{Result}
use Rattle.std.specs.Fork.{slice_chunk}
use Rattle.amr_causes.specs.declared.NoMemory.{NoMemory}
use Rattle.amr_patch.specs.declared.patches.Patch.{Patch}
use Rattle.amr_layout.specs.declared.level_flows.LevelFlows.{LevelFlows}
use Rattle.amr_layout.specs.LevelFlowLists.{AreFlowsOfRun}
use Rattle.amr_layout.specs.Arounds.{around_of}
use Rattle.amr_layout.proofs.Runs.{all_patches, bounds_within, no_run, run_more, runs_joined}
use Rattle.amr_layout.proofs.in_threads.join_runs.Goals as goal

pub loop-k-init : goal.loop-k-init
loop-k-init c =
    let s = around_of c.args.s in
    no_run s c.args.s.patches.now c.args.size _ c.new.ensures.items (c.in_ok-push.ensures.items ∙ ap (λ (l : List ℕ). l ++ 0 ∷ []) c.in_ok-bounds.ensures.items)

pub append_run-requires-clause-within : goal.append_run-requires-clause-within
append_run-requires-clause-within c =
    let s = around_of c.args.s in
    let chunk = slice_chunk c.args.s.patches.now c.args.size c.loop-k.k in
    let known : AreFlowsOfRun s chunk c.in-Ok.run' =
    subst (λ (r : Result LevelFlows NoMemory). IfOk r (AreFlowsOfRun s chunk)) (sym c.index-runs-k.is ∙ c.in-Ok.is) (c.requires.flows c.loop-k.k c.index-runs-k.result c.loop-k-test.true) in
    bounds_within s chunk c.in-Ok.run' known

pub loop-k-preserved : goal.loop-k-preserved
loop-k-preserved c =
    let s = around_of c.args.s in
    let ps = c.args.s.patches.now in
    let size = c.args.size in
    let k = c.loop-k.k in
    let chunk = slice_chunk ps size k in
    let here = sym c.index-runs-k.is ∙ c.in-Ok.is in
    let known : AreFlowsOfRun s chunk c.in-Ok.run' =
    subst (λ (r : Result LevelFlows NoMemory). IfOk r (AreFlowsOfRun s chunk)) here (c.requires.flows k c.index-runs-k.result c.loop-k-test.true) in
    let told = c.in_ok-append_run.ensures in
    subst (λ (l : List Patch). AreFlowsOfRun s l c.append_run.new.all) (sym (run_more ps size k))
    (runs_joined s (take (k * size) ps) chunk c.loop-k.all c.in-Ok.run' c.append_run.new.all c.loop-k.invariant known told.flows told.bounds)

pub returns : goal.returns
returns c =
    let s = around_of c.args.s in
    let past : length c.args.runs.now ≤ c.loop-k.k = omega (arith, c.loop-k-test.false) in
    all_patches s (c.loop-k.k * c.args.size) c.loop-k.all (le_trans c.requires.all (mul-le-mul_right c.args.size past)) c.loop-k.invariant
