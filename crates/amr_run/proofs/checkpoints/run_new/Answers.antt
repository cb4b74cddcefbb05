use Rattle.std.proofs.Common.{◌≡◌, [], ◌∷◌, Some, None, ap, subst, sym, ◌∙◌, arith}
use Rattle.amr_checkpoint.specs.KeptCheckpoints.{checkpoints_of, fault_in, run_of}
use Rattle.amr_checkpoint.specs.Outside.{outside_at}
use Rattle.amr_checkpoint.proofs.KeptStates.{keeps_nothing}
use Rattle.amr_checkpoint.proofs.Stepping.{start_step}
use Rattle.amr_def.specs.Run.{start}
use Rattle.amr_def.specs.State.{State}
use Rattle.amr_drive.specs.States.{states_after}
use Rattle.amr_patch.specs.Meshes.{state_of}
use Rattle.amr_checkpoint.specs.Checkpoints.{IsStoreFor}
use Rattle.amr_checkpoint.proofs.Later.{may_put_first}
use Rattle.amr_store.specs.declared.store.Store.{Store}
use Rattle.amr_store.specs.Stands.{IsStoreReady, last_in, problem_in}
use Rattle.amr_run.proofs.RunStates.{keeps_new, keeps_of, keeps_start}
use Rattle.amr_run.proofs.checkpoints.run_new.Goals as goal

pub returns-in-Err-clause-kept : goal.returns-in-Err-clause-kept
returns-in-Err-clause-kept g c =
    let run = run_of (problem_in c.args.store) c.args.keeping.now in
    let p = run.problem in
    keeps_nothing run.deltas (outside_at g.D.Disk.seen g.D.Disk.moment g.D.Disk.leaves g.D.Disk.faults g.E.Sink.holds g.E.Sink.faults c.args.disk.now c.args.err.now) (checkpoints_of run (start p ∷ states_after p (start p) run.target))

pub run_on-requires-clause-ahead : goal.run_on-requires-clause-ahead
run_on-requires-clause-ahead g c κs within =
    let at = start_step c.args.keeping.now.problem.now in
    let is = ap (λ (s : State). s.step) c.in-Ok.ensures.value in
    omega (arith, at, is)

pub returns-in-Ok-keep_state-clause-kept : goal.returns-in-Ok-keep_state-clause-kept
returns-in-Ok-keep_state-clause-kept g c =
    let at = outside_at g.D.Disk.seen g.D.Disk.moment g.D.Disk.leaves g.D.Disk.faults g.E.Sink.holds g.E.Sink.faults in
    let run = run_of (problem_in c.args.store) c.args.keeping.now in
    let before = at c.args.disk.now c.args.err.now in
    let middle = at c.keep_state.new.disk c.keep_state.new.err in
    let after = at c.run_on.new.disk c.run_on.new.err in
    let same : problem_in c.fresh.result.store ≡ problem_in c.args.store = ap problem_in c.fresh.ensures.store in
    let first = keeps_of before middle run (problem_in c.fresh.result.store) (state_of c.in-Ok.mesh ∷ []) None same c.in-Ok-keep_state.ensures.kept in
    let rest = keeps_of middle after run (problem_in c.in-Ok-keep_state.kept.store) _ (fault_in c.run_on.result) (c.in-Ok-keep_state.ensures.problem ∙ same) c.run_on.ensures.kept in
    keeps_new before after run middle (state_of c.in-Ok.mesh) (fault_in c.run_on.result) c.in-Ok.ensures.value first rest

pub returns-in-Err-keep_state-clause-kept : goal.returns-in-Err-keep_state-clause-kept
returns-in-Err-keep_state-clause-kept g c =
    let at = outside_at g.D.Disk.seen g.D.Disk.moment g.D.Disk.leaves g.D.Disk.faults g.E.Sink.holds g.E.Sink.faults in
    let before = at c.args.disk.now c.args.err.now in
    let after = at c.keep_state.new.disk c.keep_state.new.err in
    let run = run_of (problem_in c.args.store) c.args.keeping.now in
    let first = keeps_of before after run (problem_in c.fresh.result.store) (state_of c.in-Ok.mesh ∷ []) (Some c.in-Err-keep_state.fault) (ap problem_in c.fresh.ensures.store) c.in-Err-keep_state.ensures.kept in
    keeps_start before after run (state_of c.in-Ok.mesh) c.in-Err-keep_state.fault c.in-Ok.ensures.value first

pub keep_state-requires-clause-may : goal.keep_state-requires-clause-may
keep_state-requires-clause-may g c =
    let same = c.fresh.ensures.store in
    may_put_first g.D.Disk.seen g.D.Disk.moment g.D.Disk.leaves c.args.keeping.now.problem.now c.fresh.result (state_of c.in-Ok.mesh) c.args.disk.now
    (subst (IsStoreFor c.args.keeping.now.problem.now) (sym same) c.requires.store) (ap last_in same ∙ c.requires.none) c.fresh.ensures.latest
    (subst (λ (st : Store). IsStoreReady g.D.Disk.seen g.D.Disk.moment g.D.Disk.leaves st c.args.disk.now) (sym same) c.requires.ready)
