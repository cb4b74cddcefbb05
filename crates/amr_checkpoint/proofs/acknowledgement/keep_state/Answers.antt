use Rattle.std.proofs.Common.{◌≡◌, ℕ, Bool, ◌+◌, ◌∷◌, [], true, false, refl, ap, sym, ◌∙◌, subst, List, Some, None}
use Rattle.amr_causes.specs.Bytes.{Grows}
use Rattle.amr_io.specs.Short.{FallsShort}
use Rattle.amr_patch.specs.Meshes.{state_of}
use Rattle.amr_store.specs.Stands.{problem_in}
use Rattle.amr_checkpoint.specs.declared.faults.KeepFault.TheVariants as fault
use Rattle.amr_checkpoint.specs.Contents.{Content, At}
use Rattle.amr_checkpoint.specs.KeptCheckpoints.{Keeps, checkpoints_of, run_of}
use Rattle.amr_checkpoint.specs.Marks.{checkpoint_line, is_mark}
use Rattle.amr_checkpoint.specs.Outside.{outside_at}
use Rattle.amr_checkpoint.proofs.KeptStates.{keeps_none, keeps_refused, keeps_stood, keeps_unsaid, keeps_untouched, marked_state, unmarked_state}
use Rattle.amr_checkpoint.proofs.Later.{may_put_later}
use Rattle.amr_checkpoint.proofs.acknowledgement.keep_state.Goals as goal

-- by what the test of a step answered
answered : (every target step at : ℕ) (test is : Bool) → step ≡ at → test ≡ is_mark every target step → test ≡ is → is_mark every target at ≡ is
answered every target step at test is same tests answer = ap (λ n. is_mark every target n) (sym same) ∙ sym tests ∙ answer

pub returns-then-not-is_mark-clause-kept : goal.returns-then-not-is_mark-clause-kept
returns-then-not-is_mark-clause-kept g c =
    let at = outside_at g.D.Disk.seen g.D.Disk.moment g.D.Disk.leaves g.D.Disk.faults g.E.Sink.holds g.E.Sink.faults c.args.disk.now c.args.err.now in
    let run = run_of (problem_in c.args.kept.store) c.args.keeping.now in
    let no_mark : is_mark run.every run.target (state_of c.args.mesh.now).step ≡ false = answered run.every run.target c.step-step.result (state_of c.args.mesh.now).step c.is_mark.result false c.step-step.ensures c.is_mark.ensures c.if-not-is_mark.true in
    subst (λ (all : List Content). Keeps run.deltas at at all None) (sym (unmarked_state run (state_of c.args.mesh.now) no_mark)) (keeps_none run.deltas at)

pub returns-then-not-is_mark-clause-version : goal.returns-then-not-is_mark-clause-version
returns-then-not-is_mark-clause-version g c mark =
    let no_mark : is_mark c.args.keeping.now.every c.args.keeping.now.target (state_of c.args.mesh.now).step ≡ false =
    answered c.args.keeping.now.every c.args.keeping.now.target c.step-step.result (state_of c.args.mesh.now).step c.is_mark.result false c.step-step.ensures c.is_mark.ensures c.if-not-is_mark.true in
    let clash : true ≡ false = sym mark ∙ no_mark in
    absurd (cc)

pub returns-in-Ok-put_checkpoint_line-clause-version : goal.returns-in-Ok-put_checkpoint_line-clause-version
returns-in-Ok-put_checkpoint_line-clause-version g c mark = c.in-Ok.ensures.store.1.version

pub returns-in-Ok-put_checkpoint_line-clause-kept : goal.returns-in-Ok-put_checkpoint_line-clause-kept
returns-in-Ok-put_checkpoint_line-clause-kept g c =
    let at = outside_at g.D.Disk.seen g.D.Disk.moment g.D.Disk.leaves g.D.Disk.faults g.E.Sink.holds g.E.Sink.faults in
    let run = run_of (problem_in c.args.kept.store) c.args.keeping.now in
    let s = state_of c.args.mesh.now in
    let mark : is_mark run.every run.target s.step ≡ true = answered run.every run.target c.step-step.result s.step c.is_mark.result true c.step-step.ensures c.is_mark.ensures c.if-not-is_mark.false in
    let whole = subst (λ n. Grows g.E.Sink.holds c.args.err.now c.put_checkpoint_line.new.err (checkpoint_line n)) c.step-step.ensures c.in-Ok-put_checkpoint_line.ensures.whole in
    subst (λ (all : List Content). Keeps run.deltas (at c.args.disk.now c.args.err.now) (at c.put_checkpoint.new.disk c.put_checkpoint_line.new.err) all None) (sym (marked_state run s mark))
    (keeps_stood g.D.Disk.seen g.D.Disk.moment g.D.Disk.leaves g.D.Disk.faults g.E.Sink.holds g.E.Sink.faults run.deltas c.args.disk.now c.put_checkpoint.new.disk c.args.err.now c.put_checkpoint_line.new.err (At run.bytes run.problem s (s.step + 1))
    whole c.in-Ok-put_checkpoint_line.ensures.no_fault (c.in-Ok.ensures.put.no_fault (λ is. absurd (cc))) (c.in-Ok.ensures.put.told refl) c.in-Ok.ensures.settled (c.in-Ok.ensures.put.holds refl)
    (λ image. c.in-Ok.ensures.put.made refl run.deltas image) (λ image content. c.in-Ok.ensures.put.stops image content))

pub returns-in-Err-clause-kept : goal.returns-in-Err-clause-kept
returns-in-Err-clause-kept g c =
    let at = outside_at g.D.Disk.seen g.D.Disk.moment g.D.Disk.leaves g.D.Disk.faults g.E.Sink.holds g.E.Sink.faults in
    let run = run_of (problem_in c.args.kept.store) c.args.keeping.now in
    let s = state_of c.args.mesh.now in
    let mark : is_mark run.every run.target s.step ≡ true = answered run.every run.target c.step-step.result s.step c.is_mark.result true c.step-step.ensures c.is_mark.ensures c.if-not-is_mark.false in
    let short = subst (λ n. FallsShort g.E.Sink.holds c.args.err.now c.put_checkpoint_line.new.err (checkpoint_line n)) c.step-step.ensures c.in-Err.ensures.short in
    subst (λ (all : List Content). Keeps run.deltas (at c.args.disk.now c.args.err.now) (at c.put_checkpoint.new.disk c.put_checkpoint_line.new.err) all (Some fault.WriteFault)) (sym (marked_state run s mark))
    (keeps_unsaid g.D.Disk.seen g.D.Disk.moment g.D.Disk.leaves g.D.Disk.faults g.E.Sink.holds g.E.Sink.faults run.deltas c.args.disk.now c.put_checkpoint.new.disk c.args.err.now c.put_checkpoint_line.new.err (At run.bytes run.problem s (s.step + 1))
    short c.in-Err.ensures.cause.failed (c.in-Ok.ensures.put.no_fault (λ is. absurd (cc))) (c.in-Ok.ensures.put.told refl) c.in-Ok.ensures.settled (c.in-Ok.ensures.put.holds refl)
    (λ image. c.in-Ok.ensures.put.made refl run.deltas image) (λ image content. c.in-Ok.ensures.put.stops image content))

pub returns-in-Err-DiskFault-clause-kept : goal.returns-in-Err-DiskFault-clause-kept
returns-in-Err-DiskFault-clause-kept g c =
    let at = outside_at g.D.Disk.seen g.D.Disk.moment g.D.Disk.leaves g.D.Disk.faults g.E.Sink.holds g.E.Sink.faults in
    let run = run_of (problem_in c.args.kept.store) c.args.keeping.now in
    let s = state_of c.args.mesh.now in
    let mark : is_mark run.every run.target s.step ≡ true = answered run.every run.target c.step-step.result s.step c.is_mark.result true c.step-step.ensures c.is_mark.ensures c.if-not-is_mark.false in
    subst (λ (all : List Content). Keeps run.deltas (at c.args.disk.now c.args.err.now) (at c.put_checkpoint.new.disk c.args.err.now) all (Some fault.DiskFault)) (sym (marked_state run s mark))
    (keeps_refused g.D.Disk.seen g.D.Disk.moment g.D.Disk.leaves g.D.Disk.faults g.E.Sink.holds g.E.Sink.faults run.deltas c.args.disk.now c.put_checkpoint.new.disk c.args.err.now (At run.bytes run.problem s (s.step + 1))
    c.in-Err-DiskFault.ensures.put.later (c.in-Err-DiskFault.ensures.put.failed (ap Some c.in-Err-DiskFault.field-0-is)) (λ image content. c.in-Err-DiskFault.ensures.put.stops image content))

pub returns-in-Err-NoMemory-clause-kept : goal.returns-in-Err-NoMemory-clause-kept
returns-in-Err-NoMemory-clause-kept g c =
    keeps_untouched g.D.Disk.seen g.D.Disk.moment g.D.Disk.leaves g.D.Disk.faults g.E.Sink.holds g.E.Sink.faults c.args.keeping.now.deltas c.args.disk.now c.put_checkpoint.new.disk c.args.err.now
    (checkpoints_of (run_of (problem_in c.args.kept.store) c.args.keeping.now) (state_of c.args.mesh.now ∷ [])) (c.in-Err-NoMemory.ensures.put.memory (ap Some c.in-Err-NoMemory.field-0-is))

pub returns-in-Err-NoMemory-clause-memory : goal.returns-in-Err-NoMemory-clause-memory
returns-in-Err-NoMemory-clause-memory g c is = c.in-Err-NoMemory.ensures.put.memory (ap Some c.in-Err-NoMemory.field-0-is)

pub returns-then-not-is_mark-clause-next : goal.returns-then-not-is_mark-clause-next
returns-then-not-is_mark-clause-next g c later on =
    may_put_later g.D.Disk.seen g.D.Disk.moment g.D.Disk.leaves c.args.keeping.now.problem.now c.args.kept (state_of c.args.mesh.now) later c.args.disk.now on c.requires.may
