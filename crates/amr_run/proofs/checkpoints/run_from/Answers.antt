use Rattle.std.proofs.Common.{◌≡◌, ℕ, ◌+◌, List, [], ◌∷◌, Option, Some, refl, sym, ap, ◌∙◌, subst}
use Rattle.std.specs.Prelude.{◌⊎◌}
use Rattle.amr_causes.proofs.ByteLaws.{grows_none}
use Rattle.amr_checkpoint.specs.declared.faults.KeepFault.{KeepFault}
use Rattle.amr_checkpoint.specs.declared.faults.KeepFault.TheVariants as fault
use Rattle.amr_checkpoint.specs.declared.resumption.Resumed.{Resumed}
use Rattle.amr_checkpoint.specs.declared.resumption.Resumed.TheVariants.{Nothing}
use Rattle.amr_checkpoint.specs.Checkpoints.{CanGoOn, IsResumedReady, content_at_mesh, content_resumed}
use Rattle.amr_checkpoint.specs.Contents.{Content, Empty, Fresh, Holds}
use Rattle.amr_checkpoint.specs.KeptCheckpoints.{Keeps, KeptRun, checkpoints_of, fault_in, made_of, run_of}
use Rattle.amr_checkpoint.specs.Outside.{OutsideAt, outside_at}
use Rattle.amr_checkpoint.proofs.KeptStates.{keeps_longer, keeps_nothing, keeps_on, keeps_refused, keeps_stood, keeps_untouched}
use Rattle.amr_checkpoint.proofs.Readings.{holds_one}
use Rattle.amr_def.specs.declared.problem.Problem.{Problem}
use Rattle.amr_def.specs.Run.{start}
use Rattle.amr_disk.specs.Moments.{StopsIn}
use Rattle.amr_drive.specs.States.{states_after}
use Rattle.amr_patch.specs.Meshes.{state_of}
use Rattle.amr_checkpoint.proofs.Later.{may_put_kept}
use Rattle.amr_store.specs.Stands.{IsStoreReady, problem_in}
use Rattle.amr_store.specs.Stored.{stored}
use Rattle.amr_run.proofs.RunStates.{keeps_of, made_first, made_new, made_on}
use Rattle.amr_run.proofs.checkpoints.run_from.Goals as goal

-- where nothing was found, a stop leaves what was found or the new store
stops_new : {D : Type 0} (seen : D → Option (List ℕ)) (moment : D → ℕ) (leaves : D → ℕ → List ℕ → Type 0) (d later_d : D) (fresh : Content) → ((image : List ℕ) → seen d ≡ Some image → Holds image Empty)
    → ((image : List ℕ) → seen d ≡ Some image → StopsIn moment leaves d later_d (λ c. Holds c Empty ⊎ Holds c fresh))
    → (image : List ℕ) (found : Content) → seen d ≡ Some image → Holds image found → StopsIn moment leaves d later_d (λ c. Holds c found ⊎ Holds c fresh)
stops_new seen moment leaves d later_d fresh empty stops image found told held =
    subst (λ (k : Content). StopsIn moment leaves d later_d (λ c. Holds c k ⊎ Holds c fresh)) (holds_one (stored image) Empty found (empty image told) held) (stops image told)

-- a disk of which nothing was read holds nothing
none_held : (bytes : List ℕ) (p : Problem) (r : Resumed) (seen : Option (List ℕ)) → r ≡ Nothing → ((image : List ℕ) → seen ≡ Some image → Holds image (content_resumed bytes p r)) → (image : List ℕ) → seen ≡ Some image → Holds image Empty
none_held bytes p r seen is held image told = subst (λ (x : Resumed). Holds image (content_resumed bytes p x)) is (held image told)

-- by what was found
by_found : (before after : OutsideAt) (run : KeptRun) (r found : Resumed) (ended : Option KeepFault) → r ≡ found → Keeps run.deltas before after (made_of run (content_resumed run.bytes run.problem found)) ended
    → Keeps run.deltas before after (made_of run (content_resumed run.bytes run.problem r)) ended
by_found before after run r found ended is h = subst (λ (x : Resumed). Keeps run.deltas before after (made_of run (content_resumed run.bytes run.problem x)) ended) (sym is) h

pub returns-in-Ok-clause-kept : goal.returns-in-Ok-clause-kept
returns-in-Ok-clause-kept g c =
    let at = outside_at g.D.Disk.seen g.D.Disk.moment g.D.Disk.leaves g.D.Disk.faults g.E.Sink.holds g.E.Sink.faults in
    let run = run_of c.args.bytes.now c.args.keeping.now in
    let p = run.problem in
    let fresh = Fresh run.bytes p in
    let states = start p ∷ states_after p (start p) run.target in
    let before = at c.args.disk.now c.args.err.now in
    let middle = at c.make_store.new.disk c.args.err.now in
    let after = at c.run_new.new.disk c.run_new.new.err in
    let ended = fault_in c.run_new.result in
    let store = keeps_stood g.D.Disk.seen g.D.Disk.moment g.D.Disk.leaves g.D.Disk.faults g.E.Sink.holds g.E.Sink.faults run.deltas c.args.disk.now c.make_store.new.disk c.args.err.now c.args.err.now fresh (grows_none g.E.Sink.holds c.args.err.now) refl
    (c.in-Ok.ensures.no_disk_fault (λ is. absurd (cc))) c.in-Ok.ensures.told (c.in-Ok.ensures.ready.settled c.in-Ok.ensures.store.store_is.unshut) c.in-Ok.ensures.holds c.in-Ok.ensures.made
    (stops_new g.D.Disk.seen g.D.Disk.moment g.D.Disk.leaves c.args.disk.now c.make_store.new.disk fresh (none_held run.bytes p c.args.resumed (g.D.Disk.seen c.args.disk.now) c.in-Nothing.is c.requires.holds) c.in-Ok.ensures.stops) in
    let rest = keeps_of middle after run (problem_in c.in-Ok.store) states ended c.in-Ok.ensures.problem c.run_new.ensures.kept in
    by_found before after run c.args.resumed Nothing ended c.in-Nothing.is
    (subst (λ (all : List Content). Keeps run.deltas before after all ended) (made_first run) (keeps_on run.deltas before middle after (fresh ∷ []) (checkpoints_of run states) ended store rest))

pub returns-in-Err-DiskFault-clause-kept : goal.returns-in-Err-DiskFault-clause-kept
returns-in-Err-DiskFault-clause-kept g c =
    let at = outside_at g.D.Disk.seen g.D.Disk.moment g.D.Disk.leaves g.D.Disk.faults g.E.Sink.holds g.E.Sink.faults in
    let run = run_of c.args.bytes.now c.args.keeping.now in
    let p = run.problem in
    let fresh = Fresh run.bytes p in
    let states = start p ∷ states_after p (start p) run.target in
    let before = at c.args.disk.now c.args.err.now in
    let after = at c.make_store.new.disk c.args.err.now in
    let ended = Some fault.DiskFault in
    let store = keeps_refused g.D.Disk.seen g.D.Disk.moment g.D.Disk.leaves g.D.Disk.faults g.E.Sink.holds g.E.Sink.faults run.deltas c.args.disk.now c.make_store.new.disk c.args.err.now fresh
    c.in-Err-DiskFault.ensures.later (c.in-Err-DiskFault.ensures.disk_fault (cc)) (stops_new g.D.Disk.seen g.D.Disk.moment g.D.Disk.leaves c.args.disk.now c.make_store.new.disk fresh (none_held run.bytes p c.args.resumed (g.D.Disk.seen c.args.disk.now) c.in-Nothing.is c.requires.holds) c.in-Err-DiskFault.ensures.stops) in
    by_found before after run c.args.resumed Nothing ended c.in-Nothing.is
    (subst (λ (all : List Content). Keeps run.deltas before after all ended) (made_first run) (keeps_longer run.deltas before after (fresh ∷ []) (checkpoints_of run states) fault.DiskFault store))

pub returns-in-Err-NoMemory-clause-kept : goal.returns-in-Err-NoMemory-clause-kept
returns-in-Err-NoMemory-clause-kept g c =
    let run = run_of c.args.bytes.now c.args.keeping.now in
    keeps_untouched g.D.Disk.seen g.D.Disk.moment g.D.Disk.leaves g.D.Disk.faults g.E.Sink.holds g.E.Sink.faults run.deltas c.args.disk.now c.make_store.new.disk c.args.err.now
    (made_of run (content_resumed run.bytes run.problem c.args.resumed)) (c.in-Err-NoMemory.ensures.memory (cc))

pub returns-in-Fresh-clause-kept : goal.returns-in-Fresh-clause-kept
returns-in-Fresh-clause-kept g c =
    let at = outside_at g.D.Disk.seen g.D.Disk.moment g.D.Disk.leaves g.D.Disk.faults g.E.Sink.holds g.E.Sink.faults in
    let run = run_of c.args.bytes.now c.args.keeping.now in
    let p = run.problem in
    let states = start p ∷ states_after p (start p) run.target in
    let before = at c.args.disk.now c.args.err.now in
    let after = at c.run_new-in-Fresh.new.disk c.run_new-in-Fresh.new.err in
    let ended = fault_in c.run_new-in-Fresh.result in
    let can = subst (CanGoOn run.bytes p run.target) c.in-Fresh.is c.requires.can_go_on in
    by_found before after run c.args.resumed _ ended c.in-Fresh.is
    (subst (λ (all : List Content). Keeps run.deltas before after all ended) (made_new run run.bytes p) (keeps_of before after run (problem_in c.in-Fresh.store) states ended can.0 c.run_new-in-Fresh.ensures.kept))

-- ---- from a state

pub run_on-requires-clause-may : goal.run_on-requires-clause-may
run_on-requires-clause-may g c κs within later on =
    let p = c.args.keeping.now.problem.now in
    let m = c.in-At.mesh in
    let can = subst (CanGoOn c.args.bytes.now p c.args.keeping.now.target) c.in-At.is c.requires.can_go_on in
    let same = c.in-Ok-at.ensures.store in
    let ready : IsStoreReady g.D.Disk.seen g.D.Disk.moment g.D.Disk.leaves c.in-At.store c.args.disk.now = subst (λ (r : Resumed). IsResumedReady g.D.Disk.seen g.D.Disk.moment g.D.Disk.leaves r c.args.disk.now) c.in-At.is c.requires.ready in
    may_put_kept g.D.Disk.seen g.D.Disk.moment g.D.Disk.leaves p c.in-Ok-at.kept c.in-At.store (state_of m) later c.args.disk.now same can.1.past ready c.in-Ok-at.ensures.version can.1.mesh_is.sound on c.in-Ok-at.ensures.latest
    (λ image told. subst (λ (b : List ℕ). Holds image (content_at_mesh b p m)) (sym can.0) (subst (λ (r : Resumed). Holds image (content_resumed c.args.bytes.now p r)) c.in-At.is (c.requires.holds image told)))

pub returns-in-Ok-at-clause-kept : goal.returns-in-Ok-at-clause-kept
returns-in-Ok-at-clause-kept g c =
    let at = outside_at g.D.Disk.seen g.D.Disk.moment g.D.Disk.leaves g.D.Disk.faults g.E.Sink.holds g.E.Sink.faults in
    let run = run_of c.args.bytes.now c.args.keeping.now in
    let p = run.problem in
    let s = state_of c.in-At.mesh in
    let before = at c.args.disk.now c.args.err.now in
    let after = at c.run_on.new.disk c.run_on.new.err in
    let ended = fault_in c.run_on.result in
    let can = subst (CanGoOn run.bytes p run.target) c.in-At.is c.requires.can_go_on in
    by_found before after run c.args.resumed _ ended c.in-At.is
    (subst (λ (all : List Content). Keeps run.deltas before after all ended) (made_on run run.bytes p (s.step + 1) s)
    (keeps_of before after run (problem_in c.in-Ok-at.kept.store) _ ended (ap problem_in c.in-Ok-at.ensures.store ∙ can.0) c.run_on.ensures.kept))

pub returns-in-Err-clause-kept : goal.returns-in-Err-clause-kept
returns-in-Err-clause-kept g c =
    let run = run_of c.args.bytes.now c.args.keeping.now in
    keeps_nothing run.deltas (outside_at g.D.Disk.seen g.D.Disk.moment g.D.Disk.leaves g.D.Disk.faults g.E.Sink.holds g.E.Sink.faults c.args.disk.now c.args.err.now)
    (made_of run (content_resumed run.bytes run.problem c.args.resumed))
