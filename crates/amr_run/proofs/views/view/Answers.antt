use Rattle.std.proofs.Common.{[], refl}
use Rattle.amr_causes.proofs.ByteLaws.{grows_none, were_left}
use Rattle.amr_def.specs.View.{view}
use Rattle.amr_drive.specs.Flocks.{states_of}
use Rattle.amr_patch.specs.Meshes.{state_of}
use Rattle.amr_run.specs.Table.{JudgesView, view_row}
use Rattle.amr_run.proofs.Outcomes.{cut_short, is_view_of_run, out_of_memory, refused_by, refused_first, unread, unseen}
use Rattle.amr_run.specs.declared.status.Status.TheVariants.{NoMemory}
use Rattle.amr_run.proofs.Seen.{is_seen, seen_inside}
use Rattle.amr_run.proofs.views.view.Goals as goal

pub returns-in_err-given-clause-outcome : goal.returns-in_err-given-clause-outcome
returns-in_err-given-clause-outcome g c =
    let read = c.in_err-given.ensures.problem in
    (read.0, ([], read.1, grows_none g.O.Sink.holds c.args.out.now, λ seen. refused_by (view_row c.args.asked.now) c.from_residual.result _ read.0 seen [] [] c.from_residual.ensures.1 (unread (view_row c.args.asked.now) _ read.0 seen tt (refused_first (JudgesView c.args.asked.now) _ read.0 (λ fault first. first) read.2))))

pub mesh_of-mesh-requires-clause-species : goal.mesh_of-mesh-requires-clause-species
mesh_of-mesh-requires-clause-species g c = (is_seen c.args.asked.now c.in_ok-given.given.problem c.in_ok-b.ensures.inside).species

pub view-requires-clause-fine : goal.view-requires-clause-fine
view-requires-clause-fine g c = (is_seen c.args.asked.now c.in_ok-given.given.problem c.in_ok-b.ensures.inside).fine

pub view-requires-clause-inside : goal.view-requires-clause-inside
view-requires-clause-inside g c =
    seen_inside c.args.asked.now c.in_ok-given.given.problem c.in_ok-b.b (is_seen c.args.asked.now c.in_ok-given.given.problem c.in_ok-b.ensures.inside) c.in_ok-b.ensures.value

pub returns-in_err-b-clause-outcome : goal.returns-in_err-b-clause-outcome
returns-in_err-b-clause-outcome g c =
    let read = c.in_ok-given.ensures.problem in
    (read.0, ([], read.1, grows_none g.O.Sink.holds c.args.out.now, λ seen. unseen c.args.asked.now c.from_residual-in_err-b.result read.0 seen c.in_ok-given.given.problem _ c.from_residual-in_err-b.ensures.1 read.2.1 c.in_err-b.ensures.outside))

pub returns-in_err-flock-clause-outcome : goal.returns-in_err-flock-clause-outcome
returns-in_err-flock-clause-outcome g c =
    let left = were_left (g.S.Source.left c.args.src.now) in
    (left.0, ([], left.1, grows_none g.O.Sink.holds c.args.out.now, λ seen. out_of_memory (view_row c.args.asked.now) c.from_residual-in_err-flock.result NoMemory left.0 seen c.from_residual-in_err-flock.ensures.1 refl))

pub returns-in_err-view-clause-outcome : goal.returns-in_err-view-clause-outcome
returns-in_err-view-clause-outcome g c =
    let read = c.in_ok-given.ensures.problem in
    let asked = c.args.asked.now in
    let s = state_of c.mesh_of-mesh.result.now in
    let answer = is_view_of_run read.0 asked c.in_ok-given.given.problem (states_of c.in_ok-flock.flock) s c.in_ok-b.b read.2.1 c.in_ok-b.ensures.inside c.in_ok-b.ensures.value c.in_ok-flock.ensures.value c.mesh_of-mesh.ensures.state c.in_ok-flock.ensures.run in
    let part = c.in_err-view.ensures.short in
    (read.0, (part.0, read.1, part.2, λ seen. cut_short (view_row asked) c.from_residual-in_err-view.result read.0 seen (view s asked.level c.in_ok-b.b) part.0 c.from_residual-in_err-view.ensures.1 (answer, refl) part.1))

pub returns-clause-outcome : goal.returns-clause-outcome
returns-clause-outcome g c =
    let read = c.in_ok-given.ensures.problem in
    let asked = c.args.asked.now in
    let s = state_of c.mesh_of-mesh.result.now in
    let answer = is_view_of_run read.0 asked c.in_ok-given.given.problem (states_of c.in_ok-flock.flock) s c.in_ok-b.b read.2.1 c.in_ok-b.ensures.inside c.in_ok-b.ensures.value c.in_ok-flock.ensures.value c.mesh_of-mesh.ensures.state c.in_ok-flock.ensures.run in
    (read.0, (view s asked.level c.in_ok-b.b, read.1, c.in_ok-view.ensures.whole, λ seen. (answer, refl)))
