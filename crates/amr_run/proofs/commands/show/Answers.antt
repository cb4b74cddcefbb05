use Rattle.std.proofs.Common.{◌≡◌, [], ap, refl, Err}
use Rattle.amr_causes.proofs.ByteLaws.{grows_none}
use Rattle.amr_checkpoint.specs.declared.faults.ResumeFault.TheVariants as resuming
use Rattle.amr_def.specs.Plot.{plot}
use Rattle.amr_patch.specs.Meshes.{state_of}
use Rattle.amr_run.proofs.KeptOutcomes.{resumed_at_source, settles, settles_by}
use Rattle.amr_run.proofs.Outcomes.{at_source, cut_short, refused_by}
use Rattle.amr_run.proofs.StoreOutcomes.{plot_of_store, unshown}
use Rattle.amr_run.specs.Refusals.{resume_refused}
use Rattle.amr_run.specs.Table.{show_row}
use Rattle.amr_run.specs.declared.status.Status.TheVariants.{WriteFault}
use Rattle.amr_run.proofs.commands.show.Goals as goal

pub returns-in_err-shown-clause-outcome : goal.returns-in_err-shown-clause-outcome
returns-in_err-shown-clause-outcome g c =
    ([], grows_none g.O.Sink.holds c.args.out.now, λ bytes. refused_by show_row c.from_residual.result _ bytes (g.D.Disk.seen c.args.disk.now) [] [] c.from_residual.ensures.1 (unshown bytes (g.D.Disk.seen c.args.disk.now) c.in_err-shown.field-0.0 (λ refusal image is. c.in_err-shown.ensures.refused refusal image (ap Err is))))

pub returns-in_err-plot-clause-outcome : goal.returns-in_err-plot-clause-outcome
returns-in_err-plot-clause-outcome g c =
    let part = c.in_err-plot.ensures.short in
    let shown = c.in_ok-shown.shown in
    let answer = plot_of_store (g.D.Disk.seen c.args.disk.now) shown.problem shown.mesh c.in_ok-shown.ensures.holds c.in_ok-shown.ensures.mesh.sound in
    (part.0, part.2, λ bytes. cut_short show_row c.from_residual-in_err-plot.result bytes (g.D.Disk.seen c.args.disk.now) (plot shown.problem (state_of shown.mesh)) part.0 c.from_residual-in_err-plot.ensures.1 (answer, refl) part.1)

pub returns-clause-outcome : goal.returns-clause-outcome
returns-clause-outcome g c =
    let shown = c.in_ok-shown.shown in
    (plot shown.problem (state_of shown.mesh), c.in_ok-plot.ensures.whole, λ bytes. (plot_of_store (g.D.Disk.seen c.args.disk.now) shown.problem shown.mesh c.in_ok-shown.ensures.holds c.in_ok-shown.ensures.mesh.sound, refl))

pub returns-in_err-shown-clause-settled : goal.returns-in_err-shown-clause-settled
returns-in_err-shown-clause-settled g c =
    settles_by g.D.Disk.seen g.D.Disk.moment g.D.Disk.leaves c.args.disk.now c.show.new.disk c.from_residual.result _ c.from_residual.ensures.1
    (settles g.D.Disk.seen g.D.Disk.moment g.D.Disk.leaves c.args.disk.now c.show.new.disk _ (λ other. c.in_err-shown.ensures.settled (λ failed. let is : c.in_err-shown.field-0.0 ≡ resuming.DiskFault = cc in other (ap resume_refused is))))

pub returns-in_err-plot-clause-settled : goal.returns-in_err-plot-clause-settled
returns-in_err-plot-clause-settled g c =
    settles_by g.D.Disk.seen g.D.Disk.moment g.D.Disk.leaves c.args.disk.now c.show.new.disk c.from_residual-in_err-plot.result WriteFault c.from_residual-in_err-plot.ensures.1 (c.in_ok-shown.ensures.settled (λ failed. absurd (cc)))

pub returns-clause-settled : goal.returns-clause-settled
returns-clause-settled g c = c.in_ok-shown.ensures.settled (λ failed. absurd (cc))

-- ---- nothing of a source refuses it

pub returns-in_err-shown-clause-no_source : goal.returns-in_err-shown-clause-no_source
returns-in_err-shown-clause-no_source g c ends = resumed_at_source c.in_err-shown.field-0.0 (at_source c.from_residual.result _ c.from_residual.ensures.1 ends)

pub returns-in_err-plot-clause-no_source : goal.returns-in_err-plot-clause-no_source
returns-in_err-plot-clause-no_source g c ends = at_source c.from_residual-in_err-plot.result WriteFault c.from_residual-in_err-plot.ensures.1 ends

pub returns-clause-no_source : goal.returns-clause-no_source
returns-clause-no_source g c ends = ends
