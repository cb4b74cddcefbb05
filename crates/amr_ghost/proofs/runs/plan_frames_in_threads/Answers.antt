use Rattle.std.proofs.Common.{◌∙◌, ◌*◌, ◌≤◌, length, sym, arith}
use Rattle.amr_def.specs.Domain.{domain}
use Rattle.amr_ghost.specs.Plans.{ArePlannedRuns}
use Rattle.amr_ghost.proofs.RunLaws.{all_in_runs, run_of_chunk, whole_plan}
use Rattle.amr_ghost.proofs.runs.plan_frames_in_threads.Goals as goal

pub returns : goal.returns
returns g c =
    let ps = c.args.patches.now in
    let size = c.div_ceil-size.result in
    let d = domain c.args.p.now c.args.l in
    let runs = c.in_ok-runs.runs.items in
    let planned : ArePlannedRuns d ps size runs = λ k r lt. let chunk = (c.in_ok-runs.ensures.each k r lt).1 in run_of_chunk d ps chunk.argument.now size (k * size) _ chunk.argument_is chunk.call in
    let enough : length ps ≤ length runs * size = all_in_runs (length ps) c.args.threads size (length runs) (omega (arith, c.if-patches-lt-MANY.false)) (omega (arith, c.if-threads-lt2.false)) c.div_ceil-size.ensures (sym c.in_ok-runs.runs.ok.0 ∙ c.in_ok-runs.ensures.len) in
    whole_plan d ps (length runs * size) _ enough (c.in_ok-spans.ensures d ps size planned)
