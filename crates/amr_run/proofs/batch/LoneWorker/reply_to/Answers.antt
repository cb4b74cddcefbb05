use Rattle.amr_run.proofs.BatchLaws.{plot_reply}
use Rattle.amr_run.proofs.batch.LoneWorker.reply_to.Goals as goal

pub returns-in_ok-text-in-Ok : goal.returns-in_ok-text-in-Ok
returns-in_ok-text-in-Ok g c = plot_reply c.args.job.now c.in-Ok.problem c.in_ok-text-in-Ok.text.items c.in-Ok.ensures.accepted c.in_ok-text-in-Ok.ensures.text c.in_ok-text-in-Ok.ensures.run
