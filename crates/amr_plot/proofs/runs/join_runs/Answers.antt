use Rattle.amr_plot.proofs.TextLaws.{next_joined}
use Rattle.amr_plot.proofs.runs.join_runs.Goals as goal

pub loop-run-preserved : goal.loop-run-preserved
loop-run-preserved c f bs size h = next_joined f bs size c.loop-run.yielded c.in-Some.run' c.in-Ok.text c.loop-run.texts.items c.push.new.self.items c.in-Ok.is c.in_ok-push-in-Ok.ensures.items (c.loop-run.invariant f bs size) h
