use Rattle.amr_run.proofs.BatchLaws.{one_answer, one_reply, stand_alone}
use Rattle.amr_run.proofs.laws.replies_stand_alone.Goals as goal

pub returns : goal.returns
returns c = record { one_reply = one_reply; alone = stand_alone; one_answer = one_answer }
