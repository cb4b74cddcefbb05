use Rattle.amr_checkpoint.proofs.Progress.{acknowledges_marks, checkpoints_rise}
use Rattle.amr_checkpoint.proofs.laws.checkpoints_rise.Goals as goal

pub returns : goal.returns
returns c = record { rise = checkpoints_rise; lines = acknowledges_marks }
