use Rattle.amr_disk.proofs.Replays.{IsLeft}
use Rattle.amr_disk.proofs.memory.MemDisk.leave.Given as goal

abbrev pub invariant-loop-step : goal.invariant-loop-step
invariant-loop-step l = IsLeft l.mode l.fn.self l.made l.bytes l.start l.step-index
