use Rattle.std.proofs.Common.{◌≤◌, length}
use Rattle.amr_disk.proofs.file.read_part.Given as goal

abbrev pub invariant-loop : goal.invariant-loop
invariant-loop l = l.done ≤ length l.into
