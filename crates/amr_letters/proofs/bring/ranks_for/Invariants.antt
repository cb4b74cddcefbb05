use Rattle.amr_letters.specs.Shared.{sharing}
use Rattle.amr_letters.proofs.Made.{AreFirstRanks}
use Rattle.amr_letters.proofs.bring.ranks_for.Given as goal

abbrev pub invariant-loop-to : goal.invariant-loop-to
invariant-loop-to l = AreFirstRanks (sharing l.s) l.ranks l.to l.all.items
