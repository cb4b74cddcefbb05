use Rattle.amr_advance.proofs.Absorbed.{AreAbsorbedUpTo}
use Rattle.amr_advance.proofs.registers.absorb_totals.Given as goal

abbrev pub invariant-loop-k : goal.invariant-loop-k
invariant-loop-k l = AreAbsorbedUpTo l.totals l.initial.register l.register l.k
