use Rattle.amr_layout.proofs.HandedPuts.{AreHanded}
use Rattle.amr_layout.proofs.places.hand_puts.Given as goal

-- the first patches have their puts
abbrev pub invariant-loop-i : goal.invariant-loop-i
invariant-loop-i l = AreHanded l.fn.lists l.fn.patches l.lists l.patches l.i
