use Rattle.amr_advance.proofs.LentParts.{AreLentTo}
use Rattle.amr_advance.proofs.correction.lend.Given as goal

-- the lots before this one have their shares
abbrev pub invariant-loop-k : goal.invariant-loop-k
invariant-loop-k l = AreLentTo l.each l.whole l.k l.initial.lots l.lots
