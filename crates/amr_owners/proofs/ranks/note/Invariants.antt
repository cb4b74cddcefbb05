use Rattle.amr_owners.proofs.Noting.{IsNotedTo}
use Rattle.amr_owners.proofs.ranks.note.Given as goal

abbrev pub invariant-loop-k : goal.invariant-loop-k
invariant-loop-k l = IsNotedTo l.numbers l.k l.rank l.fn.ranks l.ranks
