use Rattle.amr_balance.specs.Shares.{lists_in}
use Rattle.amr_owners.proofs.Noting.{AreNotedTo}
use Rattle.amr_owners.proofs.ranks.ranks_of.Given as goal

abbrev pub invariant-loop-rank : goal.invariant-loop-rank
invariant-loop-rank l = AreNotedTo (lists_in l.numbers) l.rank l.count l.ranks.items
