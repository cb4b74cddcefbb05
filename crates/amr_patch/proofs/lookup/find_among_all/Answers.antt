use Rattle.std.proofs.Common.{sym, arith}
use Rattle.amr_patch.proofs.Lookups.{in_none}
use Rattle.amr_patch.proofs.lookup.find_among_all.Goals as goal

pub returns-clause-some : goal.returns-clause-some
returns-clause-some c = sym (in_none c.args.patches.now c.args.c (λ i d lt. c.loop-k.invariant i d (omega arith)))
