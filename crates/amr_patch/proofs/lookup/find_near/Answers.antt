use Rattle.std.proofs.Common.{sym}
use Rattle.amr_patch.proofs.Lookups.{in_one}
use Rattle.amr_patch.proofs.lookup.find_near.Goals as goal

pub returns-in-Some-clause-some : goal.returns-in-Some-clause-some
returns-in-Some-clause-some c = sym (in_one c.args.patches.now c.args.c c.in-Some.k c.in-Some.ensures)
