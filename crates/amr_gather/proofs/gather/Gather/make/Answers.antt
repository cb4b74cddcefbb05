use Rattle.amr_gather.proofs.Brought.{first_totals}
use Rattle.amr_gather.proofs.Told.{still_holds, told_is}
use Rattle.amr_gather.proofs.gather.Gather.make.Goals as goal

pub invariant_of-result : goal.invariant_of-result
invariant_of-result c = still_holds c.in_ok-rank.rank (first_totals c.args.ranks c.args.words) c.in_ok-rank.ensures

pub returns : goal.returns
returns c = told_is c.in_ok-rank.rank (first_totals c.args.ranks c.args.words) c.in_ok-rank.ensures
