use Rattle.std.proofs.Common.{rules, tests, not}
use Rattle.std.proofs.lemmas.Iterator.{YieldsList-from_slice, YieldsList-from_zip}
use Rattle.std.proofs.lemmas.Iterator.Search.{find_from_yields_List}
use Rattle.amr_problem.specs.Keys.{holds}
use Rattle.amr_problem.proofs.range.outside.Goals as goal

pub returns : goal.returns
returns c =
    find_from_yields_List (λ e. not (holds e.0 e.1)) c.find.new.self _ c.find.result c.find.ensures.ran (YieldsList-from_zip (YieldsList-from_slice c.args.ranges.now (cc)) (YieldsList-from_slice c.args.numbers.now (cc))) (λ x b q k. search (rules, tests))
