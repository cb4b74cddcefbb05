use Rattle.std.proofs.Common.{arith}
use Rattle.amr_layout.proofs.Counts.{on_ok}
use Rattle.amr_advance.proofs.InDomain.{all_lie, few_patches}
use Rattle.amr_advance.proofs.lots.make_lots.Goals as goal

pub plan_adds_in_threads-requires-clause-inside : goal.plan_adds_in_threads-requires-clause-inside
plan_adds_in_threads-requires-clause-inside g c κs within = all_lie c.args.s.problem.now c.args.s.level c.args.s.patches.now c.requires.level.inside

pub lots_of-requires-clause-flows : goal.lots_of-requires-clause-flows
lots_of-requires-clause-flows g c = record { flows = c.in_ok-flows.ensures.flows; words = c.in_ok-flows.ensures.words }

pub lots_of-requires-clause-small : goal.lots_of-requires-clause-small
lots_of-requires-clause-small g c = few_patches c.args.s.problem.now c.args.s.level c.args.s.patches.now c.requires.level.level c.requires.level.apart c.requires.level.inside

pub returns-clause-lots : goal.returns-clause-lots
returns-clause-lots g c = c.lots_of.ensures.lots

pub returns-clause-count : goal.returns-clause-count
returns-clause-count g c = c.lots_of.ensures.count

pub returns-clause-masses : goal.returns-clause-masses
returns-clause-masses g c = c.lots_of.ensures.masses

pub returns-clause-few : goal.returns-clause-few
returns-clause-few g c = on_ok c.lots_of.result (let few = c.in_ok-flows.ensures.few in omega (arith, few))
