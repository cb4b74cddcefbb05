use Rattle.std.proofs.Common.{arith}
use Rattle.amr_layout.specs.Arounds.{around_of}
use Rattle.amr_layout.proofs.Counts.{cells_few, faces_few, on_ok}
use Rattle.amr_layout.proofs.FlowWords.{level_words, searches}
use Rattle.amr_layout.proofs.level_flows.plan_adds.Goals as goal

pub flows_of_run-requires-clause-search : goal.flows_of_run-requires-clause-search
flows_of_run-requires-clause-search c = searches c.args.surroundings c.requires.level c.requires.order c.requires.apart c.requires.starts c.requires.cells c.requires.all

pub returns-clause-words : goal.returns-clause-words
returns-clause-words c = level_words c.args.surroundings c.flows_of_run.result c.requires.cells c.flows_of_run.ensures

pub returns-clause-edges : goal.returns-clause-edges
returns-clause-edges c = on_ok c.flows_of_run.result (omega (arith, faces_few c.args.surroundings.problem.now c.args.surroundings.level c.args.surroundings.patches.now c.requires.level c.requires.apart c.requires.inside))

pub returns-clause-few : goal.returns-clause-few
returns-clause-few c = on_ok c.flows_of_run.result (omega (arith, cells_few (around_of c.args.surroundings) c.requires.level c.requires.cells))
