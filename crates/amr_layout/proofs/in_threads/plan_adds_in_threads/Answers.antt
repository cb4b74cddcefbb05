use Rattle.std.proofs.Common.{arith}
use Rattle.amr_layout.specs.Arounds.{around_of}
use Rattle.amr_layout.proofs.Counts.{cells_few, faces_few, on_ok}
use Rattle.amr_layout.proofs.FlowWords.{level_words, searches}
use Rattle.amr_layout.proofs.in_threads.plan_adds_in_threads.Goals as goal

pub flows_by_runs-requires-clause-search : goal.flows_by_runs-requires-clause-search
flows_by_runs-requires-clause-search g c κs within = searches c.args.surroundings c.requires.level c.requires.order c.requires.apart c.requires.starts c.requires.cells c.requires.all

pub returns-clause-words : goal.returns-clause-words
returns-clause-words g c = level_words c.args.surroundings c.flows_by_runs.result c.requires.cells c.flows_by_runs.ensures

pub returns-clause-edges : goal.returns-clause-edges
returns-clause-edges g c = on_ok c.flows_by_runs.result (omega (arith, faces_few c.args.surroundings.problem.now c.args.surroundings.level c.args.surroundings.patches.now c.requires.level c.requires.apart c.requires.inside))

pub returns-clause-few : goal.returns-clause-few
returns-clause-few g c = on_ok c.flows_by_runs.result (omega (arith, cells_few (around_of c.args.surroundings) c.requires.level c.requires.cells))
