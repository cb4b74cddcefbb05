use Rattle.amr_phase.proofs.Reached.{consistent, places_law, counter_law, complete_law}
use Rattle.amr_phase.proofs.laws.every_list_of_events.Goals as goal

pub returns-clause-words : goal.returns-clause-words
returns-clause-words c = λ d r. (consistent d r).words

pub returns-clause-places : goal.returns-clause-places
returns-clause-places c = places_law

pub returns-clause-counter : goal.returns-clause-counter
returns-clause-counter c = counter_law

pub returns-clause-one_task : goal.returns-clause-one_task
returns-clause-one_task c = λ d r. (consistent d r).one_task

pub returns-clause-complete : goal.returns-clause-complete
returns-clause-complete c = complete_law
