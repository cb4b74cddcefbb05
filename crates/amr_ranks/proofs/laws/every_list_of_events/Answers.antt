use Rattle.amr_ranks.proofs.Whole.{delivered_law, ready_law}
use Rattle.amr_ranks.proofs.laws.every_list_of_events.Goals as goal

pub returns-clause-delivered : goal.returns-clause-delivered
returns-clause-delivered c = λ ls ranks words room rank es net lt. delivered_law ls ranks words room rank es net lt

pub returns-clause-ready : goal.returns-clause-ready
returns-clause-ready c = λ ls ranks words room rank es net lt ready. ready_law ls ranks words room rank es net lt ready
