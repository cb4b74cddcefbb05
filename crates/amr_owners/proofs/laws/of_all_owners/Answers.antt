use Rattle.amr_owners.proofs.HandedBack.{are_served}
use Rattle.amr_owners.proofs.Members.{of_rank, of_level}
use Rattle.amr_owners.proofs.Order.{apart, each_owned, in_order}
use Rattle.amr_owners.proofs.Totals.{together}
use Rattle.amr_owners.proofs.laws.of_all_owners.Goals as goal

pub returns-clause-rank : goal.returns-clause-rank
returns-clause-rank c = of_rank

pub returns-clause-level : goal.returns-clause-level
returns-clause-level c = of_level

pub returns-clause-each : goal.returns-clause-each
returns-clause-each c = each_owned

pub returns-clause-order : goal.returns-clause-order
returns-clause-order c = in_order

pub returns-clause-apart : goal.returns-clause-apart
returns-clause-apart c = apart

pub returns-clause-together : goal.returns-clause-together
returns-clause-together c = together

pub returns-clause-served : goal.returns-clause-served
returns-clause-served c = are_served
