use Rattle.amr_flows.proofs.EdgeFlows.{flows_on_edges}
use Rattle.amr_flows.proofs.EdgePuts.{puts_on_edges}
use Rattle.amr_flows.proofs.edges.posts_are_on_edges.Goals as goal

pub returns-clause-puts : goal.returns-clause-puts
returns-clause-puts c = puts_on_edges

pub returns-clause-flows : goal.returns-clause-flows
returns-clause-flows c = flows_on_edges
