use Rattle.amr_flows.proofs.Ordered.{serve, serve_base}
use Rattle.amr_flows.proofs.edges.registers_serve_layouts.Goals as goal

pub returns-clause-finer : goal.returns-clause-finer
returns-clause-finer c = serve

pub returns-clause-base : goal.returns-clause-base
returns-clause-base c = serve_base
