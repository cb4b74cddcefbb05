use Rattle.std.proofs.Common.{◌+◌}
use Rattle.amr_def.specs.Ledger.{inflow, outflow}
use Rattle.amr_witness.proofs.ledger.row_after.Goals as goal

pub returns-clause-inflow : goal.returns-clause-inflow
unfolding inflow
returns-clause-inflow c = λ i. c.in_ok-x.ensures.inflow i + c.in_ok-y.ensures.inflow i

pub returns-clause-outflow : goal.returns-clause-outflow
unfolding outflow
returns-clause-outflow c = λ i. c.in_ok-x.ensures.outflow i + c.in_ok-y.ensures.outflow i
