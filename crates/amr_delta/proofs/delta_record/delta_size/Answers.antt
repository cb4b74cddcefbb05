use Rattle.std.proofs.Common.{arith}
use Rattle.amr_payload.specs.Delta.{delta_size}
use Rattle.amr_delta.proofs.Sizes.{size_small}
use Rattle.amr_delta.proofs.delta_record.delta_size.Goals as goal

pub returns-clause-value : goal.returns-clause-value
unfolding delta_size
returns-clause-value c = c.room.ensures

pub returns-clause-small : goal.returns-clause-small
unfolding delta_size
returns-clause-small c = omega (arith, size_small c.args.p.now, c.room.ensures)
