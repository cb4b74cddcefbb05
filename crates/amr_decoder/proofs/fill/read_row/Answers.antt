use Rattle.std.proofs.Common.{◌<◌, ◌^◌, drop, subst}
use Rattle.amr_codec.specs.declared.numbers.MassWidth.{MassWidth}
use Rattle.amr_codec.specs.MassWidths.{width_of}
use Rattle.amr_decoder.specs.Numbers.{number_at}
use Rattle.amr_decoder.proofs.fill.read_row.Goals as goal

pub read_longs-requires-clause-small : goal.read_longs-requires-clause-small
read_longs-requires-clause-small c i h =
    subst (λ (m : MassWidth). number_at (width_of m) (drop c.args.from c.args.bytes.now) i < 2 ^ 32) c.in-Eight.is (c.requires.small i h)
