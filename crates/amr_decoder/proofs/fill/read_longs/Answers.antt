use Rattle.std.proofs.Common.{◌∙◌, ◌≡◌, drop, length, arith}
use Rattle.std.specs.Int.{w64}
use Rattle.amr_decoder.specs.Numbers.{number_at}
use Rattle.amr_decoder.proofs.MassReadings.{number_here}
use Rattle.amr_decoder.proofs.TestedMasses.{all_numbers}
use Rattle.amr_decoder.proofs.fill.read_longs.Goals as goal

pub returns : goal.returns
returns c =
    let bytes = drop c.args.from c.args.bytes.now in
    all_numbers w64 (length c.args.row.now) bytes c.loop-i.row c.loop-i.auto.row (λ k h. c.loop-i.invariant k (omega (arith, h, c.loop-i-test.false)))

pub overflow_cast-row : goal.overflow_cast-row
overflow_cast-row c =
    let i = c.loop-i.i in
    let e : c.long_at.result ≡ number_at w64 (drop c.args.from c.args.bytes.now) i = c.long_at.ensures ∙ number_here w64 c.args.from i c.args.bytes.now in
    omega (arith, e, c.requires.small i (omega (arith, c.loop-i-test.true)))
