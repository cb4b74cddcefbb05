use Rattle.std.proofs.Common.{drop, length, arith}
use Rattle.std.specs.Int.{w32}
use Rattle.amr_decoder.proofs.TestedMasses.{all_numbers}
use Rattle.amr_decoder.proofs.fill.read_words.Goals as goal

pub returns : goal.returns
returns c =
    let bytes = drop c.args.from c.args.bytes.now in
    all_numbers w32 (length c.args.row.now) bytes c.loop-i.row c.loop-i.auto.row (λ k h. c.loop-i.invariant k (omega (arith, h, c.loop-i-test.false)))
