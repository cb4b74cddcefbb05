use Rattle.std.proofs.Common.{length-drop, arith}
use Rattle.std.specs.Int.{w32}
use Rattle.amr_decoder.specs.Lefts.{left_of}
use Rattle.amr_decoder.proofs.Readings.{number_bad, number_read}
use Rattle.amr_decoder.proofs.reader.Reader.read_u32.Goals as goal

pub returns-then-count_left-lt4-clause-bad : goal.returns-then-count_left-lt4-clause-bad
unfolding left_of
returns-then-count_left-lt4-clause-bad c =
    let s = c.args.self.now in
    number_bad w32 s.place s.bytes.now (omega (arith, c.count_left.ensures, length-drop s.place s.bytes.now))

pub returns-clause-read : goal.returns-clause-read
unfolding left_of
returns-clause-read c =
    let s = c.args.self.now in
    rw c.word_at.ensures (number_read w32 s.place s.bytes.now (omega (arith, c.count_left.ensures, length-drop s.place s.bytes.now)))
