use Rattle.std.proofs.Common.{◌≡◌, ◌+◌, ◌∙◌, ap, ℕ, List, drop, get_or, length-drop, arith}
use Rattle.std.specs.Int.{w8, from_le_bytes}
use Rattle.std.proofs.lemmas.List.{get_or-drop}
use Rattle.amr_payload.specs.Tests.{read}
use Rattle.amr_decoder.specs.Lefts.{left_of}
use Rattle.amr_decoder.proofs.Readings.{left_at, number_bad, number_read}
use Rattle.amr_decoder.proofs.reader.Reader.read_u8.Goals as goal

first_byte : (bs : List ℕ) → from_le_bytes w8 bs ≡ get_or bs 0 0
first_byte bs = omega arith

at_place : (k : ℕ) (bytes : List ℕ) → from_le_bytes w8 (drop k bytes) ≡ get_or bytes k 0
at_place k bytes = let same : k + 0 ≡ k = omega arith in first_byte (drop k bytes) ∙ get_or-drop k bytes 0 0 ∙ ap (λ n. get_or bytes n 0) same

pub returns-then-count_left-lt1-clause-bad : goal.returns-then-count_left-lt1-clause-bad
unfolding left_of
returns-then-count_left-lt1-clause-bad c =
    let s = c.args.self.now in
    number_bad w8 s.place s.bytes.now (omega (arith, c.count_left.ensures, length-drop s.place s.bytes.now))

pub returns-clause-read : goal.returns-clause-read
unfolding left_of
returns-clause-read c =
    let s = c.args.self.now in
    number_read w8 s.place s.bytes.now (omega (arith, c.count_left.ensures, length-drop s.place s.bytes.now))
    ∙ ap (λ n. read n (left_at (s.place + 1) s.bytes.now)) (at_place s.place s.bytes.now)
