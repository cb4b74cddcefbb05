use Rattle.std.proofs.Common.{◌≡◌, ◌*◌, ◌+◌, ◌-◌, ◌∙◌, ℕ, List, length, get_or, ap, refl, arith}
use borrow.Rule.Slice.PartMut.{post_of}
use Rattle.std.specs.Int.{w32}
use Rattle.amr_payload.specs.Payload.{number_bytes}
use Rattle.amr_codec.proofs.Appending.{all_written, number_written}
use Rattle.amr_codec.proofs.numbers.write_words.Goals as goal

pub loop-k-preserved : goal.loop-k-preserved
unfolding number_bytes
loop-k-preserved c =
    let numbers = c.args.numbers.now in
    let k = c.loop-k.k in
    let bytes = c.loop-k.bytes in
    let written = c.copy_from_slice.new.self in
    let here : written ≡ number_bytes w32 (get_or numbers k 0) = c.copy_from_slice.ensures.after ∙ c.to_le_bytes-word.ensures in
    let size : length written ≡ 4 = ap (λ (ns : List ℕ). length ns) here in
    number_written (number_bytes w32) numbers bytes written (post_of (4 * k) (4 * k + 4 - 4 * k) bytes) k (get_or numbers k 0) (4 * k) (4 * (k + 1)) c.loop-k-test.true refl here
    (omega (arith, c.loop-k.auto.bytes, c.requires, c.loop-k-test.true)) (omega (arith, size)) c.loop-k.invariant

pub returns : goal.returns
returns c =
    all_written (number_bytes w32) c.args.numbers.now c.loop-k.bytes c.loop-k.k (4 * c.loop-k.k) (omega (arith, c.loop-k.auto.bytes, c.requires, c.loop-k-test.false)) c.loop-k-test.false c.loop-k.invariant
