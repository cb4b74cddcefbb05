use Rattle.std.proofs.Common.{◌≡◌, ℕ, ◌+◌, ◌*◌, ◌/◌, ◌<◌, false, length, refl, sym, ap, ◌∙◌, arith}
use lib.Count.{ones-le}
use Rattle.std.specs.Prelude.{◌==◌}
use Rattle.std.specs.Int.{bit_at}
use Rattle.amr_sign.specs.Stretches.{begins, ends, in_span, preceding}
use Rattle.amr_sign.proofs.Counts.{count_to_bound}
use Rattle.amr_sign.proofs.Bits.{counted-first, none-below, window-whole, word-counted, word-more}
use Rattle.amr_sign.proofs.StretchCounts.{begins-inside, begun-bits, ended-bits, ends-inside, lifted-is, next-first, no-more, no-ones, none-preceding, quiet-begins, quiet-ends, quiet-next}
use Rattle.amr_sign.proofs.stretches.add_row_stretches.Goals as goal

pub overflow_add-count : goal.overflow_add-count
overflow_add-count c =
    omega (arith, c.loop-k.invariant.number, count_to_bound (in_span c.args.row.now c.args.low c.args.high) (64 * c.loop-k.k), ones-le 64 c.masked_word-word.result c.masked_word-word.type_inv)

pub add_word-requires-clause-inside : goal.add_word-requires-clause-inside
add_word-requires-clause-inside c = λ i h on.
    let span = in_span c.args.row.now c.args.low c.args.high in
    let k = c.loop-k.k in
    let word = c.masked_word-word.result in
    let bits : (i : ℕ) → i < 64 → (bit_at word i == 1) ≡ span (64 * k + i) = λ i h. c.masked_word-word.ensures i h in
    let lifts = lifted-is span k word bits c.raised-lifted.result c.loop-k.before c.loop-k.invariant.first c.raised-lifted.ensures.first (λ i h. c.raised-lifted.ensures.others i h) in
    begins-inside c.args.row.now c.args.low c.args.high (length c.loop-k.begun) (64 * k + i) (omega arith) (sym (begun-bits span k word bits c.raised-lifted.result c.apart_from.result lifts (λ j. c.apart_from.ensures j) i h) ∙ on)

pub add_word-requires-in-loop-k-clause-inside : goal.add_word-requires-in-loop-k-clause-inside
add_word-requires-in-loop-k-clause-inside c = λ i h on.
    let span = in_span c.args.row.now c.args.low c.args.high in
    let k = c.loop-k.k in
    let word = c.masked_word-word.result in
    let bits : (i : ℕ) → i < 64 → (bit_at word i == 1) ≡ span (64 * k + i) = λ i h. c.masked_word-word.ensures i h in
    let lifts = lifted-is span k word bits c.raised-lifted.result c.loop-k.before c.loop-k.invariant.first c.raised-lifted.ensures.first (λ i h. c.raised-lifted.ensures.others i h) in
    ends-inside c.args.row.now c.args.low c.args.high (length c.loop-k.ended) (64 * k + i) (omega arith) (sym (ended-bits span k word bits c.raised-lifted.result c.apart_from-in-loop-k.result lifts (λ j. c.apart_from-in-loop-k.ensures j) i h) ∙ on)

pub loop-k-init : goal.loop-k-init
loop-k-init c =
    let span = in_span c.args.row.now c.args.low c.args.high in
    record {
      begin = λ i h. counted-first (begins span) c.args.low (c.args.low + i) _ (omega arith);
      end = λ i h. counted-first (ends span) c.args.low (c.args.low + i) _ (omega arith);
      number = sym (none-below c.args.row.now c.args.low c.args.high (64 * (c.args.low / 64)) (omega arith));
      first = sym (none-preceding c.args.row.now c.args.low c.args.high (64 * (c.args.low / 64)) (omega arith));
    }

pub loop-k-preserved : goal.loop-k-preserved
loop-k-preserved c =
    let span = in_span c.args.row.now c.args.low c.args.high in
    let k = c.loop-k.k in
    let word = c.masked_word-word.result in
    let bits : (i : ℕ) → i < 64 → (bit_at word i == 1) ≡ span (64 * k + i) = λ i h. c.masked_word-word.ensures i h in
    let lifts = lifted-is span k word bits c.raised-lifted.result c.loop-k.before c.loop-k.invariant.first c.raised-lifted.ensures.first (λ i h. c.raised-lifted.ensures.others i h) in
    record {
      begin = λ i h. word-counted (begins span) k c.apart_from.result (c.args.low + i) _ _ _ (begun-bits span k word bits c.raised-lifted.result c.apart_from.result lifts (λ j. c.apart_from.ensures j)) (c.loop-k.invariant.begin i (omega arith)) (c.add_word.ensures i h);
      end = λ i h. word-counted (ends span) k c.apart_from-in-loop-k.result (c.args.low + i) _ _ _ (ended-bits span k word bits c.raised-lifted.result c.apart_from-in-loop-k.result lifts (λ j. c.apart_from-in-loop-k.ensures j)) (c.loop-k.invariant.end i (omega arith)) (c.add_word-in-loop-k.ensures i h);
      number = word-more c.args.row.now c.args.low c.args.high k word c.loop-k.count _ c.masked_word-word.type_inv bits c.loop-k.invariant.number refl;
      first = c.last_bit-before.ensures ∙ next-first span k word bits;
    }

pub returns-clause-count : goal.returns-clause-count
returns-clause-count c =
    c.loop-k.invariant.number ∙ window-whole c.args.row.now c.args.low c.args.high (64 * c.loop-k.k) c.requires.order (omega arith)

pub loop-k-preserved-then-not-before : goal.loop-k-preserved-then-not-before
loop-k-preserved-then-not-before c =
    let span = in_span c.args.row.now c.args.low c.args.high in
    let k = c.loop-k.k in
    let none : c.masked_word-word.result ≡ 0 = c.if-word-eq0.true in
    let quiet : c.loop-k.before ≡ false = c.if-not-before.true in
    let bits : (i : ℕ) → i < 64 → (bit_at 0 i == 1) ≡ span (64 * k + i) = λ i h. ap (λ (w : ℕ). bit_at w i == 1) (sym none) ∙ c.masked_word-word.ensures i h in
    let before : false ≡ preceding span (64 * k) = sym quiet ∙ c.loop-k.invariant.first in
    record {
      begin = λ i h. word-counted (begins span) k 0 (c.args.low + i) _ _ _ (quiet-begins span k bits before) (c.loop-k.invariant.begin i h) (no-more (64 * k) (c.args.low + i) _);
      end = λ i h. word-counted (ends span) k 0 (c.args.low + i) _ _ _ (quiet-ends span k bits before) (c.loop-k.invariant.end i h) (no-more (64 * k) (c.args.low + i) _);
      number = word-more c.args.row.now c.args.low c.args.high k 0 c.loop-k.count c.loop-k.count (omega arith) bits c.loop-k.invariant.number (no-ones c.loop-k.count);
      first = quiet ∙ quiet-next span k bits before;
    }
