use Rattle.std.proofs.Common.{◌≡◌, ℕ, ◌+◌, ◌-◌, ap, ◌∙◌, length, arith, w64}
use Rattle.std.proofs.Math.ListN.{length-set}
use Rattle.std.specs.Prelude.{◌==◌}
use Rattle.std.specs.Int.{trailing_zeros}
use Rattle.amr_sign.specs.Counts.{bit}
use Rattle.amr_sign.specs.Words.{word_bit}
use Rattle.amr_sign.proofs.Bits.{word_bit-zero, bit-counted, bit-room, lowest-inside, part-smaller, cleared-same, cleared-other, cleared-smaller}
use Rattle.amr_sign.proofs.words.add_word.Goals as goal

pub overflow_sub-counts : goal.overflow_sub-counts
overflow_sub-counts c =
    let found = lowest-inside c.args.word c.loop-rest.rest c.args.base c.args.low (length c.args.counts.now) (omega arith) (omega arith) (record { at = c.loop-rest.invariant.subset }) (record { at = c.requires.inside }) in
    found.from

pub bounds-counts-base : goal.bounds-counts-base
bounds-counts-base c =
    let found = lowest-inside c.args.word c.loop-rest.rest c.args.base c.args.low (length c.args.counts.now) (omega arith) (omega arith) (record { at = c.loop-rest.invariant.subset }) (record { at = c.requires.inside }) in
    omega (arith, found.from, found.to)

pub bounds-counts-base-in-loop-rest : goal.bounds-counts-base-in-loop-rest
bounds-counts-base-in-loop-rest c =
    let found = lowest-inside c.args.word c.loop-rest.rest c.args.base c.args.low (length c.args.counts.now) (omega arith) (omega arith) (record { at = c.loop-rest.invariant.subset }) (record { at = c.requires.inside }) in
    omega (arith, found.from, found.to)

pub overflow_add-counts-in-loop-rest : goal.overflow_add-counts-in-loop-rest
overflow_add-counts-in-loop-rest c =
    let found = lowest-inside c.args.word c.loop-rest.rest c.args.base c.args.low (length c.args.counts.now) (omega arith) (omega arith) (record { at = c.loop-rest.invariant.subset }) (record { at = c.requires.inside }) in
    let t = trailing_zeros w64 c.loop-rest.rest in
    let p = c.args.base + t - c.args.low in
    let at : c.args.low + p ≡ c.args.base + t = omega (arith, found.from) in
    omega (arith, bit-room c.loop-rest.rest c.args.word c.args.base c.args.low t p _ _ found.small found.on at (c.loop-rest.invariant.counted p (omega (arith, found.from, found.to))) (c.requires.room p (omega (arith, found.from, found.to))))

pub loop-rest-smaller : goal.loop-rest-smaller
loop-rest-smaller c =
    let found = lowest-inside c.args.word c.loop-rest.rest c.args.base c.args.low (length c.args.counts.now) (omega arith) (omega arith) (record { at = c.loop-rest.invariant.subset }) (record { at = c.requires.inside }) in
    cleared-smaller c.loop-rest.rest (trailing_zeros w64 c.loop-rest.rest) found.small (omega arith) found.on

pub loop-rest-preserved : goal.loop-rest-preserved
loop-rest-preserved c =
    let rest = c.loop-rest.rest in
    let found = lowest-inside c.args.word rest c.args.base c.args.low (length c.args.counts.now) (omega arith) (omega arith) (record { at = c.loop-rest.invariant.subset }) (record { at = c.requires.inside }) in
    let t = trailing_zeros w64 rest in
    let p = c.args.base + t - c.args.low in
    let at : c.args.low + p ≡ c.args.base + t = omega (arith, found.from) in
    record {
      counted = λ k h. bit-counted c.loop-rest.counts rest _ c.args.base c.args.low t p k _ found.small (ap (λ (b : ℕ). b == 1) found.on) (cleared-same rest t found.small) (λ i m ne. cleared-other rest t i found.small m ne) at (omega (arith, found.from, found.to)) (c.loop-rest.invariant.counted k (simp length-set at h));
      subset = (part-smaller rest c.args.word t found.small (record { at = c.loop-rest.invariant.subset })).at;
    }

pub returns : goal.returns
returns c = λ k h.
    let none : bit (word_bit c.loop-rest.rest c.args.base (c.args.low + k)) ≡ 0 = ap (λ (w : ℕ). bit (word_bit w c.args.base (c.args.low + k))) c.loop-rest-test.false ∙ ap bit (word_bit-zero c.args.base (c.args.low + k)) in
    omega (arith, none, c.loop-rest.invariant.counted k h)
