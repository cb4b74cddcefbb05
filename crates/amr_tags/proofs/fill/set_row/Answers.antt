use Rattle.std.proofs.Common.{◌≡◌, ℕ, ◌+◌, ◌*◌, ◌<◌, ◌∙◌, refl, ap, arith, length, length-set, get_or, set}
use Rattle.std.specs.Prelude.{bit_or}
use Rattle.std.proofs.lemmas.List.{get_or_default}
use Rattle.amr_tags.specs.Bits.{bit_of}
use Rattle.amr_tags.proofs.Fills.{first-word, last-word, next-word}
use Rattle.amr_tags.proofs.fill.set_row.Goals as goal

pub loop-w-init : goal.loop-w-init
loop-w-init c = (λ i r _. first-word (bit_of c.args.per_row c.args.words.now.items i r) c.args.j c.args.from c.args.to i r, refl)

pub loop-w-preserved : goal.loop-w-preserved
loop-w-preserved c =
    let place : c.args.j * c.args.per_row + c.loop-w.w < length c.loop-w.words.items = omega (arith, c.loop-w.invariant.1, c.requires.there, c.requires.inside, c.loop-w-test.true) in
    let word : c.index.result.now ≡ get_or c.loop-w.words.items (c.args.j * c.args.per_row + c.loop-w.w) 0 = c.index.ensures ∙ get_or_default c.loop-w.words.items (c.args.j * c.args.per_row + c.loop-w.w) c.index.result.now 0 place in (
      λ i r h.
          ap (λ (v : ℕ). bit_of c.args.per_row (set c.loop-w.words.items (c.args.j * c.args.per_row + c.loop-w.w) (bit_or v c.kept-mask.result)) i r) word
          ∙ next-word c.args.per_row c.loop-w.words.items c.args.j c.loop-w.w c.args.from c.args.to c.kept-mask.result i r (bit_of c.args.per_row c.args.words.now.items i r) (omega (arith, c.requires.inside, c.loop-w-test.true)) h place c.kept-mask.ensures (c.loop-w.invariant.0 i r h),
      length-set _ _ _ ∙ c.loop-w.invariant.1,
    )

pub returns-clause-bits : goal.returns-clause-bits
returns-clause-bits c = λ i r h. c.loop-w.invariant.0 i r h ∙ last-word (bit_of c.args.per_row c.args.words.now.items i r) c.args.j c.args.from c.args.to i r c.loop-w.w (omega arith)
