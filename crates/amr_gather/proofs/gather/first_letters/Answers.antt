use Rattle.std.proofs.Common.{◌≡◌, ◌∙◌, ◌+◌, ◌++◌, ◌∷◌, [], List, ap, sym, arith, ℕ, replicate}
use Rattle.std.specs.Prelude.{map}
use Rattle.std.specs.List.{range_with_len}
use Rattle.std.proofs.lemmas.List.FromFn.{map-range_with_len_more}
use Rattle.amr_ranks.specs.declared.item.Item.{Item}
use Rattle.amr_ranks.specs.Letters.{LetterOf}
use Rattle.amr_gather.specs.Held.{letter_from}
use Rattle.amr_gather.proofs.Brought.{letters_alike}
use Rattle.amr_gather.proofs.gather.first_letters.Goals as goal

pub loop-from-preserved : goal.loop-from-preserved
loop-from-preserved c =
    let n : ℕ = c.loop-from.from in
    let f : ℕ → LetterOf = λ (from : ℕ). letter_from from (replicate c.args.words 0) in
    let zero_add : 0 + n ≡ n = omega arith in
    let own : c.make.result ≡ f n = c.make.ensures ∙ ap (λ (is : List Item). record { number = n; to = 0; items = is }) c.in_ok-no_shares.ensures in
    c.in_ok-push.ensures.items ∙ (ap (λ (ls : List LetterOf). ls ++ c.make.result ∷ []) c.loop-from.invariant
    ∙ (ap (λ (l : LetterOf). map f (range_with_len 0 n) ++ l ∷ []) own ∙ sym (map-range_with_len_more f 0 n n zero_add)))

pub returns : goal.returns
returns c =
    let f : ℕ → LetterOf = λ (from : ℕ). letter_from from (replicate c.args.words 0) in
    let all : c.loop-from.from ≡ c.args.ranks = (let f = c.loop-from-test.false in let e = c.loop-from.auto.from-end in omega arith) in
    c.loop-from.invariant ∙ (ap (λ n. map f (range_with_len 0 n)) all ∙ letters_alike 0 c.args.ranks (replicate c.args.words 0))
