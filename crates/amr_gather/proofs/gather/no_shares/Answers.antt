use Rattle.std.proofs.Common.{◌≡◌, ◌∙◌, ◌+◌, ◌++◌, ◌∷◌, [], List, ap, sym, arith, ℕ}
use Rattle.std.specs.Prelude.{map}
use Rattle.std.specs.List.{range_with_len}
use Rattle.std.proofs.lemmas.List.FromFn.{map-range_with_len_more}
use Rattle.amr_ranks.specs.declared.item.Item.{Item}
use Rattle.amr_ranks.specs.declared.item.Item.TheVariants.{Share}
use Rattle.amr_gather.proofs.Brought.{shares_none}
use Rattle.amr_gather.proofs.gather.no_shares.Goals as goal

pub loop-word-preserved : goal.loop-word-preserved
loop-word-preserved c =
    let n : ℕ = c.loop-word.word in
    let f : ℕ → Item = λ (word : ℕ). Share word 0 in
    let zero_add : 0 + n ≡ n = omega arith in
    c.in_ok-push.ensures.items ∙ (ap (λ (is : List Item). is ++ Share n 0 ∷ []) c.loop-word.invariant ∙ sym (map-range_with_len_more f 0 n n zero_add))

pub returns : goal.returns
returns c =
    let f : ℕ → Item = λ (word : ℕ). Share word 0 in
    let all : c.loop-word.word ≡ c.args.words = (let f = c.loop-word-test.false in let e = c.loop-word.auto.word-end in omega arith) in
    c.loop-word.invariant ∙ (ap (λ n. map f (range_with_len 0 n)) all ∙ shares_none 0 c.args.words)
