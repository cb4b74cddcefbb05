use Rattle.std.proofs.Common.{◌≡◌, ◌∙◌, ◌<◌, ℕ, List, length, take, get_or, set, sym, ap, subst, arith}
use Rattle.std.specs.Prelude.{IsTrue}
use Rattle.amr_ranks.specs.declared.item.Item.{Item}
use Rattle.amr_ranks.specs.Items.{is_share, no_item, with_amount}
use Rattle.amr_ranks.specs.Letters.{LetterOf}
use Rattle.amr_post.specs.Amounts.{items_with}
use Rattle.amr_post.proofs.SetAnew.{items_none, not_yet, one_more_amount}
use Rattle.amr_post.proofs.amounts.set_items.Goals as goal

pub loop-i-init : goal.loop-i-init
loop-i-init c =
    let f : List Item → LetterOf = λ (xs : List Item). record { number = c.args.letter.now.number; to = c.args.letter.now.to; items = xs } in
    ap f (sym (items_none c.args.letter.now.items))

pub set_amount-requires : goal.set_amount-requires
set_amount-requires c =
    let i : ℕ = c.loop-i.i in
    let was : List Item = c.args.letter.now.items in
    let items : c.loop-i.letter.items ≡ items_with was (take i c.args.amounts.now) = ap (λ (l : LetterOf). l.items) c.loop-i.invariant in
    let at : get_or c.loop-i.letter.items i no_item ≡ get_or was i no_item = ap (λ (xs : List Item). get_or xs i no_item) items ∙ not_yet was c.args.amounts.now i no_item in
    let below : i < length was = omega arith in
    subst (λ (x : Item). IsTrue (is_share x)) (sym at) (c.requires.shares i no_item below)

pub loop-i-preserved : goal.loop-i-preserved
loop-i-preserved c =
    let i : ℕ = c.loop-i.i in
    let a : ℕ = get_or c.args.amounts.now i 0 in
    let f : List Item → LetterOf = λ (xs : List Item). record { number = c.args.letter.now.number; to = c.args.letter.now.to; items = xs } in
    let g : LetterOf → LetterOf = λ (l : LetterOf). record l { items = set l.items i (with_amount (get_or l.items i no_item) a) } in
    let below : i < length c.args.amounts.now = omega arith in
    c.set_amount.ensures ∙ (ap g c.loop-i.invariant ∙ ap f (one_more_amount c.args.letter.now.items c.args.amounts.now i no_item 0 c.requires.counted below))
