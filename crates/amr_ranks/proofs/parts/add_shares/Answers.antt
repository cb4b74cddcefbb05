use Rattle.std.proofs.Common.{◌≡◌, ℕ, ◌+◌, ◌<◌, List, length, get_or, take, ap, ◌∙◌, subst, arith}
use Rattle.std.specs.Prelude.{IsTrue}
use Rattle.std.proofs.lemmas.Bool.{ltb-true}
use Rattle.std.proofs.lemmas.List.{take_all}
use Rattle.std.proofs.lemmas.List.FromFn.{fill_by_all}
use Rattle.amr_ranks.specs.declared.item.Item.{Item}
use Rattle.amr_ranks.specs.declared.item.Item.TheVariants.{Cell, Share}
use Rattle.amr_ranks.specs.Items.{has_word, share_in}
use Rattle.amr_ranks.proofs.Slices.{share_more, share_fits, amount_own, added_more}
use Rattle.amr_ranks.proofs.parts.add_shares.Goals as goal
use Rattle.amr_ranks.proofs.parts.add_shares.Goals.{in-Cell, in-Share}

pub overflow_add-totals : goal.overflow_add-totals
overflow_add-totals c =
    let a = c.in-Share in
    let fits = share_fits c.args.items.now c.loop-item.item-index (Share a.word a.amount) _ c.loop-item-test.true a.is a.word in
    let own = amount_own a.word a.amount in
    let so_far = c.loop-item.invariant a.word in
    let below = c.requires.below a.word in
    omega arith

pub loop-item-preserved : goal.loop-item-preserved
loop-item-preserved c =
    let items = c.args.items.now in
    let i : ℕ = c.loop-item.item-index in
    elim c.match-item.branch [
      | in-Share w ↦ (
          let a = w.in-Share in
          let word_fits : a.word < length c.args.totals.now = ltb-true a.word (length c.args.totals.now) (subst (λ (x : Item). IsTrue (has_word (length c.args.totals.now) x)) a.is (c.requires.words i _ c.loop-item-test.true)) in
          λ v.
          let more = share_more items i (Share a.word a.amount) _ c.loop-item-test.true a.is v in
          let so_far = c.loop-item.invariant v in
          let same = c.loop-item.auto.totals in
          let added = added_more c.loop-item.totals a.word a.amount (omega arith) v in
          ap (λ (t : List ℕ). get_or t v 0) w.totals-is ∙ (added ∙ (omega arith))
          )
      | in-Cell w ↦ (
          let a = w.in-Cell in
          λ v.
          let more = share_more items i (Cell a.patch a.slot a.mass) _ c.loop-item-test.true a.is v in
          let so_far = c.loop-item.invariant v in
          ap (λ (t : List ℕ). get_or t v 0) w.totals-is ∙ (omega arith)
          )
    ]

pub returns : goal.returns
returns c =
    let all : take c.loop-item.item-index c.args.items.now ≡ c.args.items.now = take_all c.loop-item.item-index c.args.items.now c.loop-item-test.false in
    fill_by_all (λ w. get_or c.args.totals.now w 0 + share_in w c.args.items.now) c.loop-item.totals (length c.args.totals.now) 0 c.loop-item.auto.totals
    (λ k lt. c.loop-item.invariant k ∙ ap (λ (xs : List Item). get_or c.args.totals.now k 0 + share_in k xs) all)
