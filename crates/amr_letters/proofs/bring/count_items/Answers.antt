use Rattle.std.proofs.Common.{◌∙◌, ◌+◌, List, ◌<◌, SomeIff, ap, refl, subst, length}
use Rattle.amr_ranks.specs.declared.item.Item.{Item}
use Rattle.std.specs.Result.{result_ok}
use Rattle.amr_ranks.specs.Items.{total}
use Rattle.amr_ranks.specs.Letters.{LetterOf}
use Rattle.amr_ghost.proofs.Counts.{IsCount, counted_more}
use Rattle.amr_letters.proofs.bring.count_items.Goals as goal

items_counted : IsCount (λ (l : LetterOf). length l.items) (total (λ (l : LetterOf). length l.items))
items_counted = record { none = refl; more = λ l ls. refl }

pub loop-k-preserved : goal.loop-k-preserved
loop-k-preserved c = counted_more items_counted c.args.letters.now c.loop-k.k c.index-letters-k.result _ c.checked_add.result c.loop-k.count c.in_ok-count.count c.loop-k-test.true c.loop-k.invariant (subst (λ (xs : List Item). SomeIff c.checked_add.result (c.loop-k.count + length xs < 18446744073709551616) (c.loop-k.count + length xs)) (c.items.ensures ∙ ap (λ (x : LetterOf). x.items) c.index-letters-k.is) c.checked_add.ensures) (c.ok_or.ensures.ok_part ∙ ap result_ok c.in_ok-count.was)
