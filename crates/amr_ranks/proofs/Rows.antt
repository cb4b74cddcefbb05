-- Worked examples, by computation.
use Rattle.std.proofs.Common.{◌≡◌, true, false, [], ◌∷◌, Some, None, refl}
use Rattle.std.specs.Prelude.{slice_index}
use Rattle.amr_ranks.specs.declared.item.Item.TheVariants.{Cell, Share}
use Rattle.amr_ranks.specs.declared.node.Taken.TheVariants.{New, Again, Stranger}
use Rattle.amr_ranks.specs.declared.net.NetEvent.TheVariants.{Post, Deliver}
use Rattle.amr_ranks.specs.Items.{mass_at, cells_in}
use Rattle.amr_ranks.specs.Letters.{LetterOf}
use Rattle.amr_ranks.specs.Nodes.{NodeOf, fresh_node, answer, with_letter, is_ready}
use Rattle.amr_ranks.specs.Laws.{is_delivered}

-- shares 3 and 5 of word 0 for a node with the numbers 0 and 1, and a letter with a number that it hasn't
abbrev first : LetterOf
first = record { number = 0; to = 0; items = Share 0 3 ∷ [] }

abbrev second : LetterOf
second = record { number = 1; to = 0; items = Share 0 5 ∷ [] }

abbrev strange : LetterOf
strange = record { number = 7; to = 0; items = [] }

abbrev start : NodeOf
start = fresh_node 0 (0 ∷ 1 ∷ []) 1 0

abbrev one : NodeOf
one = with_letter start second

abbrev both : NodeOf
both = with_letter one first

second_is_new : answer start second ≡ New
second_is_new = refl

first_is_new : answer one first ≡ New
first_is_new = refl

second_comes_again : answer both second ≡ Again
second_comes_again = refl

another_number_is_strange : answer both strange ≡ Stranger
another_number_is_strange = refl

shares_add_up : slice_index both.totals 0 ≡ 8
shares_add_up = refl

not_ready_with_one : is_ready one ≡ false
not_ready_with_one = refl

ready_with_both : is_ready both ≡ true
ready_with_both = refl

cell_is_found : mass_at 2 9 (cells_in (Cell 2 8 4 ∷ Share 0 1 ∷ Cell 2 9 6 ∷ [])) ≡ Some 6
cell_is_found = refl

no_cell_there : mass_at 9 2 (cells_in (Cell 2 9 6 ∷ [])) ≡ None
no_cell_there = refl

comes_after_its_post : is_delivered (Deliver 0 ∷ Post 0 ∷ Post 0 ∷ Deliver 0 ∷ Deliver 0 ∷ []) 0 ≡ true
comes_after_its_post = refl

comes_not_before_it : is_delivered (Deliver 0 ∷ Post 1 ∷ Deliver 1 ∷ Post 0 ∷ []) 0 ≡ false
comes_not_before_it = refl
