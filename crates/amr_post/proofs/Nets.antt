-- The letters of a net to one rank, at its node.
use Rattle.std.proofs.Common.{◌≡◌, ◌∙◌, ℕ, ◌+◌, ◌≤◌, ◌<◌, ◌==◌, ◌^◌, cond, refl, sym, ap, subst, List, [], ◌∷◌, length, replicate, eq-eqb}
use Rattle.std.specs.Prelude.{IsTrue}
use Rattle.std.specs.List.{All}
use Rattle.std.proofs.Math.ListN.{length-replicate}
use Rattle.std.proofs.lemmas.Bool.{eqb-true}
use Rattle.std.proofs.lemmas.List.Elements.{All-head, All-tail}
use Rattle.amr_ranks.specs.declared.item.Item.{Item}
use Rattle.amr_ranks.specs.Items.{count_at, has_word, times}
use Rattle.amr_ranks.specs.Letters.{LetterOf, IsNet, letter_at, letters_to, numbers_of, cells_of, shares_of}
use Rattle.amr_ranks.specs.Nodes.{NodeOf, fresh_node}
use Rattle.amr_ranks.proofs.Chosen.{number_once}
use Rattle.amr_post.specs.declared.post.RankChannel.{RankChannel}
use Rattle.amr_post.specs.Letters.{AreSame, Expects, IsRankChannel, MayDeliver, letters_in}

all_to : (rank : ℕ) (ls : List LetterOf) → All (λ (l : LetterOf). l.to ≡ rank) ls → letters_to rank ls ≡ ls
all_to rank [] own = refl
all_to rank (l ∷ ls) own =
    let P : LetterOf → Type 0 = λ (x : LetterOf). x.to ≡ rank in
    ap (λ b. cond b (l ∷ letters_to rank ls) (letters_to rank ls)) (eq-eqb l.to rank (All-head P l ls own)) ∙ ap (λ (xs : List LetterOf). l ∷ xs) (all_to rank ls (All-tail P l ls own))

module _ (rank words cells : ℕ) (ls : List LetterOf) (own : All (λ (l : LetterOf). l.to ≡ rank) ls) (net : IsNet ls (rank + 1) words cells) where
  same : letters_to rank ls ≡ ls
  same = all_to rank ls own

  count : length {A = ℕ} (replicate words 0) ≡ words
  count = length-replicate words 0

  pub expected : Expects (fresh_node rank (numbers_of ls) words cells) ls
  expected = record {
    fresh = ap (λ w. fresh_node rank (numbers_of ls) w cells) (sym count);
    numbers = λ k. refl;
    to_it = own;
    words_fit = subst (λ w. All (λ (l : LetterOf). All (λ (i : Item). IsTrue (has_word w i)) l.items) ls) (sym count) net.words_fit;
    once = λ k. subst (λ (xs : List LetterOf). times k (numbers_of xs) ≤ 1) same
        (number_once (λ (l : LetterOf). l.to == rank) k ls (λ i j i_lt j_lt a b d e.
        net.numbers_differ i j i_lt j_lt (eqb-true (letter_at ls i).to rank a ∙ sym (eqb-true (letter_at ls j).to rank b)) (d ∙ sym e)));
    cells_once = λ patch slot. subst (λ (xs : List LetterOf). count_at patch slot (cells_of xs) ≤ 1) same (net.cells_once rank patch slot);
    totals_fit = λ word. subst (λ (xs : List LetterOf). shares_of word xs < 2 ^ 63) same (net.totals_fit rank word);
    cells_fit = subst (λ (xs : List LetterOf). length (cells_of xs) ≤ cells) same (net.cells_fit rank);
  }

  pub may_deliver : (p : RankChannel) (n : NodeOf) → IsRankChannel p → AreSame (letters_in p.parcels.items) ls → n ≡ fresh_node rank (numbers_of ls) words cells → MayDeliver p n
  may_deliver p n post alike is = record { post = post; letters = ls; same = alike; expects = subst (λ (d : NodeOf). Expects d ls) (sym is) expected }
