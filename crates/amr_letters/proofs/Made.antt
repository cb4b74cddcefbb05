-- The letters to a rank, made one after another from the lists of items, and the ranks with theirs.
use Rattle.std.proofs.Common.{◌≡◌, ◌∙◌, ℕ, ◌+◌, ◌*◌, ◌<◌, ◌≤◌, List, [], ◌∷◌, ◌++◌, length, set, get_or, sym, ap, subst, arith, below_more}
use Rattle.std.specs.Prelude.{map}
use Rattle.std.specs.Global.{Vec}
use Rattle.std.specs.List.{range_with_len}
use Rattle.std.proofs.lemmas.List.{get_or-set_other, get_or_append_left, length-append, length-set}
use Rattle.std.proofs.Math.Seq.{get_or-append_seam}
use Rattle.std.proofs.lemmas.List.Elements.{All-append, All-cons, All-nil, All-set}
use Rattle.std.proofs.lemmas.List.FromFn.{map-range_with_len_more}
use Rattle.amr_ranks.specs.declared.item.Item.{Item}
use Rattle.amr_ranks.specs.Letters.{LetterOf}
use Rattle.amr_letters.specs.Sources.{Sharing}
use Rattle.amr_letters.specs.Between.{AreSmallItems, IsSmallItem, between, item_of, letter_between}
use Rattle.amr_post.specs.declared.ranks.Rank.{Rank}
use Rattle.amr_letters.specs.Shared.{AreRanksFor, AreSmallLetters, AreSmallLists, IsRankFor}

-- the letters of the first ranks are made, and the lists of the others are left
pub record AreMade (s : Sharing) (ranks to from : ℕ) (lists : List (Vec Item)) (letters : List LetterOf) : Type 0 where
  pub counted : length lists ≡ ranks
  pub made : letters ≡ map (letter_between s ranks to) (range_with_len 0 from)
  pub small : AreSmallLetters letters
  pub lists_small : AreSmallLists lists
  pub left : (j : ℕ) (v : Vec Item) → from ≤ j → j < ranks → (get_or lists j v).items ≡ map item_of (between s j to)

-- one more is made
module _ (s : Sharing) (ranks to from : ℕ) (lists : List (Vec Item)) (letters all : List LetterOf) (taken empty v : Vec Item) (letter : LetterOf) where
  pub one_made : from < ranks → AreMade s ranks to from lists letters → taken ≡ get_or lists from v → empty.items ≡ [] → letter ≡ record { number = from * ranks + to; to = to; items = taken.items }
      → all ≡ letters ++ letter ∷ [] → AreMade s ranks to (from + 1) (set lists from empty) all
  one_made few h is none told pushed =
      let there : from < length lists = (let c = h.counted in omega (arith, c, few)) in
      let items : taken.items ≡ map item_of (between s from to) = ap (λ (x : Vec Item). x.items) is ∙ h.left from v (omega arith) few in
      let letter_is : letter ≡ letter_between s ranks to from = told ∙ ap (λ (its : List Item). record { number = from * ranks + to; to = to; items = its }) items in
      let small_taken : AreSmallItems taken.items = subst (λ (x : Vec Item). AreSmallItems x.items) (sym is) (h.lists_small from v there) in
      let small_letter : AreSmallItems letter.items = subst (λ (l : LetterOf). AreSmallItems l.items) (sym told) small_taken in
      let small_empty : AreSmallItems empty.items = subst (λ (its : List Item). AreSmallItems its) (sym none) (All-nil IsSmallItem) in
      let first : 0 + from ≡ from = omega arith in
      record {
        counted = length-set lists from empty ∙ h.counted;
        made =
            pushed ∙ ap (λ (ls : List LetterOf). ls ++ letter ∷ []) h.made ∙ ap (λ (l : LetterOf). map (letter_between s ranks to) (range_with_len 0 from) ++ l ∷ []) letter_is
            ∙ sym (map-range_with_len_more (letter_between s ranks to) 0 from from first);
        small =
            subst (λ (ls : List LetterOf). AreSmallLetters ls) (sym pushed)
            (All-append (λ (l : LetterOf). AreSmallItems l.items) letters (letter ∷ []) h.small
            (All-cons (λ (l : LetterOf). AreSmallItems l.items) letter [] small_letter (All-nil (λ (l : LetterOf). AreSmallItems l.items))));
        lists_small = All-set (λ (x : Vec Item). AreSmallItems x.items) lists from empty small_empty h.lists_small;
        left = λ j w le lt. ap (λ (x : Vec Item). x.items) (get_or-set_other lists from j empty w (λ e. omega (arith, e, le))) ∙ h.left j w (omega (arith, le)) lt;
      }

-- ---- the ranks

-- the first ranks have the letters to them
pub record AreFirstRanks (s : Sharing) (ranks to : ℕ) (all : List Rank) : Type 0 where
  pub counted : length all ≡ to
  pub at : (k : ℕ) (r : Rank) → k < to → IsRankFor s ranks k (get_or all k r)

module _ (s : Sharing) (ranks to : ℕ) (all more : List Rank) (rank : Rank) where
  pub one_rank : AreFirstRanks s ranks to all → IsRankFor s ranks to rank → more ≡ all ++ rank ∷ [] → AreFirstRanks s ranks (to + 1) more
  one_rank h is pushed = record {
    counted = (let e = ap (λ (rs : List Rank). length rs) pushed in let n = length-append all (rank ∷ []) in let c = h.counted in omega (arith, e, n, c));
    at = λ k r lt. subst (λ (rs : List Rank). IsRankFor s ranks k (get_or rs k r)) (sym pushed) (below_more (λ j. IsRankFor s ranks j (get_or (all ++ rank ∷ []) j r)) to (before r) (last r) k (omega (arith, lt)));
  }
    where
      before : (r : Rank) (j : ℕ) → j < to → IsRankFor s ranks j (get_or (all ++ rank ∷ []) j r)
      before r j lt = subst (λ (x : Rank). IsRankFor s ranks j x) (sym (get_or_append_left all (rank ∷ []) r j (let c = h.counted in omega (arith, c, lt)))) (h.at j r lt)

      last : (r : Rank) → IsRankFor s ranks to (get_or (all ++ rank ∷ []) to r)
      last r =
          subst (λ (x : Rank). IsRankFor s ranks to x) (sym (ap (λ n. get_or (all ++ rank ∷ []) n r) (sym h.counted) ∙ get_or-append_seam all rank [] r)) is

pub all_ranks : (s : Sharing) (ranks to : ℕ) (all : List Rank) → to ≡ ranks → AreFirstRanks s ranks to all → AreRanksFor s ranks all
all_ranks s ranks to all is h = record { counted = h.counted ∙ is; at = λ k r lt. h.at k r (omega (arith, is, lt)) }
