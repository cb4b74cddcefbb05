-- What letters say is what they were made of.
use Rattle.std.proofs.Common.{◌≡◌, ◌∙◌, ℕ, zero, suc, ◌+◌, ◌<◌, ◌≤◌, ◌==◌, cond, Bool, refl, sym, ap, subst, List, [], ◌∷◌, length, get_or, arith, eq-eqb, ne_eqb}
use Rattle.std.specs.Prelude.{map}
use Rattle.std.specs.List.{All, range_with_len}
use Rattle.std.proofs.lemmas.List.{get_or_past, length-map, length-replicate}
use Rattle.std.proofs.lemmas.List.FromFn.{fill_by_all}
use Rattle.amr_ranks.specs.Items.{share_in}
use Rattle.amr_ranks.specs.Letters.{LetterOf, numbers_of, shares_of}
use Rattle.amr_ranks.specs.Nodes.{NodeOf}
use Rattle.amr_post.specs.declared.ranks.Rank.{Rank}
use Rattle.amr_post.specs.Letters.{letters_in}
use Rattle.amr_gather.specs.Totals.{Totals, sum_at}
use Rattle.amr_gather.specs.Held.{Holds, letter_from, letters_from, shares_from, told, totals_told}

-- ---- shares

share_before : (word b : ℕ) (ts : List ℕ) → word < b → share_in word (shares_from b ts) ≡ 0
share_before word b [] lt = refl
share_before word b (t ∷ ts) lt =
    let here : cond (b == word) t 0 ≡ 0 = ap (λ c. cond c t 0) (ne_eqb b word (λ e. omega (arith, e, lt))) in
    let rest = share_before word (b + 1) ts (omega arith) in
    let r : cond (b == word) t 0 + share_in word (shares_from (b + 1) ts) ≡ 0 = omega arith in r

share_at : (b k : ℕ) (ts : List ℕ) → share_in (b + k) (shares_from b ts) ≡ get_or ts k 0
share_at b k [] = sym (get_or_past [] k 0 (omega arith))
share_at b zero (t ∷ ts) =
    let here : cond (b == (b + 0)) t 0 ≡ t = ap (λ c. cond c t 0) (eq-eqb b (b + 0) (omega arith)) in
    let rest = share_before (b + 0) (b + 1) ts (omega arith) in
    let r : cond (b == (b + 0)) t 0 + share_in (b + 0) (shares_from (b + 1) ts) ≡ t = omega arith in r
share_at b (suc k) (t ∷ ts) =
    let here : cond (b == (b + suc k)) t 0 ≡ 0 = ap (λ c. cond c t 0) (ne_eqb b (b + suc k) (λ e. omega (arith, e))) in
    let next : b + 1 + k ≡ b + suc k = omega arith in
    let rest : share_in (b + suc k) (shares_from (b + 1) ts) ≡ get_or ts k 0 = subst (λ w. share_in w (shares_from (b + 1) ts) ≡ get_or ts k 0) next (share_at (b + 1) k ts) in
    let r : cond (b == (b + suc k)) t 0 + share_in (b + suc k) (shares_from (b + 1) ts) ≡ get_or ts k 0 = omega arith in r

pub share_of : (word : ℕ) (ts : List ℕ) → share_in word (shares_from 0 ts) ≡ get_or ts word 0
share_of word ts = let next : 0 + word ≡ word = omega arith in subst (λ w. share_in w (shares_from 0 ts) ≡ get_or ts word 0) next (share_at 0 word ts)

-- all shares of a word are its sum
pub shares_sum : (from word : ℕ) (lists : List (List ℕ)) → shares_of word (letters_from from lists) ≡ sum_at lists word
shares_sum from word [] = refl
shares_sum from word (ts ∷ lists) =
    let here = share_of word ts in
    let rest = shares_sum (from + 1) word lists in
    let r : share_in word (shares_from 0 ts) + shares_of word (letters_from (from + 1) lists) ≡ get_or ts word 0 + sum_at lists word = omega arith in r

-- ---- letters

told_before : (from first word : ℕ) (lists : List (List ℕ)) → from < first → told from word (letters_from first lists) ≡ 0
told_before from first word [] lt = refl
told_before from first word (ts ∷ lists) lt =
    let s = share_in word (shares_from 0 ts) in
    let here : cond (first == from) s 0 ≡ 0 = ap (λ c. cond c s 0) (ne_eqb first from (λ e. omega (arith, e, lt))) in
    let rest = told_before from (first + 1) word lists (omega arith) in
    let r : cond (first == from) s 0 + told from word (letters_from (first + 1) lists) ≡ 0 = omega arith in r

told_at : (first j word : ℕ) (lists : List (List ℕ)) → j < length lists → told (first + j) word (letters_from first lists) ≡ get_or (get_or lists j []) word 0
told_at first j word [] lt = absurd (omega (arith, lt))
told_at first zero word (ts ∷ lists) lt =
    let s = share_in word (shares_from 0 ts) in
    let own : s ≡ get_or ts word 0 = share_of word ts in
    let here : cond (first == (first + 0)) s 0 ≡ s = ap (λ c. cond c s 0) (eq-eqb first (first + 0) (omega arith)) in
    let rest = told_before (first + 0) (first + 1) word lists (omega arith) in
    let r : cond (first == (first + 0)) s 0 + told (first + 0) word (letters_from (first + 1) lists) ≡ get_or ts word 0 = omega arith in r
told_at first (suc j) word (ts ∷ lists) lt =
    let s = share_in word (shares_from 0 ts) in
    let here : cond (first == (first + suc j)) s 0 ≡ 0 = ap (λ c. cond c s 0) (ne_eqb first (first + suc j) (λ e. omega (arith, e))) in
    let next : first + 1 + j ≡ first + suc j = omega arith in
    let rest : told (first + suc j) word (letters_from (first + 1) lists) ≡ get_or (get_or lists j []) word 0
    = subst (λ n. told n word (letters_from (first + 1) lists) ≡ get_or (get_or lists j []) word 0) next (told_at (first + 1) j word lists (omega (arith, lt))) in
    let r : cond (first == (first + suc j)) s 0 + told (first + suc j) word (letters_from (first + 1) lists) ≡ get_or (get_or lists j []) word 0 = omega arith in r

pub count_letters : (first : ℕ) (lists : List (List ℕ)) → length (letters_from first lists) ≡ length lists
count_letters first [] = refl
count_letters first (ts ∷ lists) = ap suc (count_letters (first + 1) lists)

-- ---- what a rank holds

module _ (r : Rank) (t : Totals) (h : Holds r t) where
  pub words_held : length r.node.totals ≡ t.words
  words_held = ap (λ (n : NodeOf). length n.totals) h.node ∙ length-replicate t.words 0

  ranks_held : length r.node.numbers ≡ length t.lists
  ranks_held = ap (λ (n : NodeOf). length n.numbers) h.node ∙ (length-map (letters_from 0 t.lists) (λ (l : LetterOf). l.number) ∙ count_letters 0 t.lists)

  row_is : (k : ℕ) → k < length r.node.numbers → get_or t.lists k [] ≡ map (λ word. told k word (letters_in r.post.parcels.items)) (range_with_len 0 (length r.node.totals))
  row_is k lt =
      let below : k < length t.lists = (let n = ranks_held in omega arith) in
      fill_by_all (λ word. told k word (letters_in r.post.parcels.items)) (get_or t.lists k []) (length r.node.totals) 0 (h.counted k [] below ∙ sym words_held)
      (λ word word_lt.
      let there : told (0 + k) word (letters_from 0 t.lists) ≡ get_or (get_or t.lists k []) word 0 = told_at 0 k word t.lists below in
      let k_is : 0 + k ≡ k = omega arith in
      let alike : told k word (letters_in r.post.parcels.items) ≡ told k word (letters_from 0 t.lists) = h.letters (λ (l : LetterOf). cond (l.number == k) (share_in word l.items) 0) in
      sym (alike ∙ subst (λ n. told n word (letters_from 0 t.lists) ≡ get_or (get_or t.lists k []) word 0) k_is there))

  pub told_is : totals_told r ≡ t
  told_is =
      let lists : t.lists ≡ map (λ from. map (λ word. told from word (letters_in r.post.parcels.items)) (range_with_len 0 (length r.node.totals))) (range_with_len 0 (length r.node.numbers))
      = fill_by_all (λ from. map (λ word. told from word (letters_in r.post.parcels.items)) (range_with_len 0 (length r.node.totals))) t.lists (length r.node.numbers) [] (sym ranks_held) row_is in
      let back = sym lists in
      λ i. record { words = words_held i; lists = back i }

  pub still_holds : Holds r (totals_told r)
  still_holds = subst (λ (u : Totals). Holds r u) (sym told_is) h
