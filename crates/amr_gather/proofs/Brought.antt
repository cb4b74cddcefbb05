-- The letters of totals make a round, and what the round brings.
use Rattle.std.proofs.Common.{◌≡◌, ◌∙◌, ℕ, zero, suc, ◌+◌, ◌^◌, ◌<◌, ◌≤◌, ◌==◌, cond, Bool, true, false, refl, sym, ap, subst, ⊎_elim, List, [], ◌∷◌, ◌++◌, length, get_or, replicate, arith}
use Rattle.std.specs.Prelude.{IsTrue, filter, map}
use Rattle.std.specs.List.{All, range_with_len}
use Rattle.std.proofs.lemmas.Bool.{cases_lt, lt-ltb}
use Rattle.std.proofs.lemmas.List.{get_or_past, length-replicate}
use Rattle.std.proofs.lemmas.List.Elements.{All-cons, All-head, All-nil, All-replicate, All-tail}
use Rattle.std.proofs.lemmas.List.FromFn.{fill_by_all}
use Rattle.amr_ranks.specs.declared.item.Item.{Item}
use Rattle.amr_ranks.specs.declared.item.Item.TheVariants.{Share}
use Rattle.amr_ranks.specs.declared.item.FrameCell.{FrameCell}
use Rattle.amr_ranks.specs.Items.{cells_in, count_at, has_word, share_in, total}
use Rattle.amr_ranks.specs.Letters.{LetterOf, IsNet, NumbersDiffer, cells_of, letter_at, letters_to, numbers_of, shares_of}
use Rattle.amr_ranks.specs.Nodes.{NodeOf, fresh_node}
use Rattle.amr_post.specs.declared.ranks.Rank.{Rank}
use Rattle.amr_post.specs.Amounts.{IsUnsent}
use Rattle.amr_post.specs.Letters.{AreSame, HasDelivered, IsRankChannel, MayDeliver, letters_in}
use Rattle.amr_post.proofs.Nets.{may_deliver}
use Rattle.amr_gather.specs.Totals.{AreSumsSmall, Totals, sum_at}
use Rattle.amr_gather.specs.Held.{Holds, letter_from, letters_from, shares_from}
use Rattle.amr_gather.proofs.Told.{count_letters, shares_sum, words_held}

pub all_own : (first : ℕ) (lists : List (List ℕ)) → All (λ (l : LetterOf). l.to ≡ 0) (letters_from first lists)
all_own first [] = All-nil (λ (l : LetterOf). l.to ≡ 0)
all_own first (ts ∷ lists) = All-cons (λ (l : LetterOf). l.to ≡ 0) (letter_from first ts) (letters_from (first + 1) lists) refl (all_own (first + 1) lists)

to_fits : (first : ℕ) (lists : List (List ℕ)) → All (λ (l : LetterOf). l.to < 1) (letters_from first lists)
to_fits first [] = All-nil (λ (l : LetterOf). l.to < 1)
to_fits first (ts ∷ lists) = All-cons (λ (l : LetterOf). l.to < 1) (letter_from first ts) (letters_from (first + 1) lists) (omega arith) (to_fits (first + 1) lists)

module _ (words : ℕ) where
  items_fit : (b : ℕ) (ts : List ℕ) → b + length ts ≤ words → All (λ (i : Item). IsTrue (has_word words i)) (shares_from b ts)
  items_fit b [] le = All-nil (λ (i : Item). IsTrue (has_word words i))
  items_fit b (t ∷ ts) le = All-cons (λ (i : Item). IsTrue (has_word words i)) (Share b t) (shares_from (b + 1) ts) (lt-ltb b words (omega (arith, le))) (items_fit (b + 1) ts (omega (arith, le)))

  letters_fit : (first : ℕ) (lists : List (List ℕ)) → All (λ (ts : List ℕ). length ts ≡ words) lists → All (λ (l : LetterOf). All (λ (i : Item). IsTrue (has_word words i)) l.items) (letters_from first lists)
  letters_fit first [] counted = All-nil (λ (l : LetterOf). All (λ (i : Item). IsTrue (has_word words i)) l.items)
  letters_fit first (ts ∷ lists) counted =
      let P : List ℕ → Type 0 = λ (xs : List ℕ). length xs ≡ words in
      let own : length ts ≡ words = All-head P ts lists counted in
      All-cons (λ (l : LetterOf). All (λ (i : Item). IsTrue (has_word words i)) l.items) (letter_from first ts) (letters_from (first + 1) lists)
      (items_fit 0 ts (omega arith)) (letters_fit (first + 1) lists (All-tail P ts lists counted))

  -- past the words all is 0
  sum_past : (word : ℕ) (lists : List (List ℕ)) → All (λ (ts : List ℕ). length ts ≡ words) lists → words ≤ word → sum_at lists word ≡ 0
  sum_past word [] counted past = refl
  sum_past word (ts ∷ lists) counted past =
      let P : List ℕ → Type 0 = λ (xs : List ℕ). length xs ≡ words in
      let own : length ts ≡ words = All-head P ts lists counted in
      let here : get_or ts word 0 ≡ 0 = get_or_past ts word 0 (omega arith) in
      let rest = sum_past word lists (All-tail P ts lists counted) past in
      let r : get_or ts word 0 + sum_at lists word ≡ 0 = omega arith in r

number_at : (first j : ℕ) (lists : List (List ℕ)) → j < length lists → (letter_at (letters_from first lists) j).number ≡ first + j
number_at first j [] lt = absurd (omega (arith, lt))
number_at first zero (ts ∷ lists) lt = let r : first ≡ first + 0 = omega arith in r
number_at first (suc j) (ts ∷ lists) lt = let k = number_at (first + 1) j lists (omega (arith, lt)) in let r : (letter_at (letters_from (first + 1) lists) j).number ≡ first + suc j = omega arith in r

no_cells : (b : ℕ) (ts : List ℕ) → cells_in (shares_from b ts) ≡ []
no_cells b [] = refl
no_cells b (t ∷ ts) = no_cells (b + 1) ts

no_cells_in : (p : LetterOf → Bool) (first : ℕ) (lists : List (List ℕ)) → cells_of (filter p (letters_from first lists)) ≡ []
no_cells_in p first [] = refl
no_cells_in p first (ts ∷ lists) = by_test (p (letter_from first ts)) (filter p (letters_from (first + 1) lists)) (no_cells_in p (first + 1) lists)
  where
    by_test : (b : Bool) (ls : List LetterOf) → cells_of ls ≡ [] → cells_of (cond b (letter_from first ts ∷ ls) ls) ≡ []
    by_test true ls none = let own = no_cells 0 ts in λ i. own i ++ none i
    by_test false ls none = none

filter_less : (p : LetterOf → Bool) (word : ℕ) (ls : List LetterOf) → shares_of word (filter p ls) ≤ shares_of word ls
filter_less p word [] = let r : 0 ≤ 0 = omega arith in r
filter_less p word (l ∷ ls) = by_test (p l) (filter p ls) (filter_less p word ls)
  where
    by_test : (b : Bool) (ms : List LetterOf) → shares_of word ms ≤ shares_of word ls → shares_of word (cond b (l ∷ ms) ms) ≤ share_in word l.items + shares_of word ls
    by_test true ms le = let r : share_in word l.items + shares_of word ms ≤ share_in word l.items + shares_of word ls = omega arith in r
    by_test false ms le = omega arith

module _ (t : Totals) (counted : All (λ (ts : List ℕ). length ts ≡ t.words) t.lists) (small : AreSumsSmall t) where
  all_small : (word : ℕ) → sum_at t.lists word < 2 ^ 63
  all_small word = ⊎_elim (λ lt. small word lt) (λ past. (let none = sum_past t.words word t.lists counted past in omega (arith, none))) (cases_lt word t.words)

  differ : NumbersDiffer (letters_from 0 t.lists)
  differ j k j_lt k_lt to same =
      let n = count_letters 0 t.lists in
      let a = number_at 0 j t.lists (omega arith) in
      let b = number_at 0 k t.lists (omega arith) in
      omega (arith, same)

  pub net : IsNet (letters_from 0 t.lists) 1 t.words 0
  net = record {
    ranks_fit = to_fits 0 t.lists;
    words_fit = letters_fit t.words 0 t.lists counted;
    numbers_differ = differ;
    cells_once = λ rank patch slot. (let none = ap (count_at patch slot) (no_cells_in (λ (l : LetterOf). l.to == rank) 0 t.lists) in omega (arith, none));
    totals_fit = λ rank word.
        (let less = filter_less (λ (l : LetterOf). l.to == rank) word (letters_from 0 t.lists) in
        let sum = shares_sum 0 word t.lists in
        let few = all_small word in
        omega (arith, less, sum, few));
    cells_fit = λ rank. (let none = ap (λ (cells : List FrameCell). length cells) (no_cells_in (λ (l : LetterOf). l.to == rank) 0 t.lists) in omega (arith, none));
  }

  pub may_bring : (r : Rank) → Holds r t → MayDeliver r.post r.node
  may_bring r h = may_deliver 0 t.words 0 (letters_from 0 t.lists) (all_own 0 t.lists) net r.post r.node h.channel h.letters h.node

  -- the sums
  pub sums_brought : (r : Rank) → Holds r t → (n : NodeOf) → HasDelivered r.post r.node n → n.totals ≡ map (sum_at t.lists) (range_with_len 0 t.words)
  sums_brought r h n d =
      let words = words_held r t h in
      fill_by_all (sum_at t.lists) n.totals t.words 0 (d.stays.words ∙ words)
      (λ word lt. (d.just (letters_from 0 t.lists) h.letters).totals word (omega arith) ∙ shares_sum 0 word t.lists)

-- ---- at the start

sums_none : (word ranks words : ℕ) → sum_at (replicate ranks (replicate words 0)) word ≡ 0
sums_none word zero words = refl
sums_none word (suc ranks) words =
    let here = nothing words word in
    let rest = sums_none word ranks words in
    let r : get_or {A = ℕ} (replicate words 0) word 0 + sum_at (replicate ranks (replicate words 0)) word ≡ 0 = omega arith in r
  where
    nothing : (n k : ℕ) → get_or {A = ℕ} (replicate n 0) k 0 ≡ 0
    nothing zero k = get_or_past [] k 0 (omega arith)
    nothing (suc n) zero = refl
    nothing (suc n) (suc k) = nothing n k

abbrev pub first_totals : ℕ → ℕ → Totals
first_totals ranks words = record { words = words; lists = replicate ranks (replicate words 0) }

module _ (ranks words : ℕ) where
  first_counted : All (λ (ts : List ℕ). length ts ≡ words) (replicate ranks (replicate words 0))
  first_counted = All-replicate (λ (ts : List ℕ). length ts ≡ words) ranks (replicate words 0) (length-replicate words 0)

  pub first_net : IsNet (letters_from 0 (replicate ranks (replicate words 0))) 1 words 0
  first_net = net (first_totals ranks words) first_counted (λ word lt. (let none = sums_none word ranks words in omega (arith, none)))

  pub first_held : (r : Rank) → IsRankChannel r.post → IsUnsent r.post → (ls : List LetterOf) → ls ≡ letters_from 0 (replicate ranks (replicate words 0)) → AreSame (letters_in r.post.parcels.items) ls
      → r.node ≡ fresh_node 0 (numbers_of ls) words 0 → Holds r (first_totals ranks words)
  first_held r post unsent ls is alike node = record {
    channel = post;
    unsent = unsent;
    counted = first_counted;
    letters = λ weight. alike weight ∙ ap (total weight) is;
    node = node ∙ ap (λ (xs : List LetterOf). fresh_node 0 (numbers_of xs) words 0) is;
  }

-- ---- made one after another

-- shares of amount 0, of the words in turn
pub shares_none : (b n : ℕ) → map (λ word. Share word 0) (range_with_len b n) ≡ shares_from b (replicate n 0)
shares_none b zero = refl
shares_none b (suc n) = ap (λ (is : List Item). Share b 0 ∷ is) (shares_none (b + 1) n)

pub letters_alike : (first n : ℕ) (ts : List ℕ) → map (λ from. letter_from from ts) (range_with_len first n) ≡ letters_from first (replicate n ts)
letters_alike first zero ts = refl
letters_alike first (suc n) ts = ap (λ (ls : List LetterOf). letter_from first ts ∷ ls) (letters_alike (first + 1) n ts)

pub letters_count : (ranks words : ℕ) → length (letters_from 0 (replicate ranks (replicate words 0))) ≡ ranks
letters_count ranks words = count_letters 0 (replicate ranks (replicate words 0)) ∙ length-replicate ranks (replicate words 0)
