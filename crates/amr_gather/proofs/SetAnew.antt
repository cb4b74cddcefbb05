-- A rank's letter with other totals.
use Rattle.std.proofs.Common.{◌≡◌, ◌∙◌, ℕ, zero, suc, ◌+◌, ◌<◌, ◌==◌, cond, Bool, true, false, true≢false, refl, sym, ap, subst, List, [], ◌∷◌, length, get_or, set, arith, eq-eqb, ne_eqb}
use Rattle.std.specs.Prelude.{◌&&◌, IsTrue, map}
use Rattle.std.specs.List.{All, list_all}
use Rattle.std.proofs.lemmas.Bool.{and_parts, eqb-true}
use Rattle.std.proofs.lemmas.List.{length-set}
use Rattle.std.proofs.lemmas.List.Elements.{All-cons, All-get_or, All-head, All-nil, All-set, All-tail}
use Rattle.amr_ranks.specs.declared.item.Item.{Item}
use Rattle.amr_ranks.specs.declared.item.Item.TheVariants.{Share}
use Rattle.amr_ranks.specs.Items.{is_share, total}
use Rattle.amr_ranks.specs.Letters.{LetterOf, numbers_of}
use Rattle.amr_ranks.specs.Nodes.{NodeOf, fresh_node}
use Rattle.amr_ranks.proofs.Sums.{total-map}
use Rattle.amr_post.specs.declared.ranks.Rank.{Rank}
use Rattle.amr_post.specs.Amounts.{HasShares, IsUnsent, items_with, with_amounts}
use Rattle.amr_post.specs.Letters.{AreSame, IsRankChannel, letters_in}
use Rattle.amr_gather.specs.Totals.{Totals}
use Rattle.amr_gather.specs.Held.{Holds, letter_from, letters_from, shares_from}

-- ---- what passes a test, by weights

abbrev unless : Bool → ℕ
unless b = cond b 0 1

passed : (b : Bool) → unless b ≡ 0 → b ≡ true
passed true e = refl
passed false e = absurd (omega (arith, e))

same_pass : (t : LetterOf → Bool) (xs : List LetterOf) → total (λ (l : LetterOf). unless (t l)) xs ≡ 0 → All (λ (l : LetterOf). t l ≡ true) xs
same_pass t [] none = All-nil (λ (l : LetterOf). t l ≡ true)
same_pass t (x ∷ xs) none =
    let e : unless (t x) + total (λ (l : LetterOf). unless (t l)) xs ≡ 0 = none in
    All-cons (λ (l : LetterOf). t l ≡ true) x xs (passed (t x) (omega arith)) (same_pass t xs (omega arith))

all_shares : (items : List Item) → list_all is_share items ≡ true → All (λ (i : Item). IsTrue (is_share i)) items
all_shares [] e = All-nil (λ (i : Item). IsTrue (is_share i))
all_shares (i ∷ items) e = let p = and_parts (is_share i) (list_all is_share items) e in All-cons (λ (x : Item). IsTrue (is_share x)) i items p.0 (all_shares items p.1)

module _ (words : ℕ) where
  -- so many shares
  abbrev full : LetterOf → Bool
  full l = list_all is_share l.items && (length l.items == words)

  shares_pass : (b : ℕ) (ts : List ℕ) → list_all is_share (shares_from b ts) ≡ true
  shares_pass b [] = refl
  shares_pass b (t ∷ ts) = shares_pass (b + 1) ts

  shares_count : (b : ℕ) (ts : List ℕ) → length (shares_from b ts) ≡ length ts
  shares_count b [] = refl
  shares_count b (t ∷ ts) = ap suc (shares_count (b + 1) ts)

  letters_pass : (from : ℕ) (lists : List (List ℕ)) → All (λ (ts : List ℕ). length ts ≡ words) lists → total (λ (l : LetterOf). unless (full l)) (letters_from from lists) ≡ 0
  letters_pass from [] counted = refl
  letters_pass from (ts ∷ lists) counted =
      let P : List ℕ → Type 0 = λ (xs : List ℕ). length xs ≡ words in
      let a : list_all is_share (shares_from 0 ts) ≡ true = shares_pass 0 ts in
      let b : (length (shares_from 0 ts) == words) ≡ true = eq-eqb (length (shares_from 0 ts)) words (shares_count 0 ts ∙ All-head P ts lists counted) in
      let here : unless (full (letter_from from ts)) ≡ 0 = ap (λ x. unless (x && (length (shares_from 0 ts) == words))) a ∙ ap (λ x. unless (true && x)) b in
      let rest = letters_pass (from + 1) lists (All-tail P ts lists counted) in
      let r : unless (full (letter_from from ts)) + total (λ (l : LetterOf). unless (full l)) (letters_from (from + 1) lists) ≡ 0 = omega arith in r

  pub have_shares : (number count : ℕ) (ls : List LetterOf) (lists : List (List ℕ)) → AreSame ls (letters_from 0 lists) → All (λ (ts : List ℕ). length ts ≡ words) lists → count ≡ words
      → All (HasShares number count) ls
  have_shares number count ls lists alike counted is =
      let all : All (λ (l : LetterOf). full l ≡ true) ls = same_pass full ls (alike (λ (l : LetterOf). unless (full l)) ∙ letters_pass 0 lists counted) in
      λ k d lt _. (let p = and_parts (list_all is_share (get_or ls k d).items) (length (get_or ls k d).items == words) (all k d lt) in
      record { shares = all_shares (get_or ls k d).items p.0; counted = eqb-true (length (get_or ls k d).items) words p.1 ∙ sym is })

-- ---- the letters

others_stay : (from first : ℕ) (ts : List ℕ) (lists : List (List ℕ)) → from < first → map (with_amounts from ts) (letters_from first lists) ≡ letters_from first lists
others_stay from first ts [] lt = refl
others_stay from first ts (xs ∷ lists) lt =
    let l : LetterOf = letter_from first xs in
    let here : with_amounts from ts l ≡ l = ap (λ c. cond c (record l { items = items_with l.items ts }) l) (ne_eqb first from (λ e. omega (arith, e, lt))) in
    let rest = others_stay from (first + 1) ts lists (omega arith) in
    λ i. here i ∷ rest i

items_set : (b : ℕ) (xs ts : List ℕ) → length xs ≡ length ts → items_with (shares_from b xs) ts ≡ shares_from b ts
items_set b [] [] same = refl
items_set b [] (t ∷ ts) same = absurd (omega (arith, same))
items_set b (x ∷ xs) [] same = absurd (omega (arith, same))
items_set b (x ∷ xs) (t ∷ ts) same = ap (λ (ys : List Item). Share b t ∷ ys) (items_set (b + 1) xs ts (omega (arith, same)))

letter_set : (first j : ℕ) (ts : List ℕ) (lists : List (List ℕ)) → j < length lists → length (get_or lists j []) ≡ length ts
    → map (with_amounts (first + j) ts) (letters_from first lists) ≡ letters_from first (set lists j ts)
letter_set first j ts [] lt same = absurd (omega (arith, lt))
letter_set first zero ts (xs ∷ lists) lt same =
    let l : LetterOf = letter_from first xs in
    let own : with_amounts (first + 0) ts l ≡ record l { items = items_with l.items ts } = ap (λ c. cond c (record l { items = items_with l.items ts }) l) (eq-eqb first (first + 0) (omega arith)) in
    let items = items_set 0 xs ts same in
    let made : record l { items = items_with l.items ts } ≡ letter_from first ts = λ i. record { number = first; to = 0; items = items i } in
    let here : with_amounts (first + 0) ts l ≡ letter_from first ts = own ∙ made in
    let rest = others_stay (first + 0) (first + 1) ts lists (omega arith) in
    λ i. here i ∷ rest i
letter_set first (suc j) ts (xs ∷ lists) lt same =
    let l : LetterOf = letter_from first xs in
    let here : with_amounts (first + suc j) ts l ≡ l = ap (λ c. cond c (record l { items = items_with l.items ts }) l) (ne_eqb first (first + suc j) (λ e. omega (arith, e))) in
    let next : first + 1 + j ≡ first + suc j = omega arith in
    let rest : map (with_amounts (first + suc j) ts) (letters_from (first + 1) lists) ≡ letters_from (first + 1) (set lists j ts)
    = subst (λ n. map (with_amounts n ts) (letters_from (first + 1) lists) ≡ letters_from (first + 1) (set lists j ts)) next (letter_set (first + 1) j ts lists (omega (arith, lt)) same) in
    λ i. here i ∷ rest i

same_numbers : (first : ℕ) (xs ys : List (List ℕ)) → length xs ≡ length ys → numbers_of (letters_from first xs) ≡ numbers_of (letters_from first ys)
same_numbers first [] [] same = refl
same_numbers first [] (y ∷ ys) same = absurd (omega (arith, same))
same_numbers first (x ∷ xs) [] same = absurd (omega (arith, same))
same_numbers first (x ∷ xs) (y ∷ ys) same = ap (λ (ns : List ℕ). first ∷ ns) (same_numbers (first + 1) xs ys (omega (arith, same)))

module _ (old new : Rank) (from : ℕ) (ts : List ℕ) (post : IsRankChannel new.post) (unsent : IsUnsent new.post)
    (letters : letters_in new.post.parcels.items ≡ map (with_amounts from ts) (letters_in old.post.parcels.items)) (node : new.node ≡ old.node) where
  pub set_anew : (t : Totals) → Holds old t → from < length t.lists → length ts ≡ t.words → Holds new (record t { lists = set t.lists from ts })
  set_anew t h lt count =
      let g : LetterOf → LetterOf = with_amounts from ts in
      let from_is : 0 + from ≡ from = omega arith in
      let become : map g (letters_from 0 t.lists) ≡ letters_from 0 (set t.lists from ts)
      = subst (λ n. map (with_amounts n ts) (letters_from 0 t.lists) ≡ letters_from 0 (set t.lists from ts)) from_is (letter_set 0 from ts t.lists lt (h.counted from [] lt ∙ sym count)) in
      record {
        channel = post;
        unsent = unsent;
        counted = All-set (λ (xs : List ℕ). length xs ≡ t.words) t.lists from ts count h.counted;
        letters = λ weight. ap (total weight) letters ∙ (total-map weight g (letters_in old.post.parcels.items) ∙ (h.letters (λ (l : LetterOf). weight (g l))
            ∙ (sym (total-map weight g (letters_from 0 t.lists)) ∙ ap (total weight) become)));
        node = node ∙ (h.node ∙ ap (λ (ns : List ℕ). fresh_node 0 ns t.words 0) (same_numbers 0 t.lists (set t.lists from ts) (sym (length-set t.lists from ts))));
      }
