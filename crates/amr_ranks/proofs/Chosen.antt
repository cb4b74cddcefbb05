-- Letters to one rank, and those among them that pass a test.
use Rattle.std.proofs.Common.{◌≡◌, ℕ, zero, suc, ◌+◌, ◌<◌, ◌≤◌, ◌==◌, cond, Bool, true, false, true≢false, List, [], ◌∷◌, length, refl, sym, ap, ◌∙◌, subst, arith, eq-eqb, ne_eqb}
use Rattle.std.specs.Prelude.{◌&&◌, filter}
use Rattle.std.proofs.lemmas.Bool.{eqb-true, and_parts, and_from, false_from_ne_true}
use Rattle.std.proofs.lemmas.List.Recursion.{found_at}
use Rattle.amr_ranks.specs.Items.{total, times}
use Rattle.amr_ranks.specs.Letters.{LetterOf, no_letter, letter_at, numbers_of, NumbersDiffer}
use Rattle.amr_ranks.specs.Nets.{letter_with}
use Rattle.amr_ranks.specs.Laws.{chosen}
use Rattle.amr_ranks.proofs.Sums.{one_if}

-- each letter is found by its rank and number
pub letter_found : (ls : List LetterOf) → NumbersDiffer ls → (rank k : ℕ) → k < length ls → (letter_at ls k).to ≡ rank → letter_with rank ls (letter_at ls k).number ≡ letter_at ls k
letter_found ls differ rank k lt to =
    let n : ℕ = (letter_at ls k).number in
    let test : LetterOf → Bool = λ (l : LetterOf). (l.to == rank) && (l.number == n) in
    let before : (j : ℕ) → j < k → test (letter_at ls j) ≡ false = λ j j_lt. false_from_ne_true (test (letter_at ls j)) (λ t.
    let p = and_parts ((letter_at ls j).to == rank) ((letter_at ls j).number == n) t in
    let e : j ≡ k = differ j k (omega arith) lt (eqb-true (letter_at ls j).to rank p.0 ∙ sym to) (eqb-true (letter_at ls j).number n p.1) in
    omega arith) in
    let here : test (letter_at ls k) ≡ true = and_from ((letter_at ls k).to == rank) ((letter_at ls k).number == n) (eq-eqb (letter_at ls k).to rank to) (eq-eqb (letter_at ls k).number n refl) in
    found_at (λ (l : List LetterOf). letter_with rank l n) test (λ (l : LetterOf). l) no_letter refl (λ _ _. refl) ls k no_letter lt before here

module _ (T : LetterOf → Bool) where
  -- a sum over letters by their numbers
  pub filter_sum : (G : ℕ → ℕ) (g : LetterOf → ℕ) (ls : List LetterOf) → ((k : ℕ) → k < length ls → T (letter_at ls k) ≡ true → G (letter_at ls k).number ≡ g (letter_at ls k)) → total G (numbers_of (filter T ls)) ≡ total g (filter T ls)
  filter_sum G g [] h = refl
  filter_sum G g (l ∷ ls) h = by_test (T l) refl (h 0 (omega arith)) (filter_sum G g ls (λ k lt t. h (suc k) (omega arith) t))
    where
      by_test : (b : Bool) → T l ≡ b → (T l ≡ true → G l.number ≡ g l) → total G (numbers_of (filter T ls)) ≡ total g (filter T ls)
          → total G (numbers_of (cond b (l ∷ filter T ls) (filter T ls))) ≡ total g (cond b (l ∷ filter T ls) (filter T ls))
      by_test true e here go = let a = here e in let r : G l.number + total G (numbers_of (filter T ls)) ≡ g l + total g (filter T ls) = omega arith in r
      by_test false e here go = go

  -- the number of a letter that passes is there
  pub number_there : (ls : List LetterOf) (k : ℕ) → k < length ls → T (letter_at ls k) ≡ true → 0 < times (letter_at ls k).number (numbers_of (filter T ls))
  number_there [] k lt t = absurd (omega arith)
  number_there (l ∷ ls) zero lt t =
      let one : 0 < one_if (l.number == l.number) + times l.number (numbers_of (filter T ls)) = (let s : one_if (l.number == l.number) ≡ 1 = ap one_if (eq-eqb l.number l.number refl) in omega arith) in
      subst (λ b. 0 < times l.number (numbers_of (cond b (l ∷ filter T ls) (filter T ls)))) (sym t) one
  number_there (l ∷ ls) (suc k) lt t = by_test (T l) (number_there ls k (omega arith) t)
    where
      by_test : (b : Bool) → 0 < times (letter_at ls k).number (numbers_of (filter T ls)) → 0 < times (letter_at ls k).number (numbers_of (cond b (l ∷ filter T ls) (filter T ls)))
      by_test true go = let r : 0 < one_if (l.number == (letter_at ls k).number) + times (letter_at ls k).number (numbers_of (filter T ls)) = omega arith in r
      by_test false go = go

  -- a number that no letter that passes has is nowhere
  pub number_absent : (n : ℕ) (ls : List LetterOf) → ((k : ℕ) → k < length ls → T (letter_at ls k) ≡ true → (letter_at ls k).number ≡ n → ⊥) → times n (numbers_of (filter T ls)) ≡ 0
  number_absent n [] h = refl
  number_absent n (l ∷ ls) h = by_test (T l) refl (h 0 (omega arith)) (number_absent n ls (λ k lt t e. h (suc k) (omega arith) t e))
    where
      by_test : (b : Bool) → T l ≡ b → (T l ≡ true → l.number ≡ n → ⊥) → times n (numbers_of (filter T ls)) ≡ 0 → times n (numbers_of (cond b (l ∷ filter T ls) (filter T ls))) ≡ 0
      by_test true e ne go =
          let here : one_if (l.number == n) ≡ 0 = ap one_if (ne_eqb l.number n (ne e)) in
          let r : one_if (l.number == n) + times n (numbers_of (filter T ls)) ≡ 0 = omega arith in r
      by_test false e ne go = go

at_most : (c : Bool) (m : ℕ) → m ≤ 1 → (c ≡ true → m ≡ 0) → one_if c + m ≤ 1
at_most true m le none = let e = none refl in let r : 1 + m ≤ 1 = omega arith in r
at_most false m le none = let r : 0 + m ≤ 1 = omega arith in r

-- where no two letters that pass have a number, it is there once at most
pub number_once : (T : LetterOf → Bool) (n : ℕ) (ls : List LetterOf)
    → ((j k : ℕ) → j < length ls → k < length ls → T (letter_at ls j) ≡ true → T (letter_at ls k) ≡ true → (letter_at ls j).number ≡ n → (letter_at ls k).number ≡ n → j ≡ k)
    → times n (numbers_of (filter T ls)) ≤ 1
number_once T n [] same = let r : 0 ≤ 1 = omega arith in r
number_once T n (l ∷ ls) same =
    by_test (T l) refl (number_once T n ls (λ j k j_lt k_lt a b e f. (let s : suc j ≡ suc k = same (suc j) (suc k) (omega arith) (omega arith) a b e f in omega arith)))
    (λ t e k k_lt u f. (let s : 0 ≡ suc k = same 0 (suc k) (omega arith) (omega arith) t u e f in omega arith))
  where
    by_test : (b : Bool) → T l ≡ b → times n (numbers_of (filter T ls)) ≤ 1
        → (T l ≡ true → l.number ≡ n → (k : ℕ) → k < length ls → T (letter_at ls k) ≡ true → (letter_at ls k).number ≡ n → ⊥)
        → times n (numbers_of (cond b (l ∷ filter T ls) (filter T ls))) ≤ 1
    by_test true e le apart = at_most (l.number == n) (times n (numbers_of (filter T ls))) le (λ here. number_absent T n ls (apart e (eqb-true l.number n here)))
    by_test false e le apart = le

-- a further test that a number passes leaves it as often
pub filter_and : (T : LetterOf → Bool) (Q : ℕ → Bool) (n : ℕ) → Q n ≡ true → (ls : List LetterOf)
    → times n (numbers_of (filter (λ (l : LetterOf). T l && Q l.number) ls)) ≡ times n (numbers_of (filter T ls))
filter_and T Q n passes [] = refl
filter_and T Q n passes (l ∷ ls) = by_test (T l) (Q l.number) refl (filter_and T Q n passes ls)
  where
    by_test : (b c : Bool) → Q l.number ≡ c → times n (numbers_of (filter (λ (x : LetterOf). T x && Q x.number) ls)) ≡ times n (numbers_of (filter T ls))
        → times n (numbers_of (cond (b && c) (l ∷ filter (λ (x : LetterOf). T x && Q x.number) ls) (filter (λ (x : LetterOf). T x && Q x.number) ls))) ≡ times n (numbers_of (cond b (l ∷ filter T ls) (filter T ls)))
    by_test true true e go = ap (λ m. one_if (l.number == n) + m) go
    by_test true false e go =
        let ne : (l.number == n) ≡ false = ne_eqb l.number n (λ s. true≢false (sym passes ∙ (ap Q (sym s) ∙ e))) in
        let here : one_if (l.number == n) ≡ 0 = ap one_if ne in
        let r : times n (numbers_of (filter (λ (x : LetterOf). T x && Q x.number) ls)) ≡ one_if (l.number == n) + times n (numbers_of (filter T ls)) = omega arith in r
    by_test false true e go = go
    by_test false false e go = go

-- letters chosen by their places are those that pass by their numbers, where the tests agree
pub chosen_same : (test : ℕ → Bool) (rank : ℕ) (Q : ℕ → Bool) (i : ℕ) (ls : List LetterOf)
    → ((k : ℕ) → k < length ls → (letter_at ls k).to ≡ rank → Q (letter_at ls k).number ≡ test (i + k))
    → filter (λ (l : LetterOf). (l.to == rank) && Q l.number) ls ≡ chosen test rank i ls
chosen_same test rank Q i [] h = refl
chosen_same test rank Q i (l ∷ ls) h =
    by_test (l.to == rank) (λ b. h 0 (omega arith) (eqb-true l.to rank b) ∙ ap test (let e : i + 0 ≡ i = omega arith in e))
    (chosen_same test rank Q (i + 1) ls (λ k lt to. h (suc k) (omega arith) to ∙ ap test (let e : i + suc k ≡ (i + 1) + k = omega arith in e)))
  where
    by_test : (b : Bool) → (b ≡ true → Q l.number ≡ test i) → filter (λ (x : LetterOf). (x.to == rank) && Q x.number) ls ≡ chosen test rank (i + 1) ls
        → cond (b && Q l.number) (l ∷ filter (λ (x : LetterOf). (x.to == rank) && Q x.number) ls) (filter (λ (x : LetterOf). (x.to == rank) && Q x.number) ls) ≡ cond (b && test i) (l ∷ chosen test rank (i + 1) ls) (chosen test rank (i + 1) ls)
    by_test true here go =
        ap (λ t. cond t (l ∷ filter (λ (x : LetterOf). (x.to == rank) && Q x.number) ls) (filter (λ (x : LetterOf). (x.to == rank) && Q x.number) ls)) (here refl)
        ∙ ap (λ (xs : List LetterOf). cond (test i) (l ∷ xs) xs) go
    by_test false here go = go
