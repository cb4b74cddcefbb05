-- Sums over lists, and lists of numbers of which one has each number at most as often as the other.
use Rattle.std.proofs.Common.{◌≡◌, ℕ, zero, suc, ◌+◌, ◌<◌, ◌≤◌, ◌==◌, cond, Bool, true, false, true≢false, List, [], ◌∷◌, ◌++◌, length, take, get_or, refl, sym, ap, ◌∙◌, arith, eq-eqb, ne_eqb, add-one}
use Rattle.std.specs.Prelude.{map, ◌||◌}
use Rattle.std.specs.List.{flat_map, list_all}
use Rattle.std.proofs.lemmas.Bool.{eqb-true, or_parts, and_parts}
use Rattle.amr_ranks.specs.Items.{total, times}
use Rattle.amr_ranks.specs.Nodes.{is_in}

-- 1 where a test holds
abbrev pub one_if : Bool → ℕ
one_if b = cond b 1 0

pub total-append : {X : Type 0} (f : X → ℕ) (xs ys : List X) → total f (xs ++ ys) ≡ total f xs + total f ys
total-append f [] ys = let r : total f ys ≡ 0 + total f ys = omega arith in r
total-append f (x ∷ xs) ys = let k = total-append f xs ys in let r : f x + total f (xs ++ ys) ≡ (f x + total f xs) + total f ys = omega arith in r

module _ {X : Type 0} where
  pub total_ones : (xs : List X) → total (λ (x : X). 1) xs ≡ length xs
  total_ones [] = refl
  total_ones (x ∷ xs) = let k = total_ones xs in let r : 1 + total (λ (y : X). 1) xs ≡ suc (length xs) = omega arith in r

  pub total-map : {Y : Type 0} (f : Y → ℕ) (g : X → Y) (xs : List X) → total f (map g xs) ≡ total (λ (x : X). f (g x)) xs
  total-map f g [] = refl
  total-map f g (x ∷ xs) = ap (λ n. f (g x) + n) (total-map f g xs)

  pub total-flat_map : {Y : Type 0} (h : Y → ℕ) (f : X → List Y) (xs : List X) → total h (flat_map f xs) ≡ total (λ (x : X). total h (f x)) xs
  total-flat_map h f [] = refl
  total-flat_map h f (x ∷ xs) = total-append h (f x) (flat_map f xs) ∙ ap (λ n. total h (f x) + n) (total-flat_map h f xs)

  -- one more value, as at a step of a loop
  pub total_more : (f : X → ℕ) (xs : List X) (n : ℕ) (d : X) → n < length xs → total f (take (n + 1) xs) ≡ total f (take n xs) + f (get_or xs n d)
  total_more f xs n d h = rw add-one (go f xs n d h)
    where
      go : (f : X → ℕ) (xs : List X) (n : ℕ) (d : X) → n < length xs → total f (take (suc n) xs) ≡ total f (take n xs) + f (get_or xs n d)
      go f [] n d h = absurd (omega arith)
      go f (x ∷ xs) zero d h = let r : f x + 0 ≡ 0 + f x = omega arith in r
      go f (x ∷ xs) (suc n) d h = let k = go f xs n d (omega arith) in let r : f x + total f (take (suc n) xs) ≡ (f x + total f (take n xs)) + f (get_or xs n d) = omega arith in r

  pub total_take : (f : X → ℕ) (xs : List X) (n : ℕ) → total f (take n xs) ≤ total f xs
  total_take f xs zero = let r : 0 ≤ total f xs = omega arith in r
  total_take f [] (suc n) = let r : 0 ≤ 0 = omega arith in r
  total_take f (x ∷ xs) (suc n) = let h = total_take f xs n in let r : f x + total f (take n xs) ≤ f x + total f xs = omega arith in r

-- the list without the first of a number
abbrev without : ℕ → List ℕ → List ℕ
without n [] = []
without n (m ∷ ms) = cond (m == n) ms (m ∷ without n ms)

take_out : (g : ℕ → ℕ) (n : ℕ) (ms : List ℕ) → 0 < times n ms → total g ms ≡ g n + total g (without n ms)
take_out g n [] some = absurd (omega arith)
take_out g n (m ∷ ms) some = by_test (m == n) refl some (λ s. take_out g n ms s)
  where
    by_test : (b : Bool) → (m == n) ≡ b → 0 < one_if b + times n ms → (0 < times n ms → total g ms ≡ g n + total g (without n ms)) → g m + total g ms ≡ g n + total g (cond b ms (m ∷ without n ms))
    by_test true e s go = ap (λ k. g k + total g ms) (eqb-true m n e)
    by_test false e s go = let k = go (omega arith) in let r : g m + total g ms ≡ g n + (g m + total g (without n ms)) = omega arith in r

-- a list that has each number at most as often sums up to at most as much
pub total_within : (g : ℕ → ℕ) (xs ys : List ℕ) → ((n : ℕ) → times n xs ≤ times n ys) → total g xs ≤ total g ys
total_within g [] ys le = let r : 0 ≤ total g ys = omega arith in r
total_within g (a ∷ xs) ys le =
    let self : one_if (a == a) ≡ 1 = ap one_if (eq-eqb a a refl) in
    let here : one_if (a == a) + times a xs ≤ times a ys = le a in
    let some : 0 < times a ys = omega arith in
    let rest : (n : ℕ) → times n xs ≤ times n (without a ys) = λ n. (
    let out : times n ys ≡ one_if (a == n) + times n (without a ys) = take_out (λ m. one_if (m == n)) a ys some in
    let k : one_if (a == n) + times n xs ≤ times n ys = le n in
    omega arith
    ) in
    let go = total_within g xs (without a ys) rest in
    let out = take_out g a ys some in
    let r : g a + total g xs ≤ total g ys = omega arith in r

pub total_alike : (g : ℕ → ℕ) (xs ys : List ℕ) → ((n : ℕ) → times n xs ≡ times n ys) → total g xs ≡ total g ys
total_alike g xs ys same =
    let up = total_within g xs ys (λ n. (let e = same n in omega arith)) in
    let down = total_within g ys xs (λ n. (let e = same n in omega arith)) in
    omega arith

pub absent : (n : ℕ) (ms : List ℕ) → is_in n ms ≡ false → times n ms ≡ 0
absent n [] e = refl
absent n (m ∷ ms) e =
    let p = or_parts (m == n) (is_in n ms) e in
    let here : one_if (m == n) ≡ 0 = ap one_if p.0 in
    let k = absent n ms p.1 in
    let r : one_if (m == n) + times n ms ≡ 0 = omega arith in r

pub present : (n : ℕ) (ms : List ℕ) → is_in n ms ≡ true → 0 < times n ms
present n [] e = absurd (true≢false (sym e))
present n (m ∷ ms) e = by_test (m == n) e (λ k. present n ms k)
  where
    by_test : (b : Bool) → (b || is_in n ms) ≡ true → (is_in n ms ≡ true → 0 < times n ms) → 0 < one_if b + times n ms
    by_test true e go = let r : 0 < 1 + times n ms = omega arith in r
    by_test false e go = let k = go e in let r : 0 < 0 + times n ms = omega arith in r

-- where all are in a list, a number that isn't stands nowhere
pub none_there : (taken : List ℕ) (n : ℕ) (ms : List ℕ) → list_all (λ m. is_in m taken) ms ≡ true → is_in n taken ≡ false → times n ms ≡ 0
none_there taken n [] all out = refl
none_there taken n (m ∷ ms) all out =
    let p = and_parts (is_in m taken) (list_all (λ k. is_in k taken) ms) all in
    let ne : (m == n) ≡ false = ne_eqb m n (λ s. true≢false (sym p.0 ∙ (ap (λ k. is_in k taken) s ∙ out))) in
    let here : one_if (m == n) ≡ 0 = ap one_if ne in
    let k = none_there taken n ms p.1 out in
    let r : one_if (m == n) + times n ms ≡ 0 = omega arith in r
