-- Lists joined, one for each item: how many stand before those of an item, and where those of an item stand.
use Rattle.std.proofs.Common.{◌≡◌, ◌∙◌, ℕ, zero, suc, ◌+◌, ◌<◌, ◌≤◌, List, [], ◌∷◌, ◌++◌, length, get_or, take, ap, arith, add-one}
use Rattle.std.specs.List.{All, Contains, flat_map}
use Rattle.std.proofs.lemmas.List.Elements.{All-append}
use Rattle.std.proofs.lemmas.List.{get_or-append-add, get_or_append_left, length-append, take_all}

module _ {X Y : Type 0} (f : X → List Y) where
  abbrev pub before : List X → ℕ → ℕ
  before ts k = length (flat_map f (take k ts))

  pub flat_more : (ts : List X) (k : ℕ) (t : X) → k < length ts → length (flat_map f (take (k + 1) ts)) ≡ length (flat_map f (take k ts)) + length (f (get_or ts k t))
  flat_more ts k t lt = rw add-one (go ts k lt)
    where
      go : (ts : List X) (k : ℕ) → k < length ts → length (flat_map f (take (suc k) ts)) ≡ length (flat_map f (take k ts)) + length (f (get_or ts k t))
      go [] k lt = absurd (omega (arith, lt))
      go (x ∷ ts) zero lt = let e : length (f x ++ []) ≡ 0 + length (f x) = omega (arith, length-append (f x) []) in e
      go (x ∷ ts) (suc k) lt =
          let rest = go ts k (omega (arith, lt)) in
          let e : length (f x ++ flat_map f (take (suc k) ts)) ≡ length (f x ++ flat_map f (take k ts)) + length (f (get_or ts k t)) =
          omega (arith, rest, length-append (f x) (flat_map f (take (suc k) ts)), length-append (f x) (flat_map f (take k ts))) in
          e

  pub flat_most : (ts : List X) (k : ℕ) → length (flat_map f (take k ts)) ≤ length (flat_map f ts)
  flat_most ts zero = let e : 0 ≤ length (flat_map f ts) = omega arith in e
  flat_most [] (suc k) = let e : 0 ≤ 0 = omega arith in e
  flat_most (x ∷ ts) (suc k) =
      let rest = flat_most ts k in
      let e : length (f x ++ flat_map f (take k ts)) ≤ length (f x ++ flat_map f ts) = omega (arith, rest, length-append (f x) (flat_map f (take k ts)), length-append (f x) (flat_map f ts)) in
      e

  pub flat_whole : (ts : List X) (k : ℕ) → length ts ≤ k → flat_map f (take k ts) ≡ flat_map f ts
  flat_whole ts k le = ap (flat_map f) (take_all k ts le)

  pub flat_within : (ts : List X) (k : ℕ) (t : X) → k < length ts → length (flat_map f (take k ts)) + length (f (get_or ts k t)) ≤ length (flat_map f ts)
  flat_within ts k t lt = omega (arith, flat_more ts k t lt, flat_most ts (k + 1))

  -- what stands there
  pub flat_at : (ts : List X) (k j : ℕ) (t : X) (y : Y) → k < length ts → j < length (f (get_or ts k t)) → get_or (flat_map f ts) (length (flat_map f (take k ts)) + j) y ≡ get_or (f (get_or ts k t)) j y
  flat_at [] k j t y lt below = absurd (omega (arith, lt))
  flat_at (x ∷ ts) zero j t y lt below = let e : 0 + j ≡ j = omega arith in ap (λ i. get_or (f x ++ flat_map f ts) i y) e ∙ get_or_append_left (f x) (flat_map f ts) y j below
  flat_at (x ∷ ts) (suc k) j t y lt below =
      let e : length (f x ++ flat_map f (take k ts)) + j ≡ length (f x) + (length (flat_map f (take k ts)) + j) = omega (arith, length-append (f x) (flat_map f (take k ts))) in
      ap (λ i. get_or (f x ++ flat_map f ts) i y) e ∙ get_or-append-add (f x) (flat_map f ts) (length (flat_map f (take k ts)) + j) y ∙ flat_at ts k j t y (omega (arith, lt)) below

  -- a fact of each item of each list is one of each item of the joined list
  pub flat_all : (P : Y → Type 0) (ts : List X) → ((k : ℕ) (t : X) → k < length ts → All P (f (get_or ts k t))) → All P (flat_map f ts)
  flat_all P [] h = λ k y lt. absurd (omega (arith, lt))
  flat_all P (x ∷ ts) h = All-append P (f x) (flat_map f ts) (h 0 x (omega arith)) (flat_all P ts (λ k t lt. h (suc k) t (omega (arith, lt))))

  pub flat_contains : (ts : List X) (k : ℕ) (t : X) (y : Y) → k < length ts → Contains (f (get_or ts k t)) y → Contains (flat_map f ts) y
  flat_contains ts k t y lt has = (length (flat_map f (take k ts)) + has.0, omega (arith, has.1, flat_within ts k t lt), flat_at ts k has.0 t y lt has.1 ∙ has.2)
