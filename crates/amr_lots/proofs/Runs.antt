-- Runs of a list: so many of its items one after another, and then the next.
use Rattle.std.proofs.Common.{◌≡◌, ◌∙◌, ℕ, zero, suc, ◌+◌, ◌*◌, ◌<◌, ◌≤◌, List, [], ◌∷◌, ◌++◌, length, get_or, map, take, drop, refl, sym, ap, arith}
use Rattle.std.specs.Prelude.{min}
use Rattle.std.proofs.Math.Seq.{drop-append_seam, drop-nil, take-append_seam}
use Rattle.std.proofs.lemmas.List.{drop-map, drop_all, get_or-drop, get_or-take, length-append, length-drop, length-take, take-append-drop, take-map, take_all}
use Rattle.amr_lots.specs.Runs.{run}

plus_zero : {A : Type 0} (n : ℕ) (xs : List A) → drop (0 + n) xs ≡ drop n xs
plus_zero n xs = let e : 0 + n ≡ n = omega arith in ap (λ k. drop k xs) e

pub drop_plus : {A : Type 0} (m n : ℕ) (xs : List A) → drop (m + n) xs ≡ drop n (drop m xs)
drop_plus zero n xs = plus_zero n xs
drop_plus (suc m) n [] = drop-nil (suc m + n) ∙ sym (drop-nil n)
drop_plus (suc m) n (x ∷ xs) = ap (λ k. drop k (x ∷ xs)) (more m n) ∙ drop_plus m n xs
  where
    more : (m n : ℕ) → suc m + n ≡ suc (m + n)
    more m n = omega arith

module _ {A : Type 0} (size : ℕ) (xs : List A) where
  pub run_length : (k : ℕ) → length (run size k xs) ≤ size
  run_length k = omega (arith, length-take size (drop (k * size) xs))

  pub run_place : (k i : ℕ) → i < length (run size k xs) → k * size + i < length xs
  run_place k i lt = omega (arith, lt, length-take size (drop (k * size) xs), length-drop (k * size) xs)

  pub run_has : (k i : ℕ) → i < size → k * size + i < length xs → i < length (run size k xs)
  run_has k i below lt = omega (arith, below, lt, length-take size (drop (k * size) xs), length-drop (k * size) xs)

  pub run_at : (k i : ℕ) (d : A) → i < length (run size k xs) → get_or (run size k xs) i d ≡ get_or xs (k * size + i) d
  run_at k i d lt = get_or-take size (drop (k * size) xs) i d (omega (arith, lt, run_length k)) ∙ get_or-drop (k * size) xs i d

  -- the first run, and those of the rest
  pub run_first : run size 0 xs ≡ take size xs
  run_first = let e : 0 * size ≡ 0 = omega arith in ap (λ n. take size (drop n xs)) e

  pub run_next : (k : ℕ) → run size (suc k) xs ≡ run size k (drop size xs)
  run_next k = let e : suc k * size ≡ size + k * size = omega arith in ap (λ n. take size (drop n xs)) e ∙ ap (take size) (drop_plus size (k * size) xs)

-- a function over a run
pub map_run : {A B : Type 0} (f : A → B) (size k : ℕ) (xs : List A) → map f (run size k xs) ≡ run size k (map f xs)
map_run f size k xs = sym (ap (take size) (drop-map f (k * size) xs) ∙ take-map f size (drop (k * size) xs))

-- cut at the end of the first run
pub take_first : {A : Type 0} (size n : ℕ) (xs : List A) → n ≡ min size (length xs) → take n xs ≡ take size xs
take_first size n xs is = by_length (length-take size xs)
  where
    by_length : length (take size xs) ≡ min size (length xs) → take n xs ≡ take size xs
    by_length e = ap (λ k. take k xs) (is ∙ sym e) ∙ whole (take size xs) (drop size xs) (take-append-drop size xs)
      where
        whole : (ys zs : List _) → ys ++ zs ≡ xs → take (length ys) xs ≡ ys
        whole ys zs e = ap (take (length ys)) (sym e) ∙ take-append_seam ys zs

pub drop_first : {A : Type 0} (size n : ℕ) (xs : List A) → n ≡ min size (length xs) → drop n xs ≡ drop size xs
drop_first size n xs is = ap (λ k. drop k xs) (is ∙ sym (length-take size xs)) ∙ whole (take size xs) (drop size xs) (take-append-drop size xs)
  where
    whole : (ys zs : List _) → ys ++ zs ≡ xs → drop (length ys) xs ≡ zs
    whole ys zs e = ap (drop (length ys)) (sym e) ∙ drop-append_seam ys zs

-- a run put before a rest that is there only where the run is whole
end_of_all : {A : Type 0} (xs : List A) → xs ++ [] ≡ xs
end_of_all [] = refl
end_of_all (x ∷ xs) = ap (λ ys. x ∷ ys) (end_of_all xs)

pub take_joined : {A : Type 0} (size : ℕ) (ys zs : List A) → length ys ≡ min size (length ys + length zs) → take size (ys ++ zs) ≡ ys
take_joined size ys [] e = take_all size (ys ++ []) (omega (arith, e, length-append ys [])) ∙ end_of_all ys
take_joined size ys (z ∷ zs) e = ap (λ k. take k (ys ++ z ∷ zs)) (whole (length zs) e) ∙ take-append_seam ys (z ∷ zs)
  where
    whole : (n : ℕ) → length ys ≡ min size (length ys + suc n) → size ≡ length ys
    whole n e = omega (arith, e)

pub drop_joined : {A : Type 0} (size : ℕ) (ys zs : List A) → length ys ≡ min size (length ys + length zs) → drop size (ys ++ zs) ≡ zs
drop_joined size ys [] e = drop_all size (ys ++ []) (omega (arith, e, length-append ys []))
drop_joined size ys (z ∷ zs) e = ap (λ k. drop k (ys ++ z ∷ zs)) (whole (length zs) e) ∙ drop-append_seam ys (z ∷ zs)
  where
    whole : (n : ℕ) → length ys ≡ min size (length ys + suc n) → size ≡ length ys
    whole n e = omega (arith, e)
