-- Loops that look for an element which passes a test, over a list that is another; and those that copy a list.
use Rattle.std.proofs.Common.{◌≡◌, ℕ, ◌+◌, ◌<◌, ◌≤◌, Bool, true, false, ◌&&◌, ◌||◌, refl, sym, ap, ◌∙◌, List, [], ◌∷◌, ◌++◌, length, take, get_or}
use Rattle.std.specs.List.{list_any}
use Rattle.std.proofs.lemmas.List.{take_all, take_more}
use Rattle.std.proofs.lemmas.List.Folds.{list_any_at, list_any_more}

pub found : {X : Type 0} (g : X → Bool) (xs ys : List X) (i : ℕ) (d : X) → xs ≡ ys → i < length xs → g (get_or xs i d) ≡ true → true ≡ list_any g ys
found g xs ys i d is inside passes = sym (list_any_at g xs i d inside passes) ∙ ap (list_any g) is

pub none_more : {X : Type 0} (g : X → Bool) (xs : List X) (i : ℕ) (d : X) → i < length xs → list_any g (take i xs) ≡ false → g (get_or xs i d) ≡ false → list_any g (take (i + 1) xs) ≡ false
none_more g xs i d inside before fails = list_any_more g xs i d inside ∙ (λ k. before k || fails k)

pub none_at_all : {X : Type 0} (g : X → Bool) (xs ys : List X) (i : ℕ) → xs ≡ ys → length xs ≤ i → list_any g (take i xs) ≡ false → false ≡ list_any g ys
none_at_all g xs ys i is all none = sym none ∙ ap (list_any g) (take_all i xs all ∙ is)

pub four_of : (a b c d : Bool) → ((a || b) || (c || d)) ≡ (a || (b || (c || (d || false))))
four_of true b c d = refl
four_of false true c d = refl
four_of false false true d = refl
four_of false false false true = refl
four_of false false false false = refl

pub fails : (s t : Bool) → s ≡ false → false ≡ (s && t)
fails s t e = sym (ap (λ (b : Bool). b && t) e)

pub passes : (s t : Bool) → s ≡ true → t ≡ (s && t)
passes s t e = sym (ap (λ (b : Bool). b && t) e)

pub taken_more : {X : Type 0} (xs ys : List X) (k : ℕ) (x d : X) → ys ≡ take k xs → k < length xs → x ≡ get_or xs k d → ys ++ x ∷ [] ≡ take (k + 1) xs
taken_more xs ys k x d so_far inside is = (λ t. so_far t ++ is t ∷ []) ∙ sym (take_more xs k d inside)
