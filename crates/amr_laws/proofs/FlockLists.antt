-- Lists made by number, and sound states on the same boxes.
use Rattle.std.proofs.Common.{◌≡◌, ℕ, zero, suc, ◌+◌, ◌<◌, refl, sym, ap, subst, ◌∙◌, arith, List, [], ◌∷◌, length, map}
use Rattle.std.specs.Prelude.{slice_index_or}
use Rattle.std.specs.List.{All}
use Rattle.std.proofs.lemmas.List.Elements.{All-cons, All-head, All-nil, All-tail}
use Rattle.amr_def.specs.declared.problem.Problem.{Problem}
use Rattle.amr_def.specs.State.{State}
use Rattle.amr_def.specs.Facts.{IsSound}
use Rattle.amr_def.specs.Species.{AreAlike, boxes_in, each_from, first_state, no_state, step_of}

-- ---- each by its number

pub length-each_from : {A B : Type 0} (f : ℕ → A → B) (k : ℕ) (xs : List A) → length (each_from f k xs) ≡ length xs
length-each_from f k [] = refl
length-each_from f k (x ∷ xs) = ap suc (length-each_from f (k + 1) xs)

pub get-each_from : {A B : Type 0} (f : ℕ → A → B) (k : ℕ) (xs : List A) (i : ℕ) (d : B) (e : A) → i < length xs
    → slice_index_or (each_from f k xs) i d ≡ f (k + i) (slice_index_or xs i e)
get-each_from f k [] i d e h = absurd (omega arith)
get-each_from f k (x ∷ xs) zero d e h = let here : k ≡ k + 0 = omega arith in ap (λ n. f n x) here
get-each_from f k (x ∷ xs) (suc i) d e h =
    let here : k + 1 + i ≡ k + suc i = omega arith in
    get-each_from f (k + 1) xs i d e (omega arith) ∙ ap (λ n. f n (slice_index_or xs i e)) here

pub All-each_from : {A B : Type 0} (P : A → Type 0) (Q : B → Type 0) (f : ℕ → A → B) → ((k : ℕ) (x : A) → P x → Q (f k x)) → (k : ℕ) (xs : List A)
    → All P xs → All Q (each_from f k xs)
All-each_from P Q f gives k [] h = All-nil Q
All-each_from P Q f gives k (x ∷ xs) h =
    All-cons Q (f k x) (each_from f (k + 1) xs) (gives k x (All-head P x xs h)) (All-each_from P Q f gives (k + 1) xs (All-tail P x xs h))

pub each_from-map : {A B : Type 0} (f : A → B) (k : ℕ) (xs : List A) → each_from (λ i. f) k xs ≡ map f xs
each_from-map f k [] = refl
each_from-map f k (x ∷ xs) = ap (λ (ys : List _). f x ∷ ys) (each_from-map f (k + 1) xs)

pub each_from-itself : {A : Type 0} (k : ℕ) (xs : List A) → each_from (λ i x. x) k xs ≡ xs
each_from-itself k [] = refl
each_from-itself k (x ∷ xs) = ap (λ (ys : List _). x ∷ ys) (each_from-itself (k + 1) xs)

pub each_from-twice : {A B C : Type 0} (g : ℕ → B → C) (f : ℕ → A → B) (k : ℕ) (xs : List A)
    → each_from g k (each_from f k xs) ≡ each_from (λ i x. g i (f i x)) k xs
each_from-twice g f k [] = refl
each_from-twice g f k (x ∷ xs) = ap (λ (ys : List _). g k (f k x) ∷ ys) (each_from-twice g f (k + 1) xs)

-- ---- sound states on the same boxes

-- a sound state at the step of s, on its boxes
pub record IsLike (p : Problem) (s x : State) : Type 0 where
  pub sound : IsSound p x
  pub step : x.step ≡ s.step
  pub boxes : boxes_in x ≡ boxes_in s

pub all_like : (p : Problem) (ss : List State) → AreAlike p ss → All (IsLike p (first_state ss)) ss
all_like p ss a = λ k d h. record { sound = a.sound k d h; step = a.same_step k d h; boxes = a.same_boxes k d h }

pub alike : (p : Problem) (ss : List State) → All (IsLike p (first_state ss)) ss → AreAlike p ss
alike p ss a = record { sound = λ k d h. (a k d h).sound; same_step = λ k d h. (a k d h).step; same_boxes = λ k d h. (a k d h).boxes }

-- what makes like states of like ones
pub alike_each : (p : Problem) (f : ℕ → State → State) (ss : List State)
    → ((k : ℕ) (x : State) → IsSound p (first_state ss) → IsLike p (first_state ss) x → IsLike p (f 0 (first_state ss)) (f k x)) → AreAlike p ss
    → AreAlike p (each_from f 0 ss)
alike_each p f [] keeps a = alike p [] (All-nil (IsLike p no_state))
alike_each p f (s ∷ ss) keeps a =
    let first : IsSound p s = a.sound 0 no_state (omega arith) in
    alike p (f 0 s ∷ each_from f 1 ss) (All-each_from (IsLike p s) (IsLike p (f 0 s)) f (λ k x. keeps k x first) 0 (s ∷ ss) (all_like p (s ∷ ss) a))

pub step-map : (f : State → State) → ((s : State) → (f s).step ≡ s.step) → (ss : List State) → step_of (map f ss) ≡ step_of ss
step-map f keeps [] = refl
step-map f keeps (s ∷ ss) = keeps s
