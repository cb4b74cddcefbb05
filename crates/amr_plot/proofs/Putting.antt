-- Texts that are put one after another.
use Rattle.std.proofs.Common.{◌≡◌, ℕ, zero, suc, ◌+◌, ◌-◌, ◌<◌, ◌≤◌, ◌⊎◌, inl, inr, List, [], ◌∷◌, ◌++◌, length, get_or, refl, sym, ap, subst, ◌∙◌, append_assoc, arith, add-one}
use Rattle.std.proofs.lemmas.List.{append-nil}
use Rattle.std.proofs.lemmas.Bool.{cases_lt}
use Rattle.amr_causes.specs.Bytes.{IsPrefix}
use Rattle.amr_causes.proofs.ByteLaws.{prefix_whole, prefix_longer}
use Rattle.amr_def.specs.Plot.{numbered}
use Rattle.std.specs.List.{flat_map, range_with_len}
use Rattle.std.proofs.lemmas.List.Concat.{flat_map-cons}
use Rattle.amr_plot.specs.Texts.{texts}

-- ---- texts in turn

pub texts_prefix : (f : ℕ → List ℕ) (i n : ℕ) → i < n → IsPrefix (texts f i ++ f i) (texts f n)
texts_prefix f i zero h = absurd (omega arith)
texts_prefix f i (suc n) h = at (λ below. texts_prefix f i n below) (cases_lt i n)
  where
    at : (i < n → IsPrefix (texts f i ++ f i) (texts f n)) → (i < n) ⊎ (n ≤ i) → IsPrefix (texts f i ++ f i) (texts f n ++ f n)
    at before (inl below) = prefix_longer (texts f i ++ f i) (texts f n) (f n) (before below)
    at before (inr here) = let same : i ≡ n = omega arith in subst (λ k. IsPrefix (texts f i ++ f i) (texts f k ++ f k)) same (prefix_whole (texts f i ++ f i))

pub texts_next : (f : ℕ → List ℕ) (n : ℕ) → texts f (n + 1) ≡ texts f n ++ f n
texts_next f n = ap (texts f) (add-one n)

pub texts_front : (f : ℕ → List ℕ) (n : ℕ) → texts f (suc n) ≡ f 0 ++ texts (λ i. f (suc i)) n
texts_front f zero = sym (append-nil (f 0))
texts_front f (suc n) = ap (λ (l : List ℕ). l ++ f (suc n)) (texts_front f n) ∙ append_assoc (f 0) (texts (λ i. f (suc i)) n) (f (suc n))

pub texts_same : (f g : ℕ → List ℕ) (n : ℕ) → ((i : ℕ) → i < n → f i ≡ g i) → texts f n ≡ texts g n
texts_same f g zero h = refl
texts_same f g (suc n) h = λ t. texts_same f g n (λ i below. h i (omega arith)) t ++ h n (omega arith) t

pub numbered_texts : {A : Type 0} (text : ℕ → A → List ℕ) (k : ℕ) (d : A) (xs : List A) → numbered text k xs ≡ texts (λ i. text (k + i) (get_or xs i d)) (length xs)
numbered_texts text k d [] = refl
numbered_texts {A} text k d (x ∷ xs) =
    let here : k ≡ k + 0 = omega arith in
    (λ i. text (here i) x ++ numbered_texts text (k + 1) d xs i)
    ∙ ap (λ (l : List ℕ). text (k + 0) x ++ l) (texts_same _ _ (length xs) (λ i below. let e : k + 1 + i ≡ k + suc i = omega arith in ap (λ n. text n (get_or xs i d)) e))
    ∙ sym (texts_front (λ i. text (k + i) (get_or (x ∷ xs) i d)) (length xs))

pub numbered_from_zero : {A : Type 0} (text : ℕ → A → List ℕ) (d : A) (xs : List A) → numbered text 0 xs ≡ texts (λ i. text i (get_or xs i d)) (length xs)
numbered_from_zero text d xs = numbered_texts text 0 d xs ∙ texts_same _ _ (length xs) (λ i below. let e : 0 + i ≡ i = omega arith in ap (λ n. text n (get_or xs i d)) e)

-- the next text of a whole goes after those before it
pub texts_within : (f : ℕ → List ℕ) (i n : ℕ) (whole : List ℕ) → i < n → whole ≡ texts f n → IsPrefix (texts f i ++ f i) whole
texts_within f i n whole h e = subst (λ (l : List ℕ). IsPrefix (texts f i ++ f i) l) (sym e) (texts_prefix f i n h)

-- the first of some texts, and the rest
pub texts_more : (f : ℕ → List ℕ) (a n : ℕ) → texts f (a + n) ≡ texts f a ++ texts (λ i. f (a + i)) n
texts_more f a zero = let e : a + 0 ≡ a = omega arith in ap (texts f) e ∙ sym (append-nil (texts f a))
texts_more f a (suc n) =
    let e : a + suc n ≡ suc (a + n) = omega arith in
    ap (texts f) e ∙ ap (λ (l : List ℕ). l ++ f (a + n)) (texts_more f a n) ∙ append_assoc (texts f a) (texts (λ i. f (a + i)) n) (f (a + n))

pub texts_before : (f : ℕ → List ℕ) (a n : ℕ) → a ≤ n → IsPrefix (texts f a) (texts f n)
texts_before f a n h =
    let e : n ≡ a + (n - a) = omega (arith, h) in
    record { rest = texts (λ i. f (a + i)) (n - a); split = sym (ap (texts f) e ∙ texts_more f a (n - a)) }

pub range_texts : (f : ℕ → List ℕ) (a n : ℕ) → flat_map f (range_with_len a n) ≡ texts (λ i. f (a + i)) n
range_texts f a zero = refl
range_texts f a (suc n) =
    let here : a ≡ a + 0 = omega arith in
    flat_map-cons f a (range_with_len (a + 1) n)
    ∙ (λ i. f (here i) ++ range_texts f (a + 1) n i)
    ∙ ap (λ (l : List ℕ). f (a + 0) ++ l) (texts_same _ _ n (λ i below. let e : a + 1 + i ≡ a + suc i = omega arith in ap f e))
    ∙ sym (texts_front (λ i. f (a + i)) n)

-- a range from 0
pub texts_of_range : (f : ℕ → List ℕ) (n : ℕ) → flat_map f (range_with_len 0 n) ≡ texts f n
texts_of_range f n = range_texts f 0 n ∙ texts_same _ _ n (λ i below. let e : 0 + i ≡ i = omega arith in ap f e)

-- the texts of a list's entries
pub texts_of_list : {A : Type 0} (f : A → List ℕ) (d : A) (xs : List A) → flat_map f xs ≡ texts (λ i. f (get_or xs i d)) (length xs)
texts_of_list f d [] = refl
texts_of_list {A} f d (x ∷ xs) =
    flat_map-cons f x xs
    ∙ ap (λ (l : List ℕ). f x ++ l) (texts_of_list f d xs)
    ∙ sym (texts_front (λ i. f (get_or (x ∷ xs) i d)) (length xs))
