-- Levels that are given the masses of others on the same boxes, one by one.
use Rattle.std.proofs.Common.{◌≡◌, ◌∙◌, ℕ, zero, suc, ◌+◌, ◌<◌, List, [], ◌∷◌, length, get_or, set, take, map, refl, sym, ap, arith}
use Rattle.std.proofs.lemmas.List.{length-map, length-set, take_more_same}
use Rattle.amr_patch.specs.declared.levels.Level.{Level}
use Rattle.amr_patch.specs.Levels.{level_of}
use Rattle.amr_checkpoint.specs.Exchanges.{shape_of}

-- an entry is replaced
set_same : {A B : Type 0} (f : A → B) (xs : List A) (k : ℕ) (q d : A) → k < length xs → f q ≡ f (get_or xs k d) → map f (set xs k q) ≡ map f xs
set_same f [] k q d inside is = refl
set_same f (x ∷ xs) zero q d inside is = λ i. is i ∷ map f xs
set_same f (x ∷ xs) (suc k) q d inside is = λ i. f x ∷ set_same f xs k q d (omega (arith, inside)) is i

set_front : {A B : Type 0} (f : A → B) (xs : List A) (k : ℕ) (q : A) → take k (map f (set xs k q)) ≡ take k (map f xs)
set_front f [] zero q = refl
set_front f [] (suc k) q = refl
set_front f (x ∷ xs) zero q = refl
set_front f (x ∷ xs) (suc k) q = λ i. f x ∷ set_front f xs k q i

set_here : {A B : Type 0} (f : A → B) (xs : List A) (k : ℕ) (q : A) (d : B) → k < length xs → get_or (map f (set xs k q)) k d ≡ f q
set_here f [] k q d inside = absurd (omega (arith, inside))
set_here f (x ∷ xs) zero q d inside = refl
set_here f (x ∷ xs) (suc k) q d inside = set_here f xs k q d (omega (arith, inside))

pub mapped_at : {A B : Type 0} (f : A → B) (xs : List A) (k : ℕ) (d : A) (e : B) → k < length xs → get_or (map f xs) k e ≡ f (get_or xs k d)
mapped_at f [] k d e inside = absurd (omega (arith, inside))
mapped_at f (x ∷ xs) zero d e inside = refl
mapped_at f (x ∷ xs) (suc k) d e inside = mapped_at f xs k d e (omega (arith, inside))

pub same_count : {A B : Type 0} (f : A → B) (xs ys : List A) → map f xs ≡ map f ys → length xs ≡ length ys
same_count f xs ys same = sym (length-map xs f) ∙ ap length same ∙ length-map ys f

-- entries at one place are alike
pub alike_at : {A B : Type 0} (f : A → B) (xs ys : List A) (k : ℕ) (x y : A) → map f xs ≡ map f ys → k < length xs → x ≡ get_or xs k x → y ≡ get_or ys k y → f x ≡ f y
alike_at f xs ys k x y same inside at_x at_y =
    ap f at_x ∙ sym (mapped_at f xs k x (f x) inside) ∙ ap (λ (zs : List _). get_or zs k (f x)) same ∙ mapped_at f ys k y (f x) (omega (arith, inside, same_count f xs ys same)) ∙ ap f (sym at_y)

-- one more level has the masses
pub level_given : (from : Level) (q : Level) → (level_of q).masses ≡ (level_of from).masses → (level_of q).boxes ≡ (level_of from).boxes → level_of q ≡ level_of from
level_given from q masses boxes = λ i. record { boxes = boxes i; masses = masses i }

pub shapes_stay : (to : List Level) (k : ℕ) (q d : Level) → k < length to → shape_of q ≡ shape_of (get_or to k d) → map shape_of (set to k q) ≡ map shape_of to
shapes_stay to k q d inside is = set_same shape_of to k q d inside is

pub one_more : (to from : List Level) (k : ℕ) (q p : Level) → k < length to → k < length from → p ≡ get_or from k p → level_of q ≡ level_of p → take k (map level_of to) ≡ take k (map level_of from)
    → take (k + 1) (map level_of (set to k q)) ≡ take (k + 1) (map level_of from)
one_more to from k q p inside there at_p is before =
    let count : length (map level_of (set to k q)) ≡ length (set to k q) = length-map (set to k q) level_of in
    let wide : length (map level_of from) ≡ length from = length-map from level_of in
    take_more_same (map level_of (set to k q)) (map level_of from) k (level_of p) (omega (arith, count, length-set to k q, inside)) (omega (arith, wide, there)) (set_front level_of to k q ∙ before)
    (set_here level_of to k q (level_of p) inside ∙ is ∙ ap level_of at_p ∙ sym (mapped_at level_of from k p (level_of p) there))
