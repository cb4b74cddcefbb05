-- What the ranks have adds up to what all have.
use Rattle.std.proofs.Common.{◌≡◌, ◌∙◌, ℕ, zero, suc, ◌+◌, ◌<◌, List, [], ◌∷◌, length, get_or, map, take, sum, refl, sym, ap, arith}
use Rattle.std.proofs.lemmas.List.{get_or-map, length-map, take_all}
use Rattle.std.proofs.lemmas.List.Sums.{sum_by-cons}
use Rattle.std.proofs.lemmas.List.Elements.{All-tail}
use Rattle.std.specs.List.{All}
use Rattle.amr_balance.specs.Shares.{load, load_of}
use Rattle.amr_balance.proofs.Loads.{sum_to, loads_together}
use Rattle.amr_phase.specs.Plans.{total}
use Rattle.amr_owners.specs.Owners.{AreOwners, owned}
use Rattle.amr_owners.specs.Laws.{AreTogether}
use Rattle.amr_owners.proofs.Members.{within_all}

sum_is_total : {X : Type 0} (f : X → ℕ) (xs : List X) → sum (map f xs) ≡ total f xs
sum_is_total f [] = refl
sum_is_total f (x ∷ xs) = sum_by-cons (λ n. n) (f x) (map f xs) ∙ ap (λ n. f x + n) (sum_is_total f xs)

-- the first apart from the rest
first_apart : (f : ℕ → ℕ) (n : ℕ) → sum_to f (suc n) ≡ f 0 + sum_to (λ k. f (suc k)) n
first_apart f zero = omega arith
first_apart f (suc n) = omega (arith, first_apart f n)

total_by_places : {X : Type 0} (f : X → ℕ) (d : X) (xs : List X) → total f xs ≡ sum_to (λ k. f (get_or xs k d)) (length xs)
total_by_places f d [] = refl
total_by_places f d (x ∷ xs) = ap (λ n. f x + n) (total_by_places f d xs) ∙ sym (first_apart (λ k. f (get_or (x ∷ xs) k d)) (length xs))

same_below : (f g : ℕ → ℕ) (n : ℕ) → ((k : ℕ) → k < n → f k ≡ g k) → sum_to f n ≡ sum_to g n
same_below f g zero h = refl
same_below f g (suc n) h = omega (arith, same_below f g n (λ k lt. h k (omega arith)), h n (omega arith))

-- the items with these numbers add up as their places do
of_places : {X : Type 0} (f : X → ℕ) (x : X) (xs : List X) (ns : List ℕ) → All (λ n. n < length xs) ns → total f (owned x xs ns) ≡ load_of (map f xs) ns
of_places f x xs [] below = refl
of_places f x xs (n ∷ ns) below =
    let here : get_or (map f xs) n 0 ≡ f (get_or xs n x) = get_or-map f xs n x 0 (below 0 n (omega arith)) in
    let more : load_of (map f xs) (n ∷ ns) ≡ get_or (map f xs) n 0 + load_of (map f xs) ns = sum_by-cons (λ m. m) (get_or (map f xs) n 0) (map (λ k. get_or (map f xs) k 0) ns) in
    ap (λ m. f (get_or xs n x) + m) (of_places f x xs ns (All-tail (λ m. m < length xs) n ns below)) ∙ ap (λ m. m + load_of (map f xs) ns) (sym here) ∙ sym more

pub all_together : {X : Type 0} (numbers : List (List ℕ)) (ranks : ℕ) (xs : List X) (x : X) (f : X → ℕ) → AreOwners numbers ranks (length xs)
    → total (λ ns. total f (owned x xs ns)) numbers ≡ total f xs
all_together numbers ranks xs x f h =
    let areas = map f xs in
    let count = length xs in
    let of_rank : (r : ℕ) → r < length numbers → total f (owned x xs (get_or numbers r [])) ≡ load areas h.rank_of count r =
    λ r lt. of_places f x xs (get_or numbers r []) (within_all numbers ranks count h r (omega (arith, lt, h.lists))) ∙ ap (load_of areas) (h.owned_by r (omega (arith, lt, h.lists))) in
    let loads : sum_to (load areas h.rank_of count) ranks ≡ sum (take count areas) = loads_together areas ranks count h.rank_of h.ranked (omega (arith, length-map xs f)) in
    total_by_places (λ ns. total f (owned x xs ns)) [] numbers
    ∙ same_below (λ r. total f (owned x xs (get_or numbers r []))) (load areas h.rank_of count) (length numbers) of_rank
    ∙ ap (sum_to (load areas h.rank_of count)) h.lists ∙ loads ∙ ap sum (take_all count areas (omega (arith, length-map xs f))) ∙ sum_is_total f xs

pub together : AreTogether
together numbers ranks ps p f h = all_together numbers ranks ps p f h
