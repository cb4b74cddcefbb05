-- Items handed to their owners, served there and taken back: each item is served.
use Rattle.std.proofs.Common.{◌≡◌, ◌∙◌, ℕ, ◌<◌, List, [], length, get_or, map, sym, ap, subst, arith}
use Rattle.std.proofs.lemmas.List.{get_or-map, get_or_default, length-map}
use Rattle.std.proofs.lemmas.List.Elements.{AllZip-get_or}
use Rattle.std.specs.Prelude.{Contains, IsTrue}
use Rattle.std.specs.List.{AllZip}
use Rattle.amr_register.proofs.EdgeLists.{zip_from}
use Rattle.amr_owners.specs.Laws.{AreServed}
use Rattle.amr_owners.specs.Owners.{AreOwners, HaveExchanged, owned}
use Rattle.amr_owners.proofs.Order.{each_owned}

-- what holds of the items with these numbers holds of one of them
owned_zip : {X : Type 0} (R : X → X → Type 0) (x : X) (xs ys : List X) (ns : List ℕ) (n : ℕ) → Contains ns n → AllZip R (owned x xs ns) (owned x ys ns) → R (get_or xs n x) (get_or ys n x)
owned_zip R x xs ys ns n at h =
    let f = λ (m : ℕ). get_or xs m x in
    let g = λ (m : ℕ). get_or ys m x in
    let k = at.0 in
    let here : R (get_or (map f ns) k x) (get_or (map g ns) k x) = AllZip-get_or R (map f ns) (map g ns) k x x h (omega (arith, at.1, length-map ns f)) in
    subst (λ y. R y (g n)) (get_or-map f ns k n x at.1 ∙ ap f at.2) (subst (R (get_or (map f ns) k x)) (get_or-map g ns k n x at.1 ∙ ap g at.2) here)

pub all_back : {X : Type 0} (R : X → X → Type 0) (numbers : List (List ℕ)) (xs left ys : List X) (lists out served back : List (List X))
    → AreOwners numbers (length lists) (length xs) → length served ≡ length lists
    → HaveExchanged numbers xs lists left out → ((r : ℕ) → r < length lists → AllZip R (get_or out r []) (get_or served r [])) → HaveExchanged numbers left served ys back
    → AllZip R xs ys
all_back R numbers xs left ys lists out served back owners many first each second =
    let long : length ys ≡ length xs = second.item_count ∙ first.item_count in
    zip_from R xs ys long (λ n x y lt.
    let r = owners.rank_of n in
    let ns = get_or numbers r [] in
    let there : r < length lists = owners.ranked n lt in
    let of_rank : AllZip R (owned x xs ns) (owned x ys ns) =
    subst (λ l. AllZip R l (owned x ys ns)) (first.handed r x there)
    (subst (AllZip R (get_or out r [])) (sym (second.back r x (omega (arith, there, many)))) (each r there)) in
    subst (R (get_or xs n x)) (get_or_default ys n x y (omega (arith, lt, long)))
    (owned_zip R x xs ys ns n (each_owned numbers (length lists) (length xs) owners n lt) of_rank))

pub are_served : AreServed
are_served numbers ps left new_ps lists out served back is_served owners many first each second =
    all_back (λ a b. IsTrue (is_served a b)) numbers ps left new_ps lists out served back owners many first each second
