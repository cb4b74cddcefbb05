-- The numbers of a rank rise, and each number is in the list of its rank.
use Rattle.std.proofs.Common.{◌≡◌, ℕ, zero, suc, ◌<◌, ◌==◌, cond, List, [], ◌∷◌, ◌++◌, length, get_or, map, refl, sym, subst, inl, inr, arith, below_more, append-nil, eq-eqb}
use Rattle.std.proofs.lemmas.Bool.Decides.{eqb_tells}
use Rattle.std.proofs.lemmas.List.{get_or_append_left, get_or_push, get_or-map, length-map, length_push}
use Rattle.std.proofs.lemmas.List.Elements.{All-weaker, All-get_or, Contains-append_left, Contains-push}
use Rattle.std.specs.Prelude.{Contains}
use Rattle.std.specs.List.{All, AllPairs}
use Rattle.std.specs.Prelude.{IsTrue}
use Rattle.amr_box.specs.declared.Cell.{Cell}
use Rattle.amr_patch.specs.declared.patches.Patch.{Patch}
use Rattle.amr_balance.specs.Shares.{Owner, tasks_of}
use Rattle.amr_patch.specs.Patches.{box}
use Rattle.amr_box.specs.Cells.{holds}
use Rattle.amr_owners.specs.Owners.{Rises, owned}
use Rattle.amr_owners.specs.Laws.{AreApart, AreEachOwned, AreInOrder}
use Rattle.amr_owners.proofs.Members.{IsTaskOf, all_tasks, within_all}

rises_push : (ns : List ℕ) (n : ℕ) → Rises ns → All (λ m. m < n) ns → Rises (ns ++ n ∷ [])
rises_push ns n h below j k jk lt =
    below_more (λ i. j < i → get_or (ns ++ n ∷ []) j 0 < get_or (ns ++ n ∷ []) i 0) (length ns)
    (λ i there ji. omega (arith, get_or_append_left ns (n ∷ []) 0 j (omega arith), get_or_append_left ns (n ∷ []) 0 i there, h j i ji there))
    (λ jl. omega (arith, get_or_append_left ns (n ∷ []) 0 j jl, get_or_push ns n 0 (length ns) refl, All-get_or (λ m. m < n) ns j 0 jl below))
    k (omega (arith, lt, length_push ns n)) jk

rises_tasks : (owner : Owner) (w n : ℕ) → Rises (tasks_of owner w n)
rises_tasks owner w zero = λ j k jk lt. absurd (omega arith)
rises_tasks owner w (suc n) =
    let before : Rises (tasks_of owner w n) = rises_tasks owner w n in
    elim (eqb_tells (owner n) w) [
      | inl here ↦ subst (λ b. Rises (tasks_of owner w n ++ cond b (n ∷ []) [])) (sym here.0)
          (rises_push (tasks_of owner w n) n before (All-weaker (IsTaskOf owner w n) (λ m. m < n) (λ m is. is.0) (tasks_of owner w n) (all_tasks owner w n)))
      | inr other ↦ subst (λ b. Rises (tasks_of owner w n ++ cond b (n ∷ []) [])) (sym other.0) (subst Rises (sym (append-nil (tasks_of owner w n))) before)
    ]

has_task : (owner : Owner) (w n m : ℕ) → m < n → owner m ≡ w → Contains (tasks_of owner w n) m
has_task owner w zero m lt is = absurd (omega arith)
has_task owner w (suc n) m lt is =
    below_more (λ i. owner i ≡ w → Contains (tasks_of owner w (suc n)) i) n
    (λ i there e. Contains-append_left (tasks_of owner w n) (cond (owner n == w) (n ∷ []) []) i (has_task owner w n i there e))
    (λ e. subst (λ b. Contains (tasks_of owner w n ++ cond b (n ∷ []) []) n) (sym (eq-eqb (owner n) w e)) (Contains-push (tasks_of owner w n) n))
    m (omega arith) is

pub in_order : AreInOrder
in_order numbers ranks count h r below = subst Rises (sym (h.owned_by r below)) (rises_tasks h.rank_of r count)

pub each_owned : AreEachOwned
each_owned numbers ranks count h n below =
    subst (λ (l : List ℕ). Contains l n) (sym (h.owned_by (h.rank_of n) (h.ranked n below))) (has_task h.rank_of (h.rank_of n) count n below refl)

pairs_owned : {X : Type 0} (R : X → X → Type 0) (x : X) (xs : List X) (ns : List ℕ) → Rises ns → All (λ n. n < length xs) ns → AllPairs R xs → AllPairs R (owned x xs ns)
pairs_owned R x xs ns rises below all i j d ij lt =
    let f = λ (n : ℕ). get_or xs n x in
    let there : j < length ns = omega (arith, lt, length-map ns f) in
    subst (λ y. R y (get_or (map f ns) j d)) (sym (get_or-map f ns i 0 d (omega arith)))
    (subst (λ y. R (f (get_or ns i 0)) y) (sym (get_or-map f ns j 0 d there))
    (all (get_or ns i 0) (get_or ns j 0) x (rises i j ij there) (All-get_or (λ n. n < length xs) ns j 0 there below)))

pub apart : AreApart
apart numbers ranks ps p h r below all =
    pairs_owned (λ (a b : Patch). (c : Cell) → IsTrue (holds (box a) c) → IsTrue (holds (box b) c) → ⊥) p ps (get_or numbers r []) (in_order numbers ranks (length ps) h r below)
    (within_all numbers ranks (length ps) h r below) all
