-- The numbers of a rank, and the items with these numbers.
use Rattle.std.proofs.Common.{◌≡◌, ◌≢◌, ◌∙◌, ℕ, zero, suc, ◌<◌, ◌==◌, cond, List, [], ◌∷◌, length, get_or, sym, ap, subst, inl, inr, arith}
use Rattle.std.proofs.lemmas.Bool.Decides.{eqb_tells}
use Rattle.std.proofs.lemmas.List.Elements.{All-nil, All-cons, All-append, All-weaker, All-map, All-get_or, All-contains_itself, All-same}
use Rattle.std.specs.Prelude.{Contains}
use Rattle.std.specs.List.{All}
use Rattle.amr_balance.specs.Shares.{Owner, tasks_of}
use Rattle.amr_owners.specs.Owners.{AreOwners, IsNoneOf, owned}
use Rattle.amr_owners.specs.Laws.{AreOfLevel, AreOfRank}

abbrev pub IsTaskOf : Owner → ℕ → ℕ → ℕ → Type 0
IsTaskOf owner w n m = (m < n) × (owner m ≡ w)

pub all_tasks : (owner : Owner) (w n : ℕ) → All (IsTaskOf owner w n) (tasks_of owner w n)
all_tasks owner w zero = All-nil (IsTaskOf owner w 0)
all_tasks owner w (suc n) =
    let P = IsTaskOf owner w (suc n) in
    let before : All P (tasks_of owner w n) = All-weaker (IsTaskOf owner w n) P (λ m h. (omega (arith, h.0), h.1)) (tasks_of owner w n) (all_tasks owner w n) in
    elim (eqb_tells (owner n) w) [
      | inl here ↦ All-append P (tasks_of owner w n) (cond (owner n == w) (n ∷ []) []) before
          (subst (λ b. All P (cond b (n ∷ []) [])) (sym here.0) (All-cons P n [] (omega arith, here.1) (All-nil P)))
      | inr other ↦ All-append P (tasks_of owner w n) (cond (owner n == w) (n ∷ []) []) before
          (subst (λ b. All P (cond b (n ∷ []) [])) (sym other.0) (All-nil P))
    ]

-- what holds of all items holds of those with these numbers
pub all_owned : {X : Type 0} (P : X → Type 0) (x : X) (xs : List X) (ns : List ℕ) → All (λ n. n < length xs) ns → All P xs → All P (owned x xs ns)
all_owned P x xs ns below all = All-map P (λ n. get_or xs n x) ns (All-weaker (λ n. n < length xs) (λ n. P (get_or xs n x)) (λ n h. All-get_or P xs n x h all) ns below)

pub of_rank : AreOfRank
of_rank numbers ranks count h r below = All-same (IsTaskOf h.rank_of r count) (get_or numbers r []) (tasks_of h.rank_of r count) (h.owned_by r below) (all_tasks h.rank_of r count)

-- the numbers of a rank are below the count
pub within_all : (numbers : List (List ℕ)) (ranks count : ℕ) → AreOwners numbers ranks count → (r : ℕ) → r < ranks
    → All (λ n. n < count) (get_or numbers r [])
within_all numbers ranks count h r below =
    All-weaker (IsTaskOf h.rank_of r count) (λ n. n < count) (λ n is. is.0) (get_or numbers r []) (of_rank numbers ranks count h r below)

-- a number of one rank is none of another's
pub of_two : (numbers : List (List ℕ)) (ranks count : ℕ) → AreOwners numbers ranks count → (q r k : ℕ) → q < ranks → r < ranks → q ≢ r
    → k < length (get_or numbers r []) → IsNoneOf (get_or numbers q []) (get_or (get_or numbers r []) k 0)
of_two numbers ranks count h q r k q_there r_there other k_there j j_there e =
    let in_q = All-get_or (IsTaskOf h.rank_of q count) (get_or numbers q []) j 0 j_there (of_rank numbers ranks count h q q_there) in
    let in_r = All-get_or (IsTaskOf h.rank_of r count) (get_or numbers r []) k 0 k_there (of_rank numbers ranks count h r r_there) in
    other (sym in_q.1 ∙ ap h.rank_of e ∙ in_r.1)

pub of_level : AreOfLevel
of_level numbers ranks ps p h r below =
    all_owned (Contains ps) p ps (get_or numbers r [])
    (within_all numbers ranks (length ps) h r below) (All-contains_itself ps)
