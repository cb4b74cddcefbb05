-- One more task given to a worker: the tasks and the loads of all.
use Rattle.std.proofs.Common.{◌≡◌, ℕ, zero, suc, ◌+◌, ◌<◌, ◌==◌, cond, true, false, List, [], ◌∷◌, ◌++◌, get_or, map, sum, refl, ap, arith, eq-eqb, ne_eqb}
use Rattle.std.proofs.lemmas.List.{map-append}
use Rattle.std.proofs.lemmas.List.Sums.{sum_by-append}
use Rattle.amr_balance.specs.Shares.{Owner, tasks_of, load}

-- the owners of before, and of task n
abbrev pub with_owner : Owner → ℕ → ℕ → Owner
with_owner owner n w k = cond (k == n) w (owner k)

pub owner_new : (owner : Owner) (n w : ℕ) → with_owner owner n w n ≡ w
owner_new owner n w = ap (λ b. cond b w (owner n)) (eq-eqb n n refl)

pub owner_old : (owner : Owner) (n w k : ℕ) → k < n → with_owner owner n w k ≡ owner k
owner_old owner n w k h = ap (λ b. cond b w (owner k)) (ne_eqb k n (λ e. omega arith))

-- owners that agree below n give the same tasks
pub tasks_same : (a b : Owner) (w n : ℕ) → ((k : ℕ) → k < n → a k ≡ b k) → tasks_of a w n ≡ tasks_of b w n
tasks_same a b w zero h = refl
tasks_same a b w (suc n) h =
    let before : tasks_of a w n ≡ tasks_of b w n = tasks_same a b w n (λ k below. h k (omega arith)) in
    let here : a n ≡ b n = h n (omega arith) in
    cc

-- what a worker has of one more task
pub load_more : (areas : List ℕ) (owner : Owner) (n w : ℕ) → load areas owner (suc n) w ≡ load areas owner n w + cond (owner n == w) (get_or areas n 0) 0
load_more areas owner n w =
    elim (owner n == w) as (λ b. sum (map (λ k. get_or areas k 0) (tasks_of owner w n ++ cond b (n ∷ []) [])) ≡ load areas owner n w + cond b (get_or areas n 0) 0) [
      | true ↦ simp (map-append, sum_by-append) (omega arith)
      | false ↦ simp (map-append, sum_by-append) (omega arith)
    ]
