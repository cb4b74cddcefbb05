-- The numbers in lots are those of jobs.
use Rattle.std.proofs.Common.{◌≡◌, ◌∙◌, ℕ, zero, suc, ◌<◌, ◌==◌, Bool, true, false, List, [], ◌∷◌, ◌++◌, All, length, get_or, sym, ap, subst, if◌then◌else◌, length-append, arith}
use Rattle.std.specs.Global.{Vec}
use Rattle.std.proofs.lemmas.List.{get_or_append_left, get_or-append-add, get_or_default, map-append}
use Rattle.std.proofs.lemmas.List.Elements.{All-append, All-cons, All-nil}
use Rattle.amr_balance.specs.Shares.{IsShare, Owner, lists_in, tasks_of}
use Rattle.amr_batch.specs.declared.replies.Lot.{Lot}
use Rattle.amr_batch.specs.Replies.{AreTasks, HasTasks}

front_all : {A : Type 0} (P : A → Type 0) (xs : List A) (x : A) → All P (xs ++ x ∷ []) → All P xs
front_all P xs x all k d below = subst P (get_or_append_left xs (x ∷ []) d k below) (all k d (omega (arith, below, length-append xs (x ∷ []))))

last_all : {A : Type 0} (P : A → Type 0) (xs : List A) (x : A) → All P (xs ++ x ∷ []) → P x
last_all P xs x all =
    let last : get_or (xs ++ x ∷ []) (length xs) x ≡ x = ap (λ (k : ℕ). get_or (xs ++ x ∷ []) k x) (omega arith) ∙ get_or-append-add xs (x ∷ []) 0 x in
    subst P last (all (length xs) x (omega (arith, length-append xs (x ∷ []))))

pub one_more_lot : {X : Type 0} (n : ℕ) (shares : List (Vec ℕ)) (v : Vec ℕ) (lots all : List (Lot X)) (lot : Lot X) → all ≡ lots ++ lot ∷ [] → lot.numbers ≡ v → (All (AreTasks n) (lists_in shares) → All (HasTasks n) lots) → All (AreTasks n) (lists_in (shares ++ v ∷ [])) → All (HasTasks n) all
one_more_lot {X} n shares v lots all lot is same before tasks =
    let split : lists_in (shares ++ v ∷ []) ≡ lists_in shares ++ v.items ∷ [] = map-append (λ (w : Vec ℕ). w.items) shares (v ∷ []) in
    let parts = subst (λ (l : List (List ℕ)). All (AreTasks n) l) split tasks in
    let one : HasTasks n lot = subst (λ (w : Vec ℕ). AreTasks n w.items) (sym same) (last_all (AreTasks n) (lists_in shares) v.items parts) in
    subst (λ (l : List (Lot X)). All (HasTasks n) l) (sym is) (All-append (HasTasks n) lots (lot ∷ []) (before (front_all (AreTasks n) (lists_in shares) v.items parts)) (All-cons (HasTasks n) lot [] one (All-nil (HasTasks n))))

-- ---- a share has the numbers of its tasks

last_below : (b : Bool) (n : ℕ) → All (λ k. k < suc n) (if b then n ∷ [] else [])
last_below true n = All-cons (λ k. k < suc n) n [] (omega arith) (All-nil (λ k. k < suc n))
last_below false n = All-nil (λ k. k < suc n)

tasks_below : (owner : Owner) (w n : ℕ) → All (λ k. k < n) (tasks_of owner w n)
tasks_below owner w zero = All-nil (λ k. k < 0)
tasks_below owner w (suc n) =
    All-append (λ k. k < suc n) (tasks_of owner w n) (if owner n == w then n ∷ [] else []) (λ k d below. let small = tasks_below owner w n k d below in omega (arith, small)) (last_below (owner n == w) n)

pub share_tasks : (areas : List ℕ) (workers n : ℕ) (shares : List (List ℕ)) → IsShare areas workers shares → length areas ≡ n → All (AreTasks n) shares
share_tasks areas workers n shares is same w d below =
    let there : w < workers = omega (arith, below, is.count) in
    subst (λ (l : List ℕ). AreTasks n l) (sym (is.lot w there) ∙ get_or_default shares w [] d below) (subst (λ (m : ℕ). AreTasks m (tasks_of is.owner w (length areas))) same (tasks_below is.owner w (length areas)))
