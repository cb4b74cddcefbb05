-- Sums over tasks and their stages.
use Rattle.std.proofs.Common.{◌≡◌, ℕ, zero, suc, ◌+◌, ◌<◌, ◌≤◌, ◌==◌, cond, true, false, List, [], ◌∷◌, length, get_or, set, refl, arith}
use Rattle.amr_phase.specs.declared.plan.Post.{Post}
use Rattle.amr_phase.specs.declared.plan.Task.{Task}
use Rattle.amr_phase.specs.declared.machine.Stage.{Stage}
use Rattle.amr_phase.specs.declared.machine.Stage.TheVariants.{Given}
use Rattle.amr_phase.specs.Plans.{total, stored, named, no_task}
use Rattle.amr_phase.specs.Machine.{total2}

pub total2_set : (f : Task → Stage → ℕ) (ts : List Task) (ss : List Stage) (i : ℕ) (s : Stage) → length ss ≡ length ts → i < length ss
    → total2 f ts (set ss i s) + f (get_or ts i no_task) (get_or ss i Given) ≡ total2 f ts ss + f (get_or ts i no_task) s
total2_set f [] [] i s len lt = absurd (omega arith)
total2_set f [] (x ∷ ss) i s len lt = absurd (omega arith)
total2_set f (t ∷ ts) [] i s len lt = absurd (omega arith)
total2_set f (t ∷ ts) (x ∷ ss) zero s len lt = let r : (f t s + total2 f ts ss) + f t x ≡ (f t x + total2 f ts ss) + f t s = omega arith in r
total2_set f (t ∷ ts) (x ∷ ss) (suc i) s len lt =
    let h = total2_set f ts ss i s (omega arith) (omega arith) in
    let r : (f t x + total2 f ts (set ss i s)) + f (get_or ts i no_task) (get_or ss i Given) ≡ (f t x + total2 f ts ss) + f (get_or ts i no_task) s = omega arith in r

pub zero2 : (f g : Task → Stage → ℕ) (ts : List Task) (ss : List Stage) → ((t : Task) (s : Stage) → f t s ≡ 0 → g t s ≡ 0) → total2 f ts ss ≡ 0 → total2 g ts ss ≡ 0
zero2 f g [] ss z h = refl
zero2 f g (t ∷ ts) [] z h = refl
zero2 f g (t ∷ ts) (s ∷ ss) z h =
    let h' : f t s + total2 f ts ss ≡ 0 = h in
    let a : g t s ≡ 0 = z t s (omega arith) in
    let b : total2 g ts ss ≡ 0 = zero2 f g ts ss z (omega arith) in
    let r : g t s + total2 g ts ss ≡ 0 = omega arith in r

pub le2 : (f : Task → Stage → ℕ) (g : Task → ℕ) (ts : List Task) (ss : List Stage) → ((t : Task) (s : Stage) → f t s ≤ g t) → total2 f ts ss ≤ total g ts
le2 f g [] ss le = let r : 0 ≤ 0 = omega arith in r
le2 f g (t ∷ ts) [] le = let r : 0 ≤ g t + total g ts = omega arith in r
le2 f g (t ∷ ts) (s ∷ ss) le =
    let a = le t s in let b = le2 f g ts ss le in
    let r : f t s + total2 f ts ss ≤ g t + total g ts = omega arith in r

one_is_not : {X : Type 0} (n : ℕ) → n ≡ 1 → n ≡ 0 → X
one_is_not n a b = absurd (omega arith)

pub unnamed : (p : ℕ) (x : Post) → named p x ≡ 0 → stored p x ≡ 0
unnamed p x =
    elim (x.at == p) as (λ b. cond {A = ℕ} b 1 0 ≡ 0 → cond {A = ℕ} b (x.amount + 1) 0 ≡ 0) [ true ↦ one_is_not 1 refl | false ↦ λ _. refl ]
