-- What a closed board holds, where the seat that is left has every share: once all tasks are done, and where none was drawn.
use Rattle.std.proofs.Common.{◌≡◌, ℕ, zero, suc, ◌+◌, ◌^◌, ◌<◌, ◌≤◌, ◌==◌, cond, min, Bool, true, false, List, [], ◌∷◌, length, get_or, take, Some, refl, sym, ap, ◌∙◌, subst, arith}
use Rattle.std.specs.Prelude.{Option}
use mathlib.Core.Option as lookup
use lib.ListN.{get_elem?}
use Rattle.atomic_table.specs.Table.{State}
use Rattle.atomic_table.specs.declared.shared.Seat.{Seat}
use Rattle.amr_phase.specs.declared.plan.Task.{Task}
use Rattle.amr_phase.specs.Plans.{PlanOf, total, planned_face, puts_of, adds_of, stored, added, no_task, planned_total}
use Rattle.amr_board.specs.declared.view.Progress.{Progress}
use Rattle.amr_board.specs.declared.view.View.{View}
use Rattle.amr_board.specs.Views.{no_progress, HoldsNone}
use Rattle.amr_board.specs.BoardOf.{BoardOf}
use Rattle.amr_board.specs.Ended.{EndedOf, total_of, face_of}
use Rattle.amr_board.specs.LastState.{IsEndOf}
use Rattle.amr_board.specs.Rule.{Rule, Sentences, weigh, numbers, stage, stage_at, stages, done_adds, done_puts, IsHome}
use Rattle.amr_board.proofs.Sums.{only_one, in_range_at, weigh_list, sum_both}
use Rattle.amr_board.proofs.Keeping.{hit, hit_in}
use Rattle.std.proofs.Math.Seq.{take-length}

sum_at : {X : Type 0} (f g : X → ℕ) (xs : List X) → ((k : ℕ) (x : X) → get_elem? xs k ≡ lookup.some x → f x ≡ g x) → total f xs ≡ total g xs
sum_at f g [] same = refl
sum_at f g (x ∷ xs) same =
    let a : f x ≡ g x = same 0 x refl in
    let b : total f xs ≡ total g xs = sum_at f g xs (λ k y e. same (suc k) y e) in
    let r : f x + total f xs ≡ g x + total g xs = omega arith in r

no_sum : {X : Type 0} (g : X → ℕ) (xs : List X) → xs ≡ [] → total g xs ≡ 0
no_sum g xs e = ap (total g) e

-- the words of a closed board are those of its last state
module _ {P : Type 0} (becomes : P → P → Type 0) (board : BoardOf P) (seat : Seat (Option P) (View P)) (ended : EndedOf P) (end : IsEndOf becomes board seat ended) where
  pub total_is : (w : ℕ) → total_of ended w ≡ get_or end.state.words (1 + board.plan.places + w) 0
  total_is w = ap (λ l. get_or l (1 + ended.places + w) 0) end.words ∙ ap (λ n. get_or end.state.words (1 + n + w) 0) end.places

  pub face_is : (p : ℕ) → face_of ended p ≡ get_or end.state.words (1 + p) 0
  face_is p = ap (λ l. get_or l (1 + p) 0) end.words

module _ {P : Type 0} (plan : PlanOf) (pieces : List P) (becomes : P → P → Type 0) (id : ℕ) (v : View P) (s : State (Option P) (View P)) (rule : Rule plan pieces becomes s) (seen : get_elem? s.views id ≡ lookup.some v)
    (all : v.share ≡ 2 ^ 32) where
  abbrev h : Sentences plan pieces becomes s
  h = rule.sentences

  alone : (g : Progress → ℕ) → total (λ (u : View P). total g u.tasks) s.views ≡ total g v.tasks
  alone g =
      only_one (λ (u : View P). u.share) (λ (u : View P). total g u.tasks) s.views id v
      (λ k u at z. idle u (h.share_fit k u at) z) seen (h.shares ∙ sym all)
    where
      idle : (u : View P) → (u.spent ≡ true → (u.share ≡ 0) × (u.tasks ≡ [])) × (u.spent ≡ false → 1 ≤ u.share) → u.share ≡ 0 → total g u.tasks ≡ 0
      idle u fit z = spent_or u.spent refl
        where
          spent_or : (b : Bool) → u.spent ≡ b → total g u.tasks ≡ 0
          spent_or true e = no_sum g u.tasks (fit.0 e).1
          spent_or false e = absurd (let one = fit.1 e in omega arith)

  module _ (ended : v.past ≡ true) (none : HoldsNone v) where
    numbers_are : (g : ℕ → ℕ) → numbers g v ≡ weigh g 0 (length plan.tasks)
    numbers_are g =
        sym (alone (λ (e : Progress). g e.task)) ∙ (h.each_once g ∙ ap (weigh g 0) (let le = h.past id v seen ended in let r : min (get_or s.words 0 0) (length plan.tasks) ≡ length plan.tasks = omega arith in r))

    is_given : (k : ℕ) (e : Progress) → get_elem? v.tasks k ≡ lookup.some e → e.given ≡ true
    is_given zero e is = subst (λ (x : Progress). x.given ≡ true) (Rattle.amr_board.proofs.Sums.got v.tasks 0 e no_progress is) none
    is_given (suc k) e is = (h.tasks id v seen (suc k) e is).older (omega arith)

    pub registers_end : (w : ℕ) → w < plan.words → get_or s.words (1 + plan.places + w) 0 ≡ planned_total plan w
    registers_end w lt =
        h.registers w lt
        ∙ (alone (done_adds plan w)
        ∙ (sum_at (done_adds plan w) (λ (e : Progress). total (added w) (adds_of plan e.task)) v.tasks
        (λ k e is.
        ap (λ (n : ℕ). total (added w) (take n (adds_of plan e.task))) ((h.tasks id v seen k e is).given (is_given k e is)).1 ∙ ap (total (added w)) (take-length (adds_of plan e.task)))
        ∙ (numbers_are (λ t. total (added w) (adds_of plan t)) ∙ weigh_list (λ (t : Task). total (added w) t.adds) plan.tasks no_task)))

    pub faces_end : (p : ℕ) → p < plan.places → get_or s.words (1 + p) 0 ≡ planned_face plan p
    faces_end p lt =
        h.faces p lt
        ∙ (alone (done_puts plan p)
        ∙ (sum_at (done_puts plan p) (λ (e : Progress). total (stored p) (puts_of plan e.task)) v.tasks
        (λ k e is.
        ap (λ (n : ℕ). total (stored p) (take n (puts_of plan e.task))) ((h.tasks id v seen k e is).given (is_given k e is)).0 ∙ ap (total (stored p)) (take-length (puts_of plan e.task)))
        ∙ (numbers_are (λ t. total (stored p) (puts_of plan t)) ∙ weigh_list (λ (t : Task). total (stored p) t.puts) plan.tasks no_task)))

    far_end : (t : ℕ) → t < length pieces → total (stages t) s.views ≡ 3
    far_end t t_lt =
        alone (stage_at t)
        ∙ (sum_at (stage_at t) (λ (e : Progress). (hit t e.task + hit t e.task) + hit t e.task) v.tasks
        (λ k e at. three (stage e) (hit t e.task) (e.task == t) (ap (λ b. cond {A = ℕ} b 3 (cond {A = ℕ} e.taken 2 1)) (is_given k e at)))
        ∙ (sym (sum_both (λ (e : Progress). hit t e.task + hit t e.task) (λ (e : Progress). hit t e.task) v.tasks)
        ∙ (let d : total (λ (e : Progress). hit t e.task) v.tasks + total (λ (e : Progress). hit t e.task) v.tasks ≡ total (λ (e : Progress). hit t e.task + hit t e.task) v.tasks = sum_both (λ (e : Progress). hit t e.task) (λ (e : Progress). hit t e.task) v.tasks in
        let lt : t < length plan.tasks = (let c = h.task_count in omega arith) in
        let one : total (λ (e : Progress). hit t e.task) v.tasks ≡ 1 = numbers_are (hit t) ∙ hit_in t 0 (length plan.tasks) (omega arith) (omega arith) in
        let r : total (λ (e : Progress). hit t e.task + hit t e.task) v.tasks + total (λ (e : Progress). hit t e.task) v.tasks ≡ 3 = omega arith in r)))
      where
        three : (x y : ℕ) (b : Bool) → x ≡ 3 → cond b x 0 ≡ (cond {A = ℕ} b 1 0 + cond {A = ℕ} b 1 0) + cond {A = ℕ} b 1 0
        three x y true e = e
        three x y false e = refl

    pub slots_end : (t : ℕ) (p : P) → get_elem? pieces t ≡ lookup.some p → (y : P) × becomes p y × (get_elem? s.homes t ≡ lookup.some (lookup.some (Some y)))
    slots_end t p is =
        let slot = h.slots t p is in
        let last : IsHome becomes p 3 slot.0 = subst (λ n. IsHome becomes p n slot.0) (far_end t (in_range_at pieces t p is)) slot.2 in
        (last.0, last.1, slot.1 ∙ ap lookup.some last.2)

  module _ (undrawn : v.tasks ≡ []) where
    nothing : (g : Progress → ℕ) → total (λ (u : View P). total g u.tasks) s.views ≡ 0
    nothing g = alone g ∙ no_sum g v.tasks undrawn

    pub registers_start : (w : ℕ) → w < plan.words → get_or s.words (1 + plan.places + w) 0 ≡ 0
    registers_start w lt = h.registers w lt ∙ nothing (done_adds plan w)

    pub faces_start : (p : ℕ) → p < plan.places → get_or s.words (1 + p) 0 ≡ 0
    faces_start p lt = h.faces p lt ∙ nothing (done_puts plan p)

    pub slots_start : (t : ℕ) (p : P) → get_elem? pieces t ≡ lookup.some p → get_elem? s.homes t ≡ lookup.some (lookup.some (Some p))
    slots_start t p is =
        let slot = h.slots t p is in
        let home : IsHome becomes p 0 slot.0 = subst (λ n. IsHome becomes p n slot.0) (nothing (stage_at t)) slot.2 in slot.1 ∙ ap lookup.some home
