-- A step of one seat that moves neither the counter nor shares.
use Rattle.std.proofs.Common.{◌≡◌, ◌≢◌, ◌⊎◌, ℕ, zero, suc, ◌+◌, ◌<◌, ◌≤◌, ◌==◌, cond, min, Bool, true, false, true≢false, List, [], length, get_or, set, refl, sym, ap, ◌∙◌, subst, ⊎_elim, arith, eq-eqb, ne_eqb, lt_of_not-le}
use Rattle.std.specs.Prelude.{Contains, Option}
use mathlib.Core.Option as lookup
use mathlib.Core.Logic.{dite}
use native.Mathlib.Decide.{ℕ_discrete, dec_le}
use lib.ListN.{get_elem?}
use Rattle.atomic_table.specs.Table.{State}
use Rattle.atomic_table.proofs.Lists.{at_set}
use Rattle.amr_phase.specs.Plans.{PlanOf, total, planned_face}
use Rattle.amr_board.specs.declared.view.Progress.{Progress}
use Rattle.amr_board.specs.declared.view.View.{View}
use Rattle.amr_board.specs.Views.{current, with_current, no_progress}
use Rattle.amr_board.specs.Rule.{Sentences, IsFit, weigh, numbers, stage, stage_at, stages, past_share, own_adds, own_puts, SlotIs}
use Rattle.amr_phase.proofs.Sums.{total_set, zero_too}
use Rattle.amr_board.proofs.Sums.{sum_set, each_set, member_le, only_one, get_first}

abbrev pub hit : ℕ → ℕ → ℕ
hit t k = cond (k == t) 1 0

hit_here : (t : ℕ) → hit t t ≡ 1
hit_here t = ap (λ b. cond {A = ℕ} b 1 0) (eq-eqb t t refl)

hit_else : (t k : ℕ) → k ≢ t → hit t k ≡ 0
hit_else t k ne = ap (λ b. cond {A = ℕ} b 1 0) (ne_eqb k t ne)

pub hit_is : (t k : ℕ) → 0 < hit t k → k ≡ t
hit_is t k pos = dite (ℕ_discrete k t) (λ e. e) (λ ne. absurd (let z = hit_else t k ne in omega arith))

hit_later : (t a m : ℕ) → t < a → weigh (hit t) a m ≡ 0
hit_later t a zero lt = refl
hit_later t a (suc m) lt =
    let x = hit_else t a (λ e. absurd (omega arith)) in
    let y = hit_later t (suc a) m (omega arith) in
    let r : hit t a + weigh (hit t) (suc a) m ≡ 0 = omega arith in r

-- a number stands at most once among those from a on
pub hit_once : (t a m : ℕ) → weigh (hit t) a m ≤ 1
hit_once t a zero = let r : 0 ≤ 1 = omega arith in r
hit_once t a (suc m) =
    dite (ℕ_discrete a t)
    (λ e.
    let x : hit t a ≡ 1 = ap (hit t) e ∙ hit_here t in
    let y = hit_later t (suc a) m (omega arith) in
    let r : hit t a + weigh (hit t) (suc a) m ≤ 1 = omega arith in r)
    (λ ne.
    let x = hit_else t a ne in
    let y = hit_once t (suc a) m in
    let r : hit t a + weigh (hit t) (suc a) m ≤ 1 = omega arith in r)

-- and not at all from its own place on, where they end there
pub hit_before : (t a m : ℕ) → a + m ≤ t → weigh (hit t) a m ≡ 0
hit_before t a zero le = refl
hit_before t a (suc m) le =
    let x = hit_else t a (λ e. absurd (omega arith)) in
    let y = hit_before t (suc a) m (omega arith) in
    let r : hit t a + weigh (hit t) (suc a) m ≡ 0 = omega arith in r

pub hit_in : (t a m : ℕ) → a ≤ t → t < a + m → weigh (hit t) a m ≡ 1
hit_in t a zero le lt = absurd (omega arith)
hit_in t a (suc m) le lt =
    dite (ℕ_discrete a t)
    (λ e.
    let x : hit t a ≡ 1 = ap (hit t) e ∙ hit_here t in
    let y = hit_later t (suc a) m (omega arith) in
    let r : hit t a + weigh (hit t) (suc a) m ≡ 1 = omega arith in r)
    (λ ne.
    let x = hit_else t a ne in
    let y = hit_in t (suc a) m (omega arith) (omega arith) in
    let r : hit t a + weigh (hit t) (suc a) m ≡ 1 = omega arith in r)

pub no_stage : (t : ℕ) (e : Progress) → hit t e.task ≡ 0 → stage_at t e ≡ 0
no_stage t e z =
    dite (ℕ_discrete e.task t)
    (λ same. absurd (let x : hit t e.task ≡ 1 = ap (hit t) same ∙ hit_here t in omega arith))
    (λ ne. ap (λ b. cond {A = ℕ} b (stage e) 0) (ne_eqb e.task t ne))

stage_here : (t : ℕ) (e : Progress) → e.task ≡ t → stage_at t e ≡ stage e
stage_here t e same = ap (λ b. cond {A = ℕ} b (stage e) 0) (eq-eqb e.task t same)

module _ {P : Type 0} (plan : PlanOf) (pieces : List P) (becomes : P → P → Type 0) (s : State (Option P) (View P)) (h : Sentences plan pieces becomes s) (id : ℕ) (v : View P) (at : get_elem? s.views id ≡ lookup.some v) where
  -- the stage of the task that the seat drew last is that of the task among all views
  module _ (t : ℕ) (held : 0 < length v.tasks) (is_task : (current v).task ≡ t) where
    in_front : get_elem? v.tasks 0 ≡ lookup.some (current v)
    in_front = get_first v.tasks no_progress held

    once_here : (total (numbers (hit t)) s.views ≡ 1) × (numbers (hit t) v ≡ 1)
    once_here =
        let all = h.each_once (hit t) in
        let most = hit_once t 0 (min (get_or s.words 0 0) (length plan.tasks)) in
        let part = member_le (numbers (hit t)) s.views id v at in
        let one : hit t (current v).task ≤ numbers (hit t) v = member_le (λ (e : Progress). hit t e.task) v.tasks 0 (current v) in_front in
        let is : hit t (current v).task ≡ 1 = ap (hit t) is_task ∙ hit_here t in
        (omega arith, omega arith)

    pub task_known : t < min (get_or s.words 0 0) (length plan.tasks)
    task_known =
        let m : ℕ = min (get_or s.words 0 0) (length plan.tasks) in
        dite (dec_le m t)
        (λ le. absurd (let o = once_here in let a = h.each_once (hit t) in let z : weigh (hit t) 0 m ≡ 0 = hit_before t 0 m (omega arith) in omega arith))
        (λ no. lt_of_not-le no)

    pub stage_alone : total (stages t) s.views ≡ stage (current v)
    stage_alone =
        let o = once_here in
        only_one (numbers (hit t)) (stages t) s.views id v (λ k u _. zero_too (λ (e : Progress). hit t e.task) (stage_at t) u.tasks (no_stage t)) at (o.0 ∙ sym o.1)
        ∙ (only_one (λ (e : Progress). hit t e.task) (stage_at t) v.tasks 0 (current v) (λ k e _. no_stage t e) in_front (o.1 ∙ sym (ap (hit t) is_task ∙ hit_here t))
        ∙ stage_here t (current v) is_task)

  -- what stays where one view is replaced by another that has the same numbers, share and past
  module _ (words : List ℕ) (homes : List (lookup.Option (Option P))) (w : View P)
      (sized : length words ≡ length s.words) (zeroth : get_or words 0 0 ≡ get_or s.words 0 0)
      (live : v.spent ≡ false) (live' : w.spent ≡ false) (same_plan : (w.plan ≡ plan) × (w.pieces ≡ pieces))
      (same_numbers : (g : ℕ → ℕ) → numbers g w ≡ numbers g v) (same_past : w.past ≡ v.past) (same_share : w.share ≡ v.share) where
    abbrev after : State (Option P) (View P)
    after = record { words = words; homes = homes; views = set s.views id w }

    pub kept : ((p : ℕ) → p < plan.places → get_or words (1 + p) 0 ≡ total (own_puts plan p) (set s.views id w))
        → ((x : ℕ) → x < plan.words → get_or words (1 + plan.places + x) 0 ≡ total (own_adds plan x) (set s.views id w))
        → ((k : ℕ) (u : View P) (p : ℕ) → get_elem? (set s.views id w) k ≡ lookup.some u → Contains u.known p → (p < plan.places) × (0 < get_or words (1 + p) 0))
        → ((w.look.found ≡ 0) ⊎ (w.look.found ≡ planned_face plan w.look.place))
        → ((t : ℕ) (p : P) → get_elem? pieces t ≡ lookup.some p → SlotIs becomes homes t p (total (stages t) (set s.views id w)))
        → ((i : ℕ) (e : Progress) → get_elem? w.tasks i ≡ lookup.some e → IsFit plan i e)
        → Sentences plan pieces becomes after
    kept faces registers known look slots tasks =
        let share_same : total (λ (u : View P). u.share) (set s.views id w) ≡ total (λ (u : View P). u.share) s.views = (let t = sum_set (λ (u : View P). u.share) s.views id v w at in omega arith) in
        let past_same : past_share w ≡ past_share v = ap (λ (b : Bool). cond {A = ℕ} b w.share 0) same_past ∙ ap (λ n. cond {A = ℕ} v.past n 0) same_share in
        let past_all : total past_share (set s.views id w) ≡ total past_share s.views = (let t = sum_set past_share s.views id v w at in omega arith) in
        record {
          is_plan = h.is_plan;
          sized = sized ∙ h.sized;
          task_count = h.task_count;
          few = h.few;
          same_plan = each_set (λ (u : View P). u.spent ≡ false → (u.plan ≡ plan) × (u.pieces ≡ pieces)) s.views id w h.same_plan (λ _. same_plan);
          each_once = λ g. (let t = sum_set (numbers g) s.views id v w at in let o = h.each_once g in let n = same_numbers g in
              let m : total (numbers g) (set s.views id w) ≡ weigh g 0 (min (get_or s.words 0 0) (length plan.tasks)) = omega arith in
              m ∙ ap (λ c. weigh g 0 (min c (length plan.tasks))) (sym zeroth));
          past = each_set (λ (u : View P). u.past ≡ true → length plan.tasks ≤ get_or words 0 0) s.views id w
              (λ k u e is. rw zeroth (h.past k u e is)) (λ is. rw zeroth (h.past id v at (sym same_past ∙ is)));
          faces = faces;
          registers = registers;
          known = known;
          looks = each_set (λ (u : View P). (u.look.found ≡ 0) ⊎ (u.look.found ≡ planned_face plan u.look.place)) s.views id w h.looks look;
          slots = slots;
          tasks = each_set (λ (u : View P). (i : ℕ) (e : Progress) → get_elem? u.tasks i ≡ lookup.some e → IsFit plan i e) s.views id w h.tasks tasks;
          shares = share_same ∙ h.shares;
          share_fit = each_set (λ (u : View P). (u.spent ≡ true → (u.share ≡ 0) × (u.tasks ≡ [])) × (u.spent ≡ false → 1 ≤ u.share)) s.views id w h.share_fit
              ((λ is. absurd (true≢false (sym is ∙ live'))), (λ _. rw same_share ((h.share_fit id v at).1 live)));
          counter_fits = rw (zeroth, past_all) h.counter_fits;
        }

-- a view whose current task is changed
module _ {P : Type 0} (v : View P) (e : Progress) (held : 0 < length v.tasks) where
  pub sum_current : (g : Progress → ℕ) → total g (with_current v e).tasks + g (current v) ≡ total g v.tasks + g e
  sum_current g = total_set g v.tasks 0 e no_progress held

  pub same_current : (g : Progress → ℕ) → g e ≡ g (current v) → total g (with_current v e).tasks ≡ total g v.tasks
  same_current g same = (let t = sum_current g in omega arith)

  pub fit_current : (plan : PlanOf) → IsFit plan 0 e → ((i : ℕ) (x : Progress) → get_elem? v.tasks i ≡ lookup.some x → IsFit plan i x) → (i : ℕ) (x : Progress) → get_elem? (with_current v e).tasks i ≡ lookup.some x → IsFit plan i x
  fit_current plan mine all i x is =
      ⊎_elim
      (λ (t : (i ≡ 0) × (e ≡ x)). subst (λ (j : ℕ). IsFit plan j x) (sym t.0) (subst (IsFit plan 0) t.1 mine))
      (λ (t : (i ≢ 0) × (get_elem? v.tasks i ≡ lookup.some x)). all i x t.1)
      (at_set v.tasks 0 i e x is)
