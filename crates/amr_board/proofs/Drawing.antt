-- A draw keeps the rule.
use Rattle.std.proofs.Common.{◌≡◌, ◌⊎◌, ℕ, zero, suc, ◌+◌, ◌^◌, ◌<◌, ◌≤◌, cond, min, true, false, true≢false, List, [], ◌∷◌, length, get_or, set, refl, sym, ap, ◌∙◌, subst, arith, eq-eqb, ne_eqb, zero-add, lt_of_not-le}
use Rattle.std.specs.Prelude.{Contains, Option}
use mathlib.Core.Option as lookup
use mathlib.Core.Logic.{dite}
use native.Mathlib.Decide.{ℕ_discrete, dec_le}
use lib.ListN.{get_elem?}
use Rattle.std.proofs.Math.ListN.{length-set}
use Rattle.std.proofs.lemmas.List.{get_or-set_same, get_or-set_other}
use Rattle.atomic_table.specs.Table.{State}
use Rattle.amr_phase.specs.Plans.{PlanOf, total, planned_face}
use Rattle.amr_board.specs.declared.view.Progress.{Progress}
use Rattle.amr_board.specs.declared.view.View.{View}
use Rattle.amr_board.specs.Views.{no_progress, drawn, gone, after_draw, HoldsNone}
use Rattle.amr_board.specs.Rule.{Sentences, IsFit, weigh, numbers, stage_at, stages, past_share, own_adds, own_puts, SlotIs}
use Rattle.amr_phase.proofs.Sums.{zero_too}
use Rattle.amr_board.proofs.Sums.{sum_set, each_set, member_le, weigh_split, sum_le}
use Rattle.amr_board.proofs.Keeping.{hit, hit_before, no_stage}
use Rattle.std.proofs.lemmas.Bool.{lt-ltb, le-ltb}

module _ {P : Type 0} (becomes : P → P → Type 0) (s : State (Option P) (View P)) (id : ℕ) (v : View P) (h : Sentences v.plan v.pieces becomes s) (at : get_elem? s.views id ≡ lookup.some v) (live : v.spent ≡ false) (here : v.past ≡ false) (none : HoldsNone v) where
  abbrev q : PlanOf
  q = v.plan

  abbrev n : ℕ
  n = get_or s.words 0 0

  abbrev moved_words : List ℕ
  moved_words = set s.words 0 (n + 1)

  zeroth : get_or moved_words 0 0 ≡ n + 1
  zeroth = get_or-set_same s.words 0 (n + 1) 0 (rw h.sized (omega arith))

  other : (i : ℕ) → 0 < i → get_or moved_words i 0 ≡ get_or s.words i 0
  other i pos = get_or-set_other s.words 0 i (n + 1) 0 (λ e. absurd (omega arith))

  -- the seat's own share is not among those that are past
  few_past : total past_share s.views < 2 ^ 32
  few_past =
      let le : total past_share s.views + v.share ≤ total (λ (u : View P). u.share) s.views = shares_le s.views id at in
      let one = (h.share_fit id v at).1 live in
      let all = h.shares in omega arith
    where
      each_le : (u : View P) → past_share u ≤ u.share
      each_le u = elim (u.past) as (λ b. cond {A = ℕ} b u.share 0 ≤ u.share) [ true ↦ omega arith | false ↦ omega arith ]

      shares_le : (us : List (View P)) (k : ℕ) → get_elem? us k ≡ lookup.some v → total past_share us + v.share ≤ total (λ (u : View P). u.share) us
      shares_le [] k e = absurd (lookup.some-ne-none v (sym e))
      shares_le (u ∷ us) zero e =
          let is : u ≡ v = lookup.some-injective u v e in
          let mine : past_share u ≡ 0 = ap past_share is ∙ ap (λ b. cond {A = ℕ} b v.share 0) here in
          let sh : u.share ≡ v.share = ap (λ (x : View P). x.share) is in
          let r = sum_le past_share (λ (x : View P). x.share) us each_le in
          let x : (past_share u + total past_share us) + v.share ≤ u.share + total (λ (x : View P). x.share) us = omega arith in x
      shares_le (u ∷ us) (suc k) e =
          let r = shares_le us k e in
          let l = each_le u in
          let x : (past_share u + total past_share us) + v.share ≤ u.share + total (λ (x : View P). x.share) us = omega arith in x

  pub small_counter : n + 1 < 2 ^ 34
  small_counter = (let f = few_past in let c = h.counter_fits in let l = h.few in omega arith)

  module _ (w : View P) (same_spent : w.spent ≡ false) (same_plan : w.plan ≡ q) (same_pieces : w.pieces ≡ v.pieces) (same_share : w.share ≡ v.share) where
    vs' : List (View P)
    vs' = set s.views id w

    abbrev after : State (Option P) (View P)
    after = record { words = moved_words; homes = s.homes; views = set s.views id w }

    drawn_rule : ((g : ℕ → ℕ) → total (numbers g) (set s.views id w) ≡ weigh g 0 (min (n + 1) (length q.tasks)))
        → (w.past ≡ true → length q.tasks ≤ n + 1)
        → ((p : ℕ) → own_puts q p w ≡ own_puts q p v) → ((x : ℕ) → own_adds q x w ≡ own_adds q x v)
        → ((p : ℕ) → Contains w.known p → Contains v.known p)
        → ((w.look.found ≡ 0) ⊎ (w.look.found ≡ planned_face q w.look.place))
        → ((t : ℕ) (p : P) → get_elem? v.pieces t ≡ lookup.some p → SlotIs becomes s.homes t p (total (stages t) s.views) → SlotIs becomes s.homes t p (total (stages t) (set s.views id w)))
        → ((i : ℕ) (e : Progress) → get_elem? w.tasks i ≡ lookup.some e → IsFit q i e)
        → n + 1 ≤ length q.tasks + total past_share (set s.views id w)
        → Sentences q v.pieces becomes after
    drawn_rule once past puts adds known look slots tasks fits =
        record {
          is_plan = h.is_plan;
          sized = length-set s.words 0 (n + 1) ∙ h.sized;
          task_count = h.task_count;
          few = h.few;
          same_plan = each_set (λ (u : View P). u.spent ≡ false → (u.plan ≡ q) × (u.pieces ≡ v.pieces)) s.views id w h.same_plan (λ _. (same_plan, same_pieces));
          each_once = λ g. once g ∙ ap (λ c. weigh g 0 (min c (length q.tasks))) (sym zeroth);
          past = each_set (λ (u : View P). u.past ≡ true → length q.tasks ≤ get_or moved_words 0 0) s.views id w
              (λ k u e is. rw zeroth (let l = h.past k u e is in omega arith)) (λ is. rw zeroth (past is));
          faces = λ p lt. other (1 + p) (omega arith) ∙ (h.faces p lt ∙ (let t = sum_set (own_puts q p) s.views id v w at in let e = puts p in omega arith));
          registers = λ x lt. other (1 + q.places + x) (omega arith) ∙ (h.registers x lt ∙ (let t = sum_set (own_adds q x) s.views id v w at in let e = adds x in omega arith));
          known = λ k u p is has. (let was = each_set (λ (y : View P). Contains y.known p → (p < q.places) × (0 < get_or s.words (1 + p) 0)) s.views id w (λ j y e'. h.known j y p e') (λ has'. h.known id v p at (known p has')) k u is has in
              (was.0, rw (other (1 + p) (omega arith)) was.1));
          looks = each_set (λ (u : View P). (u.look.found ≡ 0) ⊎ (u.look.found ≡ planned_face q u.look.place)) s.views id w h.looks look;
          slots = λ t p is. slots t p is (h.slots t p is);
          tasks = each_set (λ (u : View P). (i : ℕ) (e : Progress) → get_elem? u.tasks i ≡ lookup.some e → IsFit q i e) s.views id w h.tasks tasks;
          shares = (let t = sum_set (λ (u : View P). u.share) s.views id v w at in let e = same_share in omega arith) ∙ h.shares;
          share_fit = each_set (λ (u : View P). (u.spent ≡ true → (u.share ≡ 0) × (u.tasks ≡ [])) × (u.spent ≡ false → 1 ≤ u.share)) s.views id w h.share_fit
              ((λ is. absurd (true≢false (sym is ∙ same_spent))), (λ _. rw same_share ((h.share_fit id v at).1 live)));
          counter_fits = rw zeroth fits;
        }

  -- it drew a task
  draws_task : n < length q.tasks → Sentences q v.pieces becomes (record { words = moved_words; homes = s.homes; views = set s.views id (drawn v n) })
  draws_task lt =
      let w = drawn v n in
      drawn_rule w live refl refl refl
      (λ g.
      (let t = sum_set (numbers g) s.views id v w at in
      let o = h.each_once g in
      let m : weigh g 0 (min n (length q.tasks)) ≡ weigh g 0 n = ap (weigh g 0) (let r : min n (length q.tasks) ≡ n = omega arith in r) in
      let b : weigh g 0 (n + 1) ≡ weigh g 0 n + (g (0 + n) + 0) = weigh_split g 0 n 1 in
      let z : g (0 + n) ≡ g n = ap g (zero-add n) in
      let w' : numbers g w ≡ g n + numbers g v = refl in
      let last : total (numbers g) (set s.views id w) ≡ weigh g 0 (n + 1) = omega arith in
      last ∙ ap (weigh g 0) (let r : n + 1 ≡ min (n + 1) (length q.tasks) = omega arith in r)))
      (λ is. absurd (true≢false (sym is ∙ here)))
      (λ p. zero-add (own_puts q p v))
      (λ x. zero-add (own_adds q x v))
      (λ p has. has)
      (h.looks id v at)
      (λ t p is. first_stage t p)
      (λ i e is. fit_drawn i e is)
      (omega arith)
    where
      nobody : total (stages n) s.views ≡ 0
      nobody =
          zero_too (numbers (hit n)) (stages n) s.views (λ u. zero_too (λ (e : Progress). hit n e.task) (stage_at n) u.tasks (no_stage n))
          (h.each_once (hit n) ∙ hit_before n 0 (min n (length q.tasks)) (omega arith))

      first_stage : (t : ℕ) (p : P) → SlotIs becomes s.homes t p (total (stages t) s.views) → SlotIs becomes s.homes t p (total (stages t) (set s.views id (drawn v n)))
      first_stage t p was =
          let w = drawn v n in
          let m : total (stages t) (set s.views id w) + stages t v ≡ total (stages t) s.views + stages t w = sum_set (stages t) s.views id v w at in
          dite (ℕ_discrete n t)
          (λ e.
          let z : total (stages t) s.views ≡ 0 = subst (λ k. total (stages k) s.views ≡ 0) e nobody in
          let k : stages t w ≡ 1 + stages t v = ap (λ b. cond {A = ℕ} b 1 0 + stages t v) (eq-eqb n t e) in
          let o : total (stages t) (set s.views id w) ≡ 1 = omega arith in
          let at_zero : SlotIs becomes s.homes t p 0 = subst (λ k. SlotIs becomes s.homes t p k) z was in
          subst (λ k. SlotIs becomes s.homes t p k) (sym o) (at_zero.0, at_zero.1, at_zero.2))
          (λ ne.
          let k : stages t w ≡ 0 + stages t v = ap (λ b. cond {A = ℕ} b 1 0 + stages t v) (ne_eqb n t ne) in
          let r : total (stages t) s.views ≡ total (stages t) (set s.views id w) = omega arith in subst (λ k. SlotIs becomes s.homes t p k) r was)

      older : (i : ℕ) (e : Progress) → get_elem? v.tasks i ≡ lookup.some e → e.given ≡ true
      older zero e is = subst (λ (x : Progress). x.given ≡ true) (Rattle.amr_board.proofs.Sums.got v.tasks 0 e no_progress is) none
      older (suc i) e is = (h.tasks id v at (suc i) e is).older (omega arith)

      fit_drawn : (i : ℕ) (e : Progress) → get_elem? (drawn v n).tasks i ≡ lookup.some e → IsFit q i e
      fit_drawn zero e is = subst (IsFit q 0) (lookup.some-injective _ e is) (record { not_taken = λ _. (refl, refl, refl); given = λ x. absurd (true≢false (sym x)); older = λ x. absurd (omega arith) })
      fit_drawn (suc i) e is =
          let f = h.tasks id v at i e is in
          record { not_taken = f.not_taken; given = f.given; older = λ _. older i e is }

  -- it is past the end
  draws_none : length q.tasks ≤ n → Sentences q v.pieces becomes (record { words = moved_words; homes = s.homes; views = set s.views id (gone v) })
  draws_none le =
      let w = gone v in
      drawn_rule w live refl refl refl
      (λ g.
      (let t = sum_set (numbers g) s.views id v w at in
      let o = h.each_once g in
      let w' : numbers g w ≡ numbers g v = refl in
      let last : total (numbers g) (set s.views id w) ≡ weigh g 0 (min n (length q.tasks)) = omega arith in
      last ∙ ap (weigh g 0) (let r : min n (length q.tasks) ≡ min (n + 1) (length q.tasks) = omega arith in r)))
      (λ is. omega arith)
      (λ p. refl)
      (λ x. refl)
      (λ p has. has)
      (h.looks id v at)
      (λ t p is was. let m = sum_set (stages t) s.views id v w at in let k : stages t w ≡ stages t v = refl in let r : total (stages t) s.views ≡ total (stages t) (set s.views id w) = omega arith in subst (λ j. SlotIs becomes s.homes t p j) r was)
      (h.tasks id v at)
      (let m = sum_set past_share s.views id v w at in
      let a : past_share v ≡ 0 = ap (λ b. cond {A = ℕ} b v.share 0) here in
      let b : past_share w ≡ v.share = refl in
      let one = (h.share_fit id v at).1 live in
      let c = h.counter_fits in omega arith)

  pub either_way : Sentences q v.pieces becomes (record { words = moved_words; homes = s.homes; views = set s.views id (after_draw v n) })
  either_way =
      let F : View P → Type 0 = λ (w : View P). Sentences q v.pieces becomes (record { words = moved_words; homes = s.homes; views = set s.views id w }) in
      dite (dec_le (length q.tasks) n)
      (λ le. subst (λ b. F (cond b (drawn v n) (gone v))) (sym (le-ltb n (length q.tasks) le)) (draws_none le))
      (λ no. subst (λ b. F (cond b (drawn v n) (gone v))) (sym (lt-ltb n (length q.tasks) (lt_of_not-le no))) (draws_task (lt_of_not-le no)))

weigh_ones : (t n : ℕ) → weigh (λ _. 1) t n ≡ n
weigh_ones t zero = refl
weigh_ones t (suc n) = let r = weigh_ones (suc t) n in let x : 1 + weigh (λ _. 1) (suc t) n ≡ suc n = omega arith in x

count_ones : (es : List Progress) → total (λ (e : Progress). 1) es ≡ length es
count_ones [] = refl
count_ones (e ∷ es) = let r = count_ones es in let x : 1 + total (λ (e : Progress). 1) es ≡ suc (length es) = omega arith in x

-- no view has more tasks than there are
pub few_tasks : {P : Type 0} (plan : PlanOf) (pieces : List P) (becomes : P → P → Type 0) (s : State (Option P) (View P)) (id : ℕ) (v : View P) → Sentences plan pieces becomes s → get_elem? s.views id ≡ lookup.some v → length v.tasks ≤ length plan.tasks
few_tasks plan pieces becomes s id v h at =
    let m = member_le (numbers (λ _. 1)) s.views id v at in
    let o = h.each_once (λ _. 1) in
    let c = count_ones v.tasks in
    let w = weigh_ones 0 (min (get_or s.words 0 0) (length plan.tasks)) in omega arith
