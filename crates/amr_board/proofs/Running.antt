-- The events of a running board, step by step.
use Rattle.std.proofs.Common.{◌≡◌, ◌≢◌, ◌⊎◌, ℕ, zero, suc, ◌+◌, ◌<◌, ◌≤◌, ◌==◌, cond, true, false, true≢false, List, [], ◌∷◌, ◌++◌, length, get_or, set, replicate, Some, None, refl, sym, ap, ◌∙◌, subst, ⊎_elim, inl, inr, arith, eq-eqb, ne_eqb}
use Rattle.std.specs.Prelude.{Option, All, unwrap_or, slice_index_or, map}
use mathlib.Core.Option as lookup
use lib.ListN.{get_elem?}
use Rattle.std.proofs.Math.ListN.{length-set, length-replicate}
use Rattle.std.proofs.lemmas.List.{get_or-replicate}
use Rattle.atomic_table.specs.Table.{State, opening}
use Rattle.atomic_table.proofs.Lists.{at_set}
use Rattle.amr_phase.specs.declared.machine.Stage.TheVariants.{Waiting, Drawn, Held, Given}
use Rattle.amr_phase.specs.declared.machine.Event.{Event}
use Rattle.amr_phase.specs.Plans.{PlanOf, IsPlan, total}
use Rattle.amr_phase.specs.Machine.{CoreOf, fresh, after, next_of, stage_of, word_of}
use Rattle.amr_phase.specs.Laws.{IsConsistent}
use Rattle.amr_phase.proofs.Consistent.{keeps_after, keeps_fresh}
use Rattle.amr_board.specs.declared.view.Deed.{Deed}
use Rattle.amr_board.specs.declared.view.Deed.TheVariants.{Draw, Take, Put, Add, Face, Give}
use Rattle.amr_board.specs.declared.view.Progress.{Progress}
use Rattle.amr_board.specs.declared.view.View.{View}
use Rattle.amr_board.specs.Views.{HasDone, first_view, keeps_half, other_half, joined, spent_view}
use Rattle.amr_board.specs.Core.{IsCore, IsCoreOf, Shows, AllEnabled, event_of, worker_of, deed_of, deeds_by, stage_shown}
use Rattle.amr_board.proofs.Sums.{sum_set, in_range_at}
use Rattle.amr_board.proofs.Sharing.{sum_append, at_append, no_entry}
use Rattle.amr_board.proofs.Workers.{past_stays}

-- One more event
pub after_snoc : (c : CoreOf) (es : List Event) (e : Event) → after c (es ++ e ∷ []) ≡ unwrap_or (next_of (after c es) e) (after c es)
after_snoc c [] e = refl
after_snoc c (x ∷ es) e = after_snoc (unwrap_or (next_of c x) c) es e

enabled_snoc : (c : CoreOf) (es : List Event) (e : Event) (d : CoreOf) → AllEnabled c es → next_of (after c es) e ≡ Some d → AllEnabled c (es ++ e ∷ [])
enabled_snoc c [] e d all is = (d, is, tt)
enabled_snoc c (x ∷ es) e d all is =
    let to : unwrap_or (next_of c x) c ≡ all.0 = ap (λ (o : Option CoreOf). unwrap_or o c) all.1 in
    (all.0, all.1, enabled_snoc all.0 es e d all.2 (ap (λ y. next_of (after y es) e) (sym to) ∙ is))

worker_is : (k : ℕ) (d : Deed) → worker_of (event_of k d) ≡ k
worker_is k Draw = refl
worker_is k Take = refl
worker_is k Put = refl
worker_is k Add = refl
worker_is k (Face p) = refl
worker_is k Give = refl

deed_is : (k : ℕ) (d : Deed) → deed_of (event_of k d) ≡ d
deed_is k Draw = refl
deed_is k Take = refl
deed_is k Put = refl
deed_is k Add = refl
deed_is k (Face p) = refl
deed_is k Give = refl

deeds_snoc : (k : ℕ) (es : List Event) (e : Event) → deeds_by k (es ++ e ∷ []) ≡ deeds_by k es ++ cond (worker_of e == k) (deed_of e ∷ []) []
deeds_snoc k [] e = refl
deeds_snoc k (x ∷ es) e =
    let h = deeds_snoc k es e in
    elim (worker_of x == k) as (λ b. cond b (deed_of x ∷ deeds_by k (es ++ e ∷ [])) (deeds_by k (es ++ e ∷ [])) ≡ cond b (deed_of x ∷ deeds_by k es) (deeds_by k es) ++ cond (worker_of e == k) (deed_of e ∷ []) []) [
      | true ↦ ap (λ l. deed_of x ∷ l) h
      | false ↦ h
    ]

no_more : {X : Type 0} (xs : List X) → xs ++ [] ≡ xs
no_more [] = refl
no_more (x ∷ xs) = ap (λ l. x ∷ l) (no_more xs)

module _ {X : Type 0} (Q : X → Type 0) where
  all_none : All Q []
  all_none k d lt = absurd (omega arith)

  all_head : (x : X) (xs : List X) → All Q (x ∷ xs) → Q x
  all_head x xs all = all 0 x (let r : 0 < suc (length xs) = omega arith in r)

  all_tail : (x : X) (xs : List X) → All Q (x ∷ xs) → All Q xs
  all_tail x xs all k d lt = all (suc k) d (let r : suc k < suc (length xs) = omega arith in r)

  all_cons : (x : X) (xs : List X) → Q x → All Q xs → All Q (x ∷ xs)
  all_cons x xs here all zero d lt = here
  all_cons x xs here all (suc k) d lt = all k d (let r : suc k < suc (length xs) = lt in omega arith)

  all_snoc : (xs : List X) (x : X) → All Q xs → Q x → All Q (xs ++ x ∷ [])
  all_snoc [] x all here = all_cons x [] here all_none
  all_snoc (y ∷ xs) x all here = all_cons y (xs ++ x ∷ []) (all_head y xs all) (all_snoc xs x (all_tail y xs all) here)

-- a worker of none of the events did nothing
deeds_none : (k : ℕ) (es : List Event) → All (λ e. worker_of e < k) es → deeds_by k es ≡ []
deeds_none k [] all = refl
deeds_none k (e ∷ es) all =
    ap (λ b. cond b (deed_of e ∷ deeds_by k es) (deeds_by k es)) (ne_eqb (worker_of e) k (λ same. absurd (let lt = all_head (λ (x : Event). worker_of x < k) e es all in omega arith)))
    ∙ deeds_none k es (all_tail (λ (x : Event). worker_of x < k) e es all)

fewer : (m n : ℕ) (es : List Event) → m ≤ n → All (λ e. worker_of e < m) es → All (λ e. worker_of e < n) es
fewer m n es le all k d lt = (let h = all k d lt in omega arith)

length_snoc : {X : Type 0} (xs : List X) (x : X) → length (xs ++ x ∷ []) ≡ length xs + 1
length_snoc [] x = refl
length_snoc (y ∷ ys) x = let h = length_snoc ys x in let r : suc (length (ys ++ x ∷ [])) ≡ suc (length ys) + 1 = omega arith in r

pub consistent : (plan : PlanOf) (ok : IsPlan plan) (n : ℕ) (es : List Event) → IsConsistent (after (fresh plan n) es)
consistent plan ok n es = keeps_after (fresh plan n) (keeps_fresh plan n ok) es

module _ {P : Type 0} (plan : PlanOf) (ok : IsPlan plan) where
  module _ (s : State (Option P) (View P)) (es : List Event) (core : IsCoreOf plan s es) where
    -- a deed of one seat is one event more
    pub core_steps : (id : ℕ) (v w : View P) (deed : Deed) (words : List ℕ) (homes : List (lookup.Option (Option P))) → get_elem? s.views id ≡ lookup.some v → v.spent ≡ false → HasDone deed v w
        → ((c : CoreOf) → IsConsistent c → Shows plan s c → (d : CoreOf) × (next_of c (event_of id deed) ≡ Some d) × Shows plan (record { words = words; homes = homes; views = set s.views id w }) d)
        → IsCoreOf plan (record { words = words; homes = homes; views = set s.views id w }) (es ++ event_of id deed ∷ [])
    core_steps id v w deed words homes at live done event =
        let e = event_of id deed in
        let s' : State (Option P) (View P) = record { words = words; homes = homes; views = set s.views id w } in
        let count_views = length-set s.views id w in
        let step : (n : ℕ) → length (set s.views id w) ≤ n → (d : CoreOf) × (next_of (after (fresh plan n) es) e ≡ Some d) × Shows plan s' d
        = λ n le. event (after (fresh plan n) es) (consistent plan ok n es) (core.shown n (omega arith)) in
        record {
          enabled = λ n le. (let x = step n le in enabled_snoc (fresh plan n) es e x.0 (core.enabled n (omega arith)) x.1);
          shown = λ n le. (let x = step n le in
              subst (Shows plan s') (sym (after_snoc (fresh plan n) es e ∙ ap (λ (o : Option CoreOf). unwrap_or o (after (fresh plan n) es)) x.1)) x.2);
          own = λ k u is unspent. deeds_snoc k es e ∙ ⊎_elim
              (λ (t : (k ≡ id) × (w ≡ u)).
              ap (λ b. deeds_by k es ++ cond b (deed_of e ∷ []) []) (eq-eqb (worker_of e) k (worker_is id deed ∙ sym t.0))
              ∙ (ap (λ j. deeds_by j es ++ deed_of e ∷ []) t.0
              ∙ (ap (λ l. l ++ deed_of e ∷ []) (core.own id v at live)
              ∙ (ap (λ d. v.deeds ++ d ∷ []) (deed_is id deed) ∙ (sym done.0 ∙ ap (λ (y : View P). y.deeds) t.1)))))
              (λ (t : (k ≢ id) × (get_elem? s.views k ≡ lookup.some u)).
              ap (λ b. deeds_by k es ++ cond b (deed_of e ∷ []) []) (ne_eqb (worker_of e) k (λ same. t.0 (sym same ∙ worker_is id deed)))
              ∙ (no_more (deeds_by k es) ∙ core.own k u t.1 unspent))
              (at_set s.views id k w u is);
          by_seats = subst (λ n. All (λ x. worker_of x < n) (es ++ e ∷ [])) (sym count_views)
              (all_snoc (λ (x : Event). worker_of x < length s.views) es e core.by_seats (subst (λ k. k < length s.views) (sym (worker_is id deed)) (in_range_at s.views id v at)));
          count = (let m = sum_set (λ (u : View P). u.made) s.views id v w at in let a = core.count in let b = length_snoc es e in let k = done.1 in omega arith);
        }

    -- a split brings a worker into use, with no event
    pub core_splits : (id : ℕ) (v : View P) → get_elem? s.views id ≡ lookup.some v → v.spent ≡ false → IsCoreOf plan (record { words = s.words; homes = s.homes; views = set s.views id (keeps_half v) ++ other_half v ∷ [] }) es
    core_splits id v at live =
        let l = keeps_half v in
        let r = other_half v in
        let vs = set s.views id l in
        let s' : State (Option P) (View P) = record { words = s.words; homes = s.homes; views = vs ++ r ∷ [] } in
        let count_views : length (vs ++ r ∷ []) ≡ length s.views + 1 = length_snoc vs r ∙ ap (λ n. n + 1) (length-set s.views id l) in
        let in_vs = length-set s.views id l in
        -- a view of the new state is the new seat's, the seat's or an old one
        let which : (k : ℕ) (u : View P) → get_elem? (vs ++ r ∷ []) k ≡ lookup.some u → ((k ≡ length s.views) × (r ≡ u)) ⊎ (((k ≡ id) × (l ≡ u)) ⊎ (get_elem? s.views k ≡ lookup.some u))
        = λ k u is. ⊎_elim
        (λ (j : get_elem? vs k ≡ lookup.some u). inr (⊎_elim (λ (t : (k ≡ id) × (l ≡ u)). inl t) (λ (t : (k ≢ id) × (get_elem? s.views k ≡ lookup.some u)). inr t.1) (at_set s.views id k l u j)))
        (λ (t : (r ≡ u) × (k ≡ length vs)). inl (t.1 ∙ in_vs, t.0))
        (last_or vs r u k is) in
        record {
          enabled = λ n le. core.enabled n (omega arith);
          shown = λ n le. (let old = core.shown n (omega arith) in
              record {
                plan_is = old.plan_is;
                counter = old.counter;
                faces = old.faces;
                words = old.words;
                waiting = old.waiting;
                noted = λ k u is i e in_u. ⊎_elim
                    (λ (t : (k ≡ length s.views) × (r ≡ u)). absurd (no_entry i e (ap (λ (y : View P). get_elem? y.tasks i) t.1 ∙ in_u)))
                    (λ x. ⊎_elim
                    (λ (t : (k ≡ id) × (l ≡ u)).
                    subst (λ j. stage_of (after (fresh plan n) es) e.task ≡ stage_shown j e) (sym t.0) (old.noted id v at i e (ap (λ (y : View P). get_elem? y.tasks i) t.1 ∙ in_u)))
                    (λ (t : get_elem? s.views k ≡ lookup.some u). old.noted k u t i e in_u)
                    x)
                    (which k u is);
                past = λ k u is unspent drew. ⊎_elim
                    (λ (t : (k ≡ length s.views) × (r ≡ u)). absurd (true≢false (sym drew ∙ old.idle k (let same = t.0 in omega arith))))
                    (λ x. ⊎_elim
                    (λ (t : (k ≡ id) × (l ≡ u)). ap (λ (y : View P). y.past) (sym t.1) ∙ old.past id v at live (subst (λ j. slice_index_or (after (fresh plan n) es).past j false ≡ true) t.0 drew))
                    (λ (t : get_elem? s.views k ≡ lookup.some u). old.past k u t unspent drew)
                    x)
                    (which k u is);
                idle = λ k more. old.idle k (omega arith);
                enough = (let j = consistent_past n in omega arith);
              });
          own = λ k u is unspent. ⊎_elim
              (λ (t : (k ≡ length s.views) × (r ≡ u)).
              ap (λ j. deeds_by j es) t.0 ∙ (deeds_none (length s.views) es core.by_seats ∙ ap (λ (y : View P). y.deeds) t.1))
              (λ x. ⊎_elim
              (λ (t : (k ≡ id) × (l ≡ u)). ap (λ j. deeds_by j es) t.0 ∙ (core.own id v at live ∙ ap (λ (y : View P). y.deeds) t.1))
              (λ (t : get_elem? s.views k ≡ lookup.some u). core.own k u t unspent)
              x)
              (which k u is);
          by_seats = fewer (length s.views) (length (vs ++ r ∷ [])) es (omega arith) core.by_seats;
          count = (let a : total (λ (u : View P). u.made) (vs ++ r ∷ []) ≡ total (λ (u : View P). u.made) vs + (r.made + 0) = sum_append (λ (u : View P). u.made) vs (r ∷ []) in
              let b = sum_set (λ (u : View P). u.made) s.views id v l at in let m : l.made ≡ v.made = refl in let z : r.made ≡ 0 = refl in let e = core.count in omega arith);
        }
      where
        -- a state has as many workers as the machine began with
        consistent_past : (n : ℕ) → length (after (fresh plan n) es).past ≡ n
        consistent_past n = past_stays (fresh plan n) es ∙ length-replicate n false

        last_or : (xs : List (View P)) (x u : View P) (k : ℕ) → get_elem? (xs ++ x ∷ []) k ≡ lookup.some u → (get_elem? xs k ≡ lookup.some u) ⊎ ((x ≡ u) × (k ≡ length xs))
        last_or [] x u zero e = inr (lookup.some-injective x u e, refl)
        last_or [] x u (suc k) e = absurd (lookup.some-ne-none u (sym e))
        last_or (y ∷ xs) x u zero e = inl e
        last_or (y ∷ xs) x u (suc k) e = ⊎_elim (λ j. inl j) (λ (t : (x ≡ u) × (k ≡ length xs)). inr (t.0, ap suc t.1)) (last_or xs x u k e)

    -- a join lets a worker go idle, with no event
    pub core_joins : (id other : ℕ) (v w : View P) → get_elem? s.views id ≡ lookup.some v → get_elem? s.views other ≡ lookup.some w → other ≢ id → v.spent ≡ false → w.spent ≡ false
        → get_elem? (set s.views id (joined v w)) other ≡ lookup.some w
        → ((i : ℕ) (e : Progress) → get_elem? w.tasks i ≡ lookup.some e → e.given ≡ true)
        → IsCoreOf plan (record { words = s.words; homes = s.homes; views = set (set s.views id (joined v w)) other spent_view }) es
    core_joins id other v w at at_other apart live live' there all_given =
        let b = joined v w in
        let vs = set s.views id b in
        let vs' = set vs other (spent_view {P = P}) in
        let count_views : length vs' ≡ length s.views = length-set vs other (spent_view {P = P}) ∙ length-set s.views id b in
        let which : (k : ℕ) (u : View P) → get_elem? vs' k ≡ lookup.some u → ((k ≡ other) × (spent_view ≡ u)) ⊎ (((k ≡ id) × (b ≡ u)) ⊎ (get_elem? s.views k ≡ lookup.some u))
        = λ k u is. ⊎_elim
        (λ (t : (k ≡ other) × (spent_view ≡ u)). inl t)
        (λ (t : (k ≢ other) × (get_elem? vs k ≡ lookup.some u)). inr (⊎_elim (λ (x : (k ≡ id) × (b ≡ u)). inl x) (λ (x : (k ≢ id) × (get_elem? s.views k ≡ lookup.some u)). inr x.1) (at_set s.views id k b u t.1)))
        (at_set vs other k spent_view u is) in
        record {
          enabled = λ n le. core.enabled n (omega arith);
          shown = λ n le. (let old = core.shown n (omega arith) in
              record {
                plan_is = old.plan_is;
                counter = old.counter;
                faces = old.faces;
                words = old.words;
                waiting = old.waiting;
                noted = λ k u is i e in_u. ⊎_elim
                    (λ (t : (k ≡ other) × (spent_view ≡ u)). absurd (no_entry i e (ap (λ (y : View P). get_elem? y.tasks i) t.1 ∙ in_u)))
                    (λ x. ⊎_elim
                    (λ (t : (k ≡ id) × (b ≡ u)).
                    subst (λ j. stage_of (after (fresh plan n) es) e.task ≡ stage_shown j e) (sym t.0)
                    (⊎_elim
                    (λ (in_v : get_elem? v.tasks i ≡ lookup.some e). old.noted id v at i e in_v)
                    (λ (in_w : (j : ℕ) × (i ≡ length v.tasks + j) × (get_elem? w.tasks j ≡ lookup.some e)).
                    old.noted other w at_other in_w.0 e in_w.2 ∙ by_any id other e (all_given in_w.0 e in_w.2))
                    (at_append v.tasks w.tasks i e (ap (λ (y : View P). get_elem? y.tasks i) t.1 ∙ in_u))))
                    (λ (t : get_elem? s.views k ≡ lookup.some u). old.noted k u t i e in_u)
                    x)
                    (which k u is);
                past = λ k u is unspent drew. ⊎_elim
                    (λ (t : (k ≡ other) × (spent_view ≡ u)). absurd (true≢false (ap (λ (y : View P). y.spent) t.1 ∙ unspent)))
                    (λ x. ⊎_elim
                    (λ (t : (k ≡ id) × (b ≡ u)).
                    ap (λ (y : View P). y.past) (sym t.1)
                    ∙ ap (λ c. cond c true w.past) (old.past id v at live (subst (λ j. slice_index_or (after (fresh plan n) es).past j false ≡ true) t.0 drew)))
                    (λ (t : get_elem? s.views k ≡ lookup.some u). old.past k u t unspent drew)
                    x)
                    (which k u is);
                idle = λ k more. old.idle k (omega arith);
                enough = (let e = old.enough in omega arith);
              });
          own = λ k u is unspent. ⊎_elim
              (λ (t : (k ≡ other) × (spent_view ≡ u)). absurd (true≢false (ap (λ (y : View P). y.spent) t.1 ∙ unspent)))
              (λ x. ⊎_elim
              (λ (t : (k ≡ id) × (b ≡ u)). ap (λ j. deeds_by j es) t.0 ∙ (core.own id v at live ∙ ap (λ (y : View P). y.deeds) t.1))
              (λ (t : get_elem? s.views k ≡ lookup.some u). core.own k u t unspent)
              x)
              (which k u is);
          by_seats = subst (λ n. All (λ x. worker_of x < n) es) (sym count_views) core.by_seats;
          count = (let x = sum_set (λ (u : View P). u.made) s.views id v b at in let y = sum_set (λ (u : View P). u.made) vs other w spent_view there in
              let m : b.made ≡ v.made + w.made = refl in let z : (spent_view {P = P}).made ≡ 0 = refl in let e = core.count in omega arith);
        }
      where
        by_any : (k j : ℕ) (e : Progress) → e.given ≡ true → stage_shown j e ≡ stage_shown k e
        by_any k j e g = ap (λ c. cond c Given (cond e.taken (Held j e.puts e.adds) (Drawn j))) g ∙ sym (ap (λ c. cond c Given (cond e.taken (Held k e.puts e.adds) (Drawn k))) g)

  -- a new board is the machine at its start
  pub core_opens : (pieces : List P) (ws : List ℕ) → ((i : ℕ) → get_or ws i 0 ≡ 0) → IsCore plan (opening ws (map Some pieces) (first_view plan pieces))
  core_opens pieces ws empty =
      let v : View P = first_view plan pieces in
      let only : (k : ℕ) (u : View P) → get_elem? (v ∷ []) k ≡ lookup.some u → v ≡ u = λ k u is. one_of k u is in
      record {
        events = [];
        is_core = record {
          enabled = λ n le. tt;
          shown = λ n le. record {
            plan_is = refl;
            counter = sym (empty 0);
            faces = λ p lt. ap word_of (get_or-replicate plan.places p None None lt) ∙ sym (empty (1 + p));
            words = λ x lt. get_or-replicate plan.words x 0 0 lt ∙ sym (empty (1 + plan.places + x));
            waiting = λ t le' lt. get_or-replicate (length plan.tasks) t Waiting Given (let k = length-replicate (length plan.tasks) Waiting in omega arith);
            noted = λ k u is i e in_u. absurd (no_entry i e (ap (λ (y : View P). get_elem? y.tasks i) (only k u is) ∙ in_u));
            past = λ k u is unspent drew. absurd (true≢false (sym drew ∙ nobody n k));
            idle = λ k more. nobody n k;
            enough = (let k = length-replicate n false in omega arith);
          };
          own = λ k u is unspent. ap (λ (y : View P). y.deeds) (only k u is);
          by_seats = all_none (λ (x : Event). worker_of x < 1);
          count = refl;
        };
      }
    where
      one_of : (k : ℕ) (u : View P) → get_elem? (first_view plan pieces ∷ []) k ≡ lookup.some u → first_view plan pieces ≡ u
      one_of zero u e = lookup.some-injective (first_view plan pieces) u e
      one_of (suc k) u e = absurd (lookup.some-ne-none u (sym e))

      nobody : (n k : ℕ) → slice_index_or (replicate n false) k false ≡ false
      nobody zero k = refl
      nobody (suc n) zero = refl
      nobody (suc n) (suc k) = nobody n k
