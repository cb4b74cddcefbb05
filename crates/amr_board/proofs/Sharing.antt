-- A split and a join keep the rule.
use Rattle.std.proofs.Common.{◌≡◌, ◌≢◌, ◌⊎◌, ℕ, zero, suc, ◌+◌, ◌-◌, ◌/◌, ◌<◌, ◌≤◌, cond, Bool, true, false, true≢false, List, [], ◌∷◌, ◌++◌, length, get_or, set, refl, sym, ◌∙◌, subst, ⊎_elim, inl, inr, arith}
use Rattle.std.specs.Prelude.{Contains}
use mathlib.Core.Option as lookup
use lib.ListN.{get_elem?}
use Rattle.atomic_table.specs.Table.{Splits, Joins, rest}
use Rattle.atomic_table.proofs.Lists.{at_set, at_snoc}
use Rattle.amr_phase.specs.Plans.{total, planned_face}
use Rattle.amr_board.specs.declared.view.Progress.{Progress}
use Rattle.amr_board.specs.declared.view.View.{View}
use Rattle.amr_board.specs.Views.{no_progress, keeps_half, other_half, joined, spent_view, HoldsNone}
use Rattle.amr_board.specs.Rule.{Sentences, IsFit, stage_at, past_share, done_adds, done_puts, SlotIs}
use Rattle.amr_board.proofs.Sums.{sum_set, each_set}
use Rattle.std.proofs.lemmas.List.Elements.{Contains-append_cases}

pub sum_append : {X : Type 0} (f : X → ℕ) (xs ys : List X) → total f (xs ++ ys) ≡ total f xs + total f ys
sum_append f [] ys = omega arith
sum_append f (x ∷ xs) ys = let h = sum_append f xs ys in let r : f x + total f (xs ++ ys) ≡ (f x + total f xs) + total f ys = omega arith in r

pub none_known : (p : ℕ) → Contains [] p → ⊥
none_known p h = let lt : h.0 < 0 = h.1 in omega arith

each_more : {X : Type 0} (Q : X → Type 0) (vs : List X) (w : X) → ((k : ℕ) (u : X) → get_elem? vs k ≡ lookup.some u → Q u) → Q w → (k : ℕ) (u : X) → get_elem? (vs ++ w ∷ []) k ≡ lookup.some u → Q u
each_more Q vs w all mine k u e = ⊎_elim (λ was. all k u was) (λ (same : w ≡ u). subst Q same mine) (at_snoc vs w u k e)

pub at_append : {X : Type 0} (xs ys : List X) (i : ℕ) (x : X) → get_elem? (xs ++ ys) i ≡ lookup.some x → (get_elem? xs i ≡ lookup.some x) ⊎ ((j : ℕ) × (i ≡ length xs + j) × (get_elem? ys j ≡ lookup.some x))
at_append [] ys i x e = inr (i, (let r : i ≡ 0 + i = omega arith in r), e)
at_append (y ∷ xs) ys zero x e = inl e
at_append (y ∷ xs) ys (suc i) x e = ⊎_elim (λ l. inl l) (λ r. inr (r.0, (let k = r.1 in let z : suc i ≡ suc (length xs) + r.0 = omega arith in z), r.2)) (at_append xs ys i x e)

pub no_entry : {X : Type 0} (i : ℕ) (x : X) → get_elem? [] i ≡ lookup.some x → ⊥
no_entry i x e = lookup.some-ne-none x (sym e)

module _ {P : Type 0} (becomes : P → P → Type 0) where
  pub splits_here : (id : ℕ) (v : View P) → v.spent ≡ false → 2 ≤ v.share → Splits (Sentences v.plan v.pieces becomes) id v (keeps_half v) (other_half v)
  splits_here id v live two s h at =
      let q = v.plan in
      let vs = s.views in
      let l = keeps_half v in
      let r = other_half v in
      let sums : (f : View P → ℕ) → f l + f r ≡ f v → total f (set vs id l ++ r ∷ []) ≡ total f vs
      = λ f parts. (
      let a : total f (set vs id l ++ r ∷ []) ≡ total f (set vs id l) + (f r + 0) = sum_append f (set vs id l) (r ∷ []) in
      let b = sum_set f vs id v l at in omega arith
      ) in
      let same : (g : Progress → ℕ) → total (λ (u : View P). total g u.tasks) (set vs id l ++ r ∷ []) ≡ total (λ (u : View P). total g u.tasks) vs
      = λ g. sums (λ (u : View P). total g u.tasks) (let z : total g v.tasks + 0 ≡ total g v.tasks = omega arith in z) in
      let halves : past_share l + past_share r ≡ past_share v = elim (v.past) as (λ b. cond {A = ℕ} b (v.share / 2) 0 + cond {A = ℕ} b (v.share - v.share / 2) 0 ≡ cond {A = ℕ} b v.share 0) [ true ↦ halves_add v.share | false ↦ refl ] in
      record {
        is_plan = h.is_plan;
        sized = h.sized;
        task_count = h.task_count;
        few = h.few;
        same_plan = each_more (λ (u : View P). u.spent ≡ false → (u.plan ≡ q) × (u.pieces ≡ v.pieces)) (set vs id l) r (each_set (λ (u : View P). u.spent ≡ false → (u.plan ≡ q) × (u.pieces ≡ v.pieces)) vs id l h.same_plan (λ _. (refl, refl))) (λ _. (refl, refl));
        each_once = λ g. same (λ (e : Progress). g e.task) ∙ h.each_once g;
        past = each_more (λ (u : View P). u.past ≡ true → length q.tasks ≤ get_or s.words 0 0) (set vs id l) r (each_set (λ (u : View P). u.past ≡ true → length q.tasks ≤ get_or s.words 0 0) vs id l h.past (h.past id v at)) (h.past id v at);
        faces = λ p lt. h.faces p lt ∙ sym (same (done_puts q p));
        registers = λ x lt. h.registers x lt ∙ sym (same (done_adds q x));
        known = λ k u p e has.
            (let Q : View P → Type 0 = λ (y : View P). Contains y.known p → (p < q.places) × (0 < get_or s.words (1 + p) 0) in
            each_more Q (set vs id l) r (each_set Q vs id l (λ j y e'. h.known j y p e') (h.known id v p at)) (h.known id v p at) k u e has);
        looks = each_more (λ (u : View P). (u.look.found ≡ 0) ⊎ (u.look.found ≡ planned_face q u.look.place)) (set vs id l) r
            (each_set (λ (u : View P). (u.look.found ≡ 0) ⊎ (u.look.found ≡ planned_face q u.look.place)) vs id l h.looks (h.looks id v at)) (inl refl);
        slots = λ t p is. subst (λ n. SlotIs becomes s.homes t p n) (sym (same (stage_at t))) (h.slots t p is);
        tasks = each_more (λ (u : View P). (i : ℕ) (e : Progress) → get_elem? u.tasks i ≡ lookup.some e → IsFit q i e) (set vs id l) r
            (each_set (λ (u : View P). (i : ℕ) (e : Progress) → get_elem? u.tasks i ≡ lookup.some e → IsFit q i e) vs id l h.tasks (h.tasks id v at)) (λ i e is. absurd (no_entry i e is));
        shares = sums (λ (u : View P). u.share) (halves_add v.share) ∙ h.shares;
        share_fit = each_more (λ (u : View P). (u.spent ≡ true → (u.share ≡ 0) × (u.tasks ≡ [])) × (u.spent ≡ false → 1 ≤ u.share)) (set vs id l) r
            (each_set (λ (u : View P). (u.spent ≡ true → (u.share ≡ 0) × (u.tasks ≡ [])) × (u.spent ≡ false → 1 ≤ u.share)) vs id l h.share_fit
            ((λ is. absurd (true≢false (sym is ∙ live))), (λ _. omega arith)))
            ((λ is. absurd (true≢false (sym is ∙ live))), (λ _. omega arith));
        counter_fits = rw (sums past_share halves) h.counter_fits;
      }
    where
      halves_add : (n : ℕ) → n / 2 + (n - n / 2) ≡ n
      halves_add n = omega arith

  pub joins_here : (id other : ℕ) (v w : View P) → v.spent ≡ false → w.spent ≡ false → HoldsNone w → Joins (Sentences v.plan v.pieces becomes) id v other w (joined v w) spent_view
  joins_here id other v w live live' none s h at apart there =
      let q = v.plan in
      let vs = s.views in
      let b = joined v w in
      let vs1 = set vs id b in
      let at_other : get_elem? vs other ≡ lookup.some w = ⊎_elim (λ (t : (other ≡ id) × (b ≡ w)). absurd (apart t.0)) (λ (t : (other ≢ id) × (get_elem? vs other ≡ lookup.some w)). t.1) (at_set vs id other b w there) in
      let moved : (f : View P → ℕ) → total f (set vs1 other spent_view) + (f v + f w) ≡ total f vs + (f b + f spent_view)
      = λ f. (let x = sum_set f vs id v b at in let y = sum_set f vs1 other w spent_view there in omega arith) in
      let same : (g : Progress → ℕ) → total (λ (u : View P). total g u.tasks) (set vs1 other spent_view) ≡ total (λ (u : View P). total g u.tasks) vs
      = λ g. (let m = moved (λ (u : View P). total g u.tasks) in let a = sum_append g v.tasks w.tasks in let z : total g (spent_view {P = P}).tasks ≡ 0 = refl in omega arith) in
      let both : (Q : View P → Type 0) → ((k : ℕ) (u : View P) → get_elem? vs k ≡ lookup.some u → Q u) → Q b → Q spent_view → (k : ℕ) (u : View P) → get_elem? (set vs1 other spent_view) k ≡ lookup.some u → Q u
      = λ Q all mine spent. each_set Q vs1 other spent_view (each_set Q vs id b all mine) spent in
      let one = (h.share_fit id v at).1 live in
      record {
        is_plan = h.is_plan;
        sized = h.sized;
        task_count = h.task_count;
        few = h.few;
        same_plan = both (λ (u : View P). u.spent ≡ false → (u.plan ≡ q) × (u.pieces ≡ v.pieces)) h.same_plan (λ _. (refl, refl)) (λ e. absurd (true≢false e));
        each_once = λ g. same (λ (e : Progress). g e.task) ∙ h.each_once g;
        past = both (λ (u : View P). u.past ≡ true → length q.tasks ≤ get_or s.words 0 0) h.past (joined_past (get_or s.words 0 0) v.past w.past (h.past id v at) (h.past other w at_other)) (λ e. absurd (true≢false (sym e)));
        faces = λ p lt. h.faces p lt ∙ sym (same (done_puts q p));
        registers = λ x lt. h.registers x lt ∙ sym (same (done_adds q x));
        known = λ k u p e has.
            both (λ (y : View P). Contains y.known p → (p < q.places) × (0 < get_or s.words (1 + p) 0)) (λ j y e'. h.known j y p e')
            (λ has'. ⊎_elim (λ l. h.known id v p at l) (λ r. h.known other w p at_other r) (Contains-append_cases v.known w.known p has')) (λ has'. absurd (none_known p has')) k u e has;
        looks = both (λ (u : View P). (u.look.found ≡ 0) ⊎ (u.look.found ≡ planned_face q u.look.place)) h.looks (h.looks id v at) (inl refl);
        slots = λ t p is. subst (λ n. SlotIs becomes s.homes t p n) (sym (same (stage_at t))) (h.slots t p is);
        tasks = both (λ (u : View P). (i : ℕ) (e : Progress) → get_elem? u.tasks i ≡ lookup.some e → IsFit q i e) h.tasks
            (λ i e is. ⊎_elim (λ l. h.tasks id v at i e l)
            (λ r. (let f = h.tasks other w at_other r.0 e r.2 in record { not_taken = f.not_taken; given = f.given; older = λ _. all_given r.0 e (λ j x at' pos. (h.tasks other w at_other j x at').older pos) r.2 }))
            (at_append v.tasks w.tasks i e is))
            (λ i e is. absurd (no_entry i e is));
        shares = (let m = moved (λ (u : View P). u.share) in let z : (spent_view {P = P}).share ≡ 0 = refl in let k : b.share ≡ v.share + w.share = refl in omega arith) ∙ h.shares;
        share_fit = both (λ (u : View P). (u.spent ≡ true → (u.share ≡ 0) × (u.tasks ≡ [])) × (u.spent ≡ false → 1 ≤ u.share)) h.share_fit
            ((λ is. absurd (true≢false (sym is ∙ live))), (λ _. (let r : 1 ≤ v.share + w.share = omega arith in r))) ((λ _. (refl, refl)), (λ e. absurd (true≢false e)));
        counter_fits = (
            let m = moved past_share in let z : past_share (spent_view {P = P}) ≡ 0 = refl in
            let more = joined_share v.past w.past v.share w.share in
            let m' : past_share v + past_share w ≤ past_share b = more in
            let c = h.counter_fits in omega arith
            );
      }
    where
      all_given : (i : ℕ) (e : Progress) → ((j : ℕ) (x : Progress) → get_elem? w.tasks j ≡ lookup.some x → 0 < j → x.given ≡ true) → get_elem? w.tasks i ≡ lookup.some e → e.given ≡ true
      all_given zero e rest is = subst (λ (x : Progress). x.given ≡ true) (Rattle.amr_board.proofs.Sums.got w.tasks 0 e no_progress is) none
      all_given (suc i) e rest is = rest (suc i) e is (omega arith)

      joined_past : (n : ℕ) (a c : Bool) → (a ≡ true → length v.plan.tasks ≤ n) → (c ≡ true → length v.plan.tasks ≤ n) → cond a true c ≡ true → length v.plan.tasks ≤ n
      joined_past n true c f g e = f refl
      joined_past n false c f g e = g e

      joined_share : (a c : Bool) (x y : ℕ) → cond a x 0 + cond c y 0 ≤ cond (cond a true c) (x + y) 0
      joined_share true true x y = omega arith
      joined_share true false x y = omega arith
      joined_share false true x y = omega arith
      joined_share false false x y = omega arith
