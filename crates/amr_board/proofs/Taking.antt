-- A take and a give keep the sentences.
use Rattle.std.proofs.Common.{◌≡◌, ◌≢◌, ℕ, ◌+◌, ◌<◌, cond, false, length, get_or, set, take, refl, sym, ap, ◌∙◌, subst, arith, eq-eqb, ne_eqb}
use Rattle.std.specs.Prelude.{Contains, Option}
use mathlib.Core.Option as lookup
use mathlib.Core.Logic.{dite}
use native.Mathlib.Decide.{ℕ_discrete}
use lib.ListN.{get_elem?}
use Rattle.atomic_table.specs.Table.{State}
use Rattle.atomic_table.proofs.Lists.{set_here, set_else}
use Rattle.amr_phase.specs.Plans.{stored, added, total, puts_of, adds_of}
use Rattle.amr_board.specs.declared.view.Progress.{Progress}
use Rattle.amr_board.specs.declared.view.View.{View}
use Rattle.amr_board.specs.Views.{current, did, with_current}
use Rattle.amr_board.specs.Rule.{Sentences, IsFit, stage, stage_at, stages, done_adds, done_puts, IsHome, SlotIs}
use Rattle.amr_board.proofs.Sums.{sum_set, each_set, in_range_at}
use Rattle.amr_board.proofs.Keeping.{stage_alone, kept, sum_current, same_current, fit_current}
use Rattle.amr_board.specs.declared.view.Deed.{Deed}

-- of the stages at one number, all but the current task's
module _ {P : Type 0} (v : View P) (e : Progress) (held : 0 < length v.tasks) (same : e.task ≡ (current v).task) where
  stages_else : (t : ℕ) → t ≢ (current v).task → stages t (with_current v e) ≡ stages t v
  stages_else t ne = same_current v e held (stage_at t) (ap (λ b. cond {A = ℕ} b (stage e) 0) (ne_eqb e.task t (λ x. ne (sym x ∙ same))) ∙ sym (ap (λ b. cond {A = ℕ} b (stage (current v)) 0) (ne_eqb (current v).task t (λ x. ne (sym x)))))

module _ {P : Type 0} (becomes : P → P → Type 0) (s : State (Option P) (View P)) (id : ℕ) (v : View P) (h : Sentences v.plan v.pieces becomes s) (at : get_elem? s.views id ≡ lookup.some v)
    (d : Deed) (e : Progress) (held : 0 < length v.tasks) (same : e.task ≡ (current v).task) (home : lookup.Option (Option P))
    (fits : (p : P) → get_elem? v.pieces (current v).task ≡ lookup.some p → IsHome becomes p (stage e) home) where
  abbrev w : View P
  w = did d (with_current v e)

  -- a slot changes, and with it the stage of its task
  slots_after : (t : ℕ) (p : P) → get_elem? v.pieces t ≡ lookup.some p → SlotIs becomes (set s.homes (current v).task home) t p (total (stages t) (set s.views id w))
  slots_after t p is =
      let c = current v in
      let both : total (stages t) (set s.views id w) + stages t v ≡ total (stages t) s.views + stages t w = sum_set (stages t) s.views id v w at in
      let was = h.slots t p is in
      dite (ℕ_discrete t c.task)
      (λ here.
      let alone : total (stages t) s.views ≡ stage c = stage_alone v.plan v.pieces becomes s h id v at t held (sym here) in
      let t1 : stages t w + stage_at t c ≡ stages t v + stage_at t e = sum_current v e held (stage_at t) in
      let t2 : stage_at t c ≡ stage c = ap (λ b. cond {A = ℕ} b (stage c) 0) (eq-eqb c.task t (sym here)) in
      let t3 : stage_at t e ≡ stage e = ap (λ b. cond {A = ℕ} b (stage e) 0) (eq-eqb e.task t (same ∙ sym here)) in
      let now : total (stages t) (set s.views id w) ≡ stage e = omega arith in
      let in_homes : c.task < length s.homes = subst (λ n. n < length s.homes) here (in_range_at s.homes t was.0 was.1) in
      let at_home : get_elem? (set s.homes c.task home) t ≡ lookup.some home = subst (λ n. get_elem? (set s.homes c.task home) n ≡ lookup.some home) (sym here) (set_here s.homes c.task home in_homes) in
      (home, at_home, subst (λ n. IsHome becomes p n home) (sym now) (fits p (subst (λ n. get_elem? v.pieces n ≡ lookup.some p) here is))))
      (λ ne.
      let st : stages t w ≡ stages t v = stages_else v e held same t ne in
      let now : total (stages t) (set s.views id w) ≡ total (stages t) s.views = omega arith in
      (was.0, set_else s.homes c.task t home ne ∙ was.1, subst (λ n. IsHome becomes p n was.0) (sym now) was.2))

  -- a move of the current task's slot: the words stay
  module _ (live : v.spent ≡ false) (puts : e.puts ≡ (current v).puts) (adds : e.adds ≡ (current v).adds) (fit : IsFit v.plan 0 e) where
    pub moved : Sentences v.plan v.pieces becomes (record { words = s.words; homes = set s.homes (current v).task home; views = set s.views id w })
    moved =
        let q = v.plan in
        let same_sum : (g : Progress → ℕ) → g e ≡ g (current v) → total (λ (u : View P). total g u.tasks) (set s.views id w) ≡ total (λ (u : View P). total g u.tasks) s.views
        = λ g eq. (let t = sum_set (λ (u : View P). total g u.tasks) s.views id v w at in let c : total g w.tasks ≡ total g v.tasks = same_current v e held g eq in omega arith) in
        kept q v.pieces becomes s h id v at s.words (set s.homes (current v).task home) w refl refl live live (refl, refl)
        (λ g. same_current v e held (λ (x : Progress). g x.task) (ap g same)) refl refl
        (λ p lt. h.faces p lt ∙ sym (same_sum (done_puts q p) (λ i. total (stored p) (take (puts i) (puts_of q (same i))))))
        (λ x lt. h.registers x lt ∙ sym (same_sum (done_adds q x) (λ i. total (added x) (take (adds i) (adds_of q (same i))))))
        (λ k u p is has. each_set (λ (y : View P). Contains y.known p → (p < q.places) × (0 < get_or s.words (1 + p) 0)) s.views id w (λ j y e'. h.known j y p e') (h.known id v p at) k u is has)
        (h.looks id v at)
        slots_after
        (fit_current v e held q fit (h.tasks id v at))
