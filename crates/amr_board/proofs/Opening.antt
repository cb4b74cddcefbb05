-- A new board keeps the rule.
use Rattle.std.proofs.lemmas.List.{get_or_past}
use mathlib.Core.Logic.{dite}
use native.Mathlib.Decide.{dec_le}
use Rattle.amr_board.specs.Rule.{Rule}
use Rattle.amr_board.proofs.Running.{core_opens}
use Rattle.std.proofs.Common.{◌≡◌, ◌⊎◌, ℕ, zero, suc, ◌+◌, ◌^◌, ◌<◌, ◌≤◌, min, true, false, true≢false, List, [], ◌∷◌, length, get_or, Some, refl, sym, ap, ◌∙◌, subst, lt_of_not-le, inl, arith, map, replicate}
use Rattle.std.specs.Prelude.{Contains}
use mathlib.Core.Option as lookup
use mathlib.Core.Logic.{dite}
use lib.ListN.{get_elem?}
use Rattle.std.proofs.lemmas.List.{get_or-replicate}
use Rattle.atomic_table.specs.Table.{opening}
use Rattle.atomic_table.proofs.Lists.{at_map}
use Rattle.amr_phase.specs.Plans.{PlanOf, planned_face, IsPlan}
use Rattle.amr_board.specs.declared.view.Progress.{Progress}
use Rattle.amr_board.specs.declared.view.View.{View}
use Rattle.amr_board.specs.Views.{first_view}
use Rattle.amr_board.specs.Rule.{Sentences, IsFit, weigh}
use Rattle.amr_board.proofs.Sharing.{none_known, no_entry}

only : {X : Type 0} (Q : X → Type 0) (v : X) → Q v → (k : ℕ) (u : X) → get_elem? (v ∷ []) k ≡ lookup.some u → Q u
only Q v q zero u e = subst Q (lookup.some-injective v u e) q
only Q v q (suc k) u e = absurd (lookup.some-ne-none u (sym e))

opens_sentences : {P : Type 0} (plan : PlanOf) (pieces : List P) (becomes : P → P → Type 0) (ws : List ℕ) → IsPlan plan → length plan.tasks ≡ length pieces → length plan.tasks < 2 ^ 32
    → ws ≡ replicate (1 + plan.places + plan.words) 0 → length ws ≡ 1 + plan.places + plan.words
    → Sentences plan pieces becomes (opening ws (map Some pieces) (first_view plan pieces))
opens_sentences {P} plan pieces becomes ws ok count few zeros len =
    let v : View P = first_view plan pieces in
    let empty : (i : ℕ) → i < 1 + plan.places + plan.words → get_or ws i 0 ≡ 0 = λ i lt. (ap (λ l. get_or l i 0) zeros ∙ get_or-replicate (1 + plan.places + plan.words) i 0 0 lt) in
    let start = empty 0 (omega arith) in
    record {
      is_plan = ok;
      sized = len;
      task_count = count;
      few = few;
      same_plan = only (λ (u : View P). u.spent ≡ false → (u.plan ≡ plan) × (u.pieces ≡ pieces)) v (λ _. (refl, refl));
      each_once = λ h. ap (weigh h 0) (let r : 0 ≡ min (get_or ws 0 0) (length plan.tasks) = omega arith in r);
      past = only (λ (u : View P). u.past ≡ true → length plan.tasks ≤ get_or ws 0 0) v (λ e. absurd (true≢false (sym e)));
      faces = λ p lt. empty (1 + p) (omega arith);
      registers = λ x lt. empty (1 + plan.places + x) (omega arith);
      known = λ k u p e has. only (λ (y : View P). Contains y.known p → (p < plan.places) × (0 < get_or ws (1 + p) 0)) v (λ has'. absurd (none_known p has')) k u e has;
      looks = only (λ (u : View P). (u.look.found ≡ 0) ⊎ (u.look.found ≡ planned_face plan u.look.place)) v (inl refl);
      slots = λ t p is. (lookup.some (Some p), at_map lookup.some (map Some pieces) t (Some p) (at_map Some pieces t p is), refl);
      tasks = only (λ (u : View P). (i : ℕ) (e : Progress) → get_elem? u.tasks i ≡ lookup.some e → IsFit plan i e) v (λ i e is. absurd (no_entry i e is));
      shares = refl;
      share_fit = only (λ (u : View P). (u.spent ≡ true → (u.share ≡ 0) × (u.tasks ≡ [])) × (u.spent ≡ false → 1 ≤ u.share)) v ((λ e. absurd (true≢false (sym e))), (λ _. omega arith));
      counter_fits = rw start (omega arith);
    }

pub opens : {P : Type 0} (plan : PlanOf) (pieces : List P) (becomes : P → P → Type 0) (ws : List ℕ) → IsPlan plan → length plan.tasks ≡ length pieces → length plan.tasks < 2 ^ 32
    → ws ≡ replicate (1 + plan.places + plan.words) 0 → length ws ≡ 1 + plan.places + plan.words
    → Rule plan pieces becomes (opening ws (map Some pieces) (first_view plan pieces))
opens {P} plan pieces becomes ws ok count few zeros len =
    let size : ℕ = 1 + plan.places + plan.words in
    let empty : (i : ℕ) → get_or ws i 0 ≡ 0 = λ i. dite (dec_le size i)
    (λ le. get_or_past ws i 0 (omega arith))
    (λ no. ap (λ l. get_or l i 0) zeros ∙ get_or-replicate size i 0 0 (lt_of_not-le no)) in
    record { sentences = opens_sentences plan pieces becomes ws ok count few zeros len; core = core_opens plan ok pieces ws empty }
