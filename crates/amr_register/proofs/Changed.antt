-- Lists of which one element after the other is written.
use Rattle.std.proofs.Common.{◌≡◌, ◌∙◌, ℕ, ◌+◌, ◌<◌, ◌≤◌, ◌⊎◌, inl, inr, List, length, get_or, set, sym, subst, arith}
use Rattle.std.proofs.lemmas.Bool.{cases_eq}
use Rattle.std.proofs.lemmas.List.{get_or-set_other, get_or-set_same, length-set}
use Rattle.amr_register.proofs.Taken.{same_at}

-- the first n elements stand in a relation, which may go by the place, to those of before; the others are as they were
pub record AreChanged {A : Type 0} (R : ℕ → A → A → Type 0) (before after : List A) (n : ℕ) : Type 0 where
  pub count : length after ≡ length before
  pub done : (k : ℕ) (d e : A) → k < n → k < length before → R k (get_or before k d) (get_or after k e)
  pub left : (k : ℕ) (d : A) → n ≤ k → get_or after k d ≡ get_or before k d

pub one_changed : {A : Type 0} (R : ℕ → A → A → Type 0) (before after : List A) (n : ℕ) (v d : A) → AreChanged R before after n → n < length after → R n (get_or after n d) v → AreChanged R before (set after n v) (n + 1)
one_changed {A} R before after n v d h lt r = record {
  count = length-set after n v ∙ h.count;
  done = λ k e f below inside. by_place k e f below inside (cases_eq k n);
  left = λ k e out. get_or-set_other after n k v e (λ s. omega arith) ∙ h.left k e (omega arith);
}
  where
    by_place : (k : ℕ) (e f : A) → k < n + 1 → k < length before → (k ≡ n) ⊎ (k ≡ n → ⊥) → R k (get_or before k e) (get_or (set after n v) k f)
    by_place k e f below inside (inl s) =
        subst (λ (i : ℕ). R i (get_or before i e) (get_or (set after n v) i f)) (sym s)
        (subst (λ (x : A). R n (get_or before n e) x) (sym (get_or-set_same after n v f lt))
        (subst (λ (x : A). R n x v) (h.left n d (omega arith) ∙ same_at before n d e (omega (arith, lt, h.count))) r))
    by_place k e f below inside (inr ne) = subst (λ (x : A). R k (get_or before k e) x) (sym (get_or-set_other after n k v f ne)) (h.done k e f (omega arith) inside)
