-- Replies that are put to the places of their numbers.
use Rattle.std.proofs.Common.{◌≡◌, ◌∙◌, ℕ, ◌+◌, ◌<◌, ◌≤◌, inl, inr, List, [], ◌∷◌, ◌++◌, None, Some, length, get_or, set, sym, ap, subst, length-append, arith}
use Rattle.std.specs.Prelude.{IfSome}
use Rattle.std.specs.declared.option.Option.{Option}
use Rattle.std.proofs.lemmas.Bool.Decides.{eqb_tells}
use Rattle.std.proofs.lemmas.List.{get_or_append_left, get_or-append-add, get_or-set_other, get_or-set_same, length-set}
use Rattle.amr_batch.specs.declared.spans.Span.{Span}
use Rattle.amr_batch.specs.Replies.{AreRepliesTo, HasReplies, job_at}

-- the first of these numbers have their replies
pub record HasSomeTo {X : Type 0} (answers : List ℕ → X → Type 0) (bytes : List ℕ) (spans : List Span) (numbers : List ℕ) (replies : List X) : Type 0 where
  pub count : length replies ≤ length numbers
  pub each : (i : ℕ) (d : X) → i < length replies → answers (job_at bytes spans (get_or numbers i 0)) (get_or replies i d)

module _ {X : Type 0} (answers : List ℕ → X → Type 0) (bytes : List ℕ) (spans : List Span) where
  pub all_to : (numbers : List ℕ) (replies : List X) → AreRepliesTo answers bytes spans numbers replies → HasSomeTo answers bytes spans numbers replies
  all_to numbers replies are = record { count = omega (arith, are.count); each = are.each }

  -- the last of them, and the others
  pub others_to : (numbers : List ℕ) (replies less : List X) (x : X) → replies ≡ less ++ x ∷ [] → HasSomeTo answers bytes spans numbers replies → HasSomeTo answers bytes spans numbers less
  others_to numbers replies less x is has =
      let long : length replies ≡ length less + 1 = ap length is ∙ length-append less (x ∷ []) in
      record {
        count = omega (arith, long, has.count);
        each = λ i d below. subst (answers (job_at bytes spans (get_or numbers i 0))) (ap (λ (l : List X). get_or l i d) is ∙ get_or_append_left less (x ∷ []) d i below) (has.each i d (omega (arith, long, below)));
      }

  pub last_to : (numbers : List ℕ) (replies less : List X) (x : X) → replies ≡ less ++ x ∷ [] → HasSomeTo answers bytes spans numbers replies → answers (job_at bytes spans (get_or numbers (length less) 0)) x
  last_to numbers replies less x is has =
      let long : length replies ≡ length less + 1 = ap length is ∙ length-append less (x ∷ []) in
      let last : get_or replies (length less) x ≡ x = ap (λ (l : List X). get_or l (length less) x) is ∙ ap (λ (k : ℕ). get_or (less ++ x ∷ []) k x) (omega arith) ∙ get_or-append-add less (x ∷ []) 0 x in
      subst (answers (job_at bytes spans (get_or numbers (length less) 0))) last (has.each (length less) x (omega (arith, long)))

  -- a reply more, at the place of its number
  pub placed : (places : List (Option X)) (k : ℕ) (x : X) → HasReplies answers bytes spans places → k < length places → answers (job_at bytes spans k) x → HasReplies answers bytes spans (set places k (Some x))
  placed places k x has below is = record { each = at }
    where
      P : ℕ → Option X → Type 0
      P j o = IfSome o (answers (job_at bytes spans j))

      at : (j : ℕ) (d : Option X) → j < length (set places k (Some x)) → IfSome (get_or (set places k (Some x)) j d) (answers (job_at bytes spans j))
      at j d inside = elim (eqb_tells j k) [
        | inl here ↦
            let same : get_or (set places k (Some x)) j d ≡ Some x = ap (λ (i : ℕ). get_or (set places k (Some x)) i d) here.1 ∙ get_or-set_same places k (Some x) d below in
            subst (λ (o : Option X). IfSome o (answers (job_at bytes spans j))) (sym same) (subst (λ (i : ℕ). answers (job_at bytes spans i) x) (sym here.1) is)
        | inr other ↦
            let same : get_or (set places k (Some x)) j d ≡ get_or places j d = get_or-set_other places k j (Some x) d other.1 in
            subst (λ (o : Option X). IfSome o (answers (job_at bytes spans j))) (sym same) (has.each j d (omega (arith, inside, length-set places k (Some x))))
      ]

  -- no place is filled yet
  pub none_placed : (places : List (Option X)) → ((k : ℕ) (d : Option X) → k < length places → get_or places k d ≡ None) → HasReplies answers bytes spans places
  none_placed places none = record { each = λ k d below. subst (λ (o : Option X). IfSome o (answers (job_at bytes spans k))) (sym (none k d below)) tt }

  first_placed : (places : List (Option X)) (o : Option X) → HasReplies answers bytes spans (places ++ o ∷ []) → HasReplies answers bytes spans places
  first_placed places o has = record {
    each = λ k d below. subst (λ (p : Option X). IfSome p (answers (job_at bytes spans k))) (get_or_append_left places (o ∷ []) d k below) (has.each k d (omega (arith, below, length-append places (o ∷ []))));
  }

  last_placed : (places : List (Option X)) (o : Option X) → HasReplies answers bytes spans (places ++ o ∷ []) → IfSome o (answers (job_at bytes spans (length places)))
  last_placed places o has =
      let last : get_or (places ++ o ∷ []) (length places) o ≡ o = ap (λ (k : ℕ). get_or (places ++ o ∷ []) k o) (omega arith) ∙ get_or-append-add places (o ∷ []) 0 o in
      subst (λ (p : Option X). IfSome p (answers (job_at bytes spans (length places)))) last (has.each (length places) o (omega (arith, length-append places (o ∷ []))))

  -- the replies at places, one after another
  pub record AreTaken (places : List (Option X)) (replies : List X) : Type 0 where
    pub count : length replies ≡ length places
    pub each : (k : ℕ) (d : X) → k < length replies → answers (job_at bytes spans k) (get_or replies k d)

  pub one_more_taken : (places : List (Option X)) (replies all : List X) (o : Option X) (x : X) → o ≡ Some x → all ≡ replies ++ x ∷ [] → (HasReplies answers bytes spans places → AreTaken places replies) → HasReplies answers bytes spans (places ++ o ∷ []) → AreTaken (places ++ o ∷ []) all
  one_more_taken places replies all o x is more before has =
      let taken = before (first_placed places o has) in
      let reply : answers (job_at bytes spans (length places)) x = subst (λ (p : Option X). IfSome p (answers (job_at bytes spans (length places)))) is (last_placed places o has) in
      let long : length all ≡ length replies + 1 = ap length more ∙ length-append replies (x ∷ []) in
      record {
        count = omega (arith, long, taken.count, length-append places (o ∷ []));
        each = λ k d below. elim (eqb_tells k (length replies)) [
          | inl here ↦
              let last : get_or all k d ≡ x = ap (λ (l : List X). get_or l k d) more ∙ ap (λ (j : ℕ). get_or (replies ++ x ∷ []) j d) (omega (arith, here.1)) ∙ get_or-append-add replies (x ∷ []) 0 d in
              let at : length places ≡ k = omega (arith, here.1, taken.count) in
              subst (answers (job_at bytes spans k)) (sym last) (subst (λ (j : ℕ). answers (job_at bytes spans j) x) at reply)
          | inr other ↦
              let small : k < length replies = omega (arith, below, long, other.1) in
              subst (answers (job_at bytes spans k)) (sym (ap (λ (l : List X). get_or l k d) more ∙ get_or_append_left replies (x ∷ []) d k small)) (taken.each k d small)
        ];
      }
