-- A buffer before a sink is a pen.
use Rattle.std.proofs.Common.{◌≡◌, ℕ, ◌≤◌, List, [], ◌++◌, subst, sym, ◌∙◌, append_assoc, append-nil, arith}
use Rattle.amr_causes.specs.Causes.{Rose}
use Rattle.amr_causes.proofs.CauseLaws.{rose_after}
use Rattle.amr_io.specs.Buffered.{Sent}
use Rattle.amr_io.proofs.Sending.{sent_then}
use Rattle.amr_io.specs.Short.{FallsShort}
use Rattle.amr_io.proofs.Shorter.{sent_short, short_longer}
use Rattle.amr_plot.specs.Pens.{Falls, Goes}

module _ {S : Type 0} (holds : S → List ℕ → Type 0) (faults : S → ℕ) where
  pub goes_nowhere : (a : S) (kept : List ℕ) → Goes holds faults a a kept kept []
  goes_nowhere a kept = record { sent = ([], λ bytes told. subst (holds a) (sym (append-nil bytes)) told, sym (append-nil kept)); no_fault = λ i. faults a }

  pub goes_more : (a b c : S) (k0 k1 k2 t u : List ℕ) → Goes holds faults a b k0 k1 t → Goes holds faults b c k1 k2 u → Goes holds faults a c k0 k2 (t ++ u)
  goes_more a b c k0 k1 k2 t u first second = record {
    sent = sent_then holds a b c k0 k1 k2 t u first.sent second.sent;
    no_fault = second.no_fault ∙ first.no_fault;
  }

  pub falls_later : (a b c : S) (k0 k1 t u : List ℕ) → Goes holds faults a b k0 k1 t → Falls holds faults b c k1 u → Falls holds faults a c k0 (t ++ u)
  falls_later a b c k0 k1 t u first second = record {
    short = sent_short holds a b c k0 k1 t u first.sent second.short;
    later = omega (arith, first.no_fault, second.later);
    rose = rose_after (faults a) (faults b) (faults c) (omega (arith, first.no_fault)) second.rose;
  }

  pub falls_longer : (a b : S) (kept t u : List ℕ) → Falls holds faults a b kept t → Falls holds faults a b kept (t ++ u)
  falls_longer a b kept t u first = record {
    short = subst (λ (l : List ℕ). FallsShort holds a b l) (append_assoc kept t u) (short_longer holds a b (kept ++ t) u first.short);
    later = first.later;
    rose = first.rose;
  }
