-- Bytes that go past a buffer, and what it keeps back at the end.
use Rattle.std.proofs.Common.{◌≡◌, ℕ, List, [], ◌++◌, append-nil, subst, sym, ◌∙◌, arith}
use Rattle.std.specs.Prelude.{Result, Ok, Err, IsErr, OnErr, OnOk}
use Rattle.amr_causes.specs.Bytes.{Grows, TakesPrefix}
use Rattle.amr_causes.proofs.ByteLaws.{grows_to, takes_whole}
use Rattle.amr_causes.proofs.CauseLaws.{rose_after}
use Rattle.amr_causes.specs.Causes.{HasCause}
use Rattle.amr_io.specs.Buffered.{Sent}
use Rattle.amr_io.proofs.Sending.{all_sent, sent_then}
use Rattle.amr_io.proofs.Shorter.{flush_short, short_takes}
use Rattle.amr_io.specs.Short.{FallsShort}
use Rattle.amr_plot.specs.Pens.{Falls, Goes}
use Rattle.amr_plot.specs.Sheets.{falls_later, goes_more}

pub and_ok : {T E : Type 0} (r : Result T E) (P Q : Type 0) → P → OnOk r Q → OnOk r (P × Q)
and_ok (Ok v) P Q p q = (p, q)
and_ok (Err e) P Q p q = tt

pub and_err : {T E : Type 0} (r : Result T E) (P Q : Type 0) → P → OnErr r Q → OnErr r (P × Q)
and_err (Ok v) P Q p q = tt
and_err (Err e) P Q p q = (p, q)

module _ {S : Type 0} (holds : S → List ℕ → Type 0) (faults : S → ℕ) where
  -- what was kept back was not sent whole
  pub unsent : {T E : Type 0} (a b : S) (kept : List ℕ) (r : Result T E) → OnErr r (FallsShort holds a b kept) → HasCause (faults a) (faults b) r → OnErr r (Falls holds faults a b kept [])
  unsent a b kept (Ok v) short cause = tt
  unsent a b kept (Err e) short cause =
      record { short = subst (λ (l : List ℕ). FallsShort holds a b l) (sym (append-nil kept)) short; later = cause.later; rose = cause.failed }

  module _ (a b c : S) (k0 k1 bytes : List ℕ) (sent : Sent holds a b k0 k1 []) (none : k1 ≡ []) (same : faults b ≡ faults a) where
    first : Goes holds faults a b k0 k1 []
    first = record { sent = sent; no_fault = same }

    -- bytes go past a buffer that keeps nothing back
    pub past : {T E : Type 0} (r : Result T E) → OnOk r (Grows holds b c bytes) → OnOk r (faults c ≡ faults b) → OnOk r (Goes holds faults a c k0 k1 bytes)
    past (Ok v) grows no_fault =
        goes_more holds faults a b c k0 k1 k1 [] bytes first
        (subst (λ (k : List ℕ). Goes holds faults b c k k bytes) (sym none) (record { sent = (bytes, grows, append-nil bytes); no_fault = no_fault }))
    past (Err e) grows no_fault = tt

    pub past_short : {T E : Type 0} (r : Result T E) → OnErr r (FallsShort holds b c bytes) → HasCause (faults b) (faults c) r → OnErr r (Falls holds faults a c k0 bytes)
    past_short (Ok v) short cause = tt
    past_short (Err e) short cause =
        falls_later holds faults a b c k0 k1 [] bytes first
        (subst (λ (k : List ℕ). Falls holds faults b c k bytes) (sym none) (record { short = short; later = cause.later; rose = cause.failed }))

  -- ---- from a buffer that kept nothing back to one that keeps nothing

  -- not all of a text was taken
  pub fell : (a b : S) (k0 text : List ℕ) → k0 ≡ [] → Falls holds faults a b k0 text → FallsShort holds a b text
  fell a b k0 text none falls = subst (λ (k : List ℕ). FallsShort holds a b (k ++ text)) none falls.short

  module _ (a b c : S) (k0 k1 k2 text : List ℕ) (none : k0 ≡ []) (goes : Goes holds faults a b k0 k1 text) where
    pub ended : {T E : Type 0} (r : Result T E) → OnOk r (Goes holds faults b c k1 k2 []) → OnOk r (k2 ≡ []) → OnOk r (Grows holds a c text)
    ended (Ok v) last empty =
        let sent = sent_then holds a b c k0 k1 k2 text [] goes.sent last.sent in
        let from : Sent holds a c [] k2 (text ++ []) = subst (λ (k : List ℕ). Sent holds a c k k2 (text ++ [])) none sent in
        grows_to holds a c (text ++ []) text (append-nil text) (all_sent holds a c k2 (text ++ []) from empty)
    ended (Err e) last empty = tt

    pub ended_short : {T E : Type 0} (r : Result T E) → OnErr r (Falls holds faults b c k1 []) → OnErr r (FallsShort holds a c text)
    ended_short (Ok v) falls = tt
    ended_short (Err e) falls =
        flush_short holds a b c k0 k1 text none goes.sent (subst (λ (l : List ℕ). FallsShort holds b c l) (append-nil k1) falls.short)

    pub ended_part : {T E : Type 0} (r : Result T E) → OnOk r (Goes holds faults b c k1 k2 []) → OnOk r (k2 ≡ []) → OnErr r (Falls holds faults b c k1 []) → TakesPrefix holds a c text
    ended_part {T} {E} (Ok v) last empty falls = takes_whole holds a c text (ended {T = T} {E = E} (Ok v) last empty)
    ended_part {T} {E} (Err e) last empty falls = short_takes holds a c text (ended_short {T = T} {E = E} (Err e) falls)

    pub ended_cause : {T E : Type 0} (r : Result T E) → OnOk r (Goes holds faults b c k1 k2 []) → OnErr r (Falls holds faults b c k1 []) → HasCause (faults a) (faults c) r
    ended_cause (Ok v) last falls = record { later = omega (arith, goes.no_fault, last.no_fault); failed = tt }
    ended_cause (Err e) last falls =
        record { later = omega (arith, goes.no_fault, falls.later); failed = rose_after (faults a) (faults b) (faults c) (omega (arith, goes.no_fault)) falls.rose }

    pub ended_no_fault : {T E : Type 0} (r : Result T E) → OnOk r (Goes holds faults b c k1 k2 []) → OnOk r (faults c ≡ faults a)
    ended_no_fault (Ok v) last = last.no_fault ∙ goes.no_fault
    ended_no_fault (Err e) last = tt
