-- Bytes read as a record to their end, and what is known of the state that is read.
use Rattle.std.proofs.Common.{◌≡◌, ℕ, ◌<◌, Bool, false, if◌then◌else◌, ◌==◌, List, length, refl, sym, ap, ◌∙◌, arith}
use Rattle.std.specs.declared.result.Result.{Result}
use Rattle.std.specs.declared.result.Result.TheVariants.{Ok, Err}
use Rattle.std.proofs.lemmas.Bool.{eqb-true, false_from_ne_true}
use Rattle.amr_decoder.specs.declared.faults.CodecFault.{CodecFault}
use Rattle.amr_decoder.specs.declared.faults.CodecFault.TheVariants.{Bad, NoMemory}
use Rattle.amr_decoder.specs.Faults.{IsFaultOf, IsRefusalOf}
use Rattle.amr_decoder.proofs.Readings.{fault_first}
use Rattle.amr_def.specs.declared.problem.Problem.{Problem}
use Rattle.amr_def.specs.State.{State}
use Rattle.amr_payload.specs.Delta.{read_delta}
use Rattle.amr_payload.specs.Payload.{older}
use Rattle.amr_payload.specs.Tests.{Left, Reading, bad, read, then_read, tested, read_number, read_state, nothing_follows}
use Rattle.std.specs.Int.{w64}

-- ---- the sequence, and then the state

module _ (p : Problem) (old : State) (q : ℕ) where
  pub sequence_bad : (r : Left) (e : CodecFault) → IsFaultOf (read_number w64 r) e → IsFaultOf (read_delta p old q r) e
  unfolding read_delta
  sequence_bad r e h = fault_first (read_number w64 r) (λ m a. then_read (tested (m == q) r.place m a) (λ m a. read_state (older old) p a)) e h

  -- by whether it is that of the older state
  pub sequence_read : (r a : Left) (m : ℕ) (t : Bool) → read_number w64 r ≡ read m a → (m == q) ≡ t → read_delta p old q r ≡ then_read (tested t r.place m a) (λ m a. read_state (older old) p a)
  unfolding read_delta
  sequence_read r a m t first is =
      ap (λ (x : Reading ℕ). then_read x (λ m a. then_read (tested (m == q) r.place m a) (λ m a. read_state (older old) p a))) first
      ∙ ap (λ (t : Bool). then_read (tested t r.place m a) (λ m a. read_state (older old) p a)) is

-- ---- to the end

pub whole_bad : (q : Reading State) (e : CodecFault) → IsFaultOf q e → IsRefusalOf (nothing_follows q) e
whole_bad q (Bad place) h = ap (λ (q : Reading State). nothing_follows q) h
whole_bad q NoMemory h = tt

pub whole_read : (q : Reading State) (s : State) (e : Left) → q ≡ read s e → length e.bytes ≡ 0 → nothing_follows q ≡ Ok s
whole_read q s e h none = ap (λ (q : Reading State). nothing_follows q) h ∙ ap (λ n. if n == 0 then Ok s else Err e.place) none

pub more_follows : (q : Reading State) (s : State) (e : Left) → q ≡ read s e → 0 < length e.bytes → nothing_follows q ≡ Err e.place
more_follows q s e h some = ap (λ (q : Reading State). nothing_follows q) h ∙ ap (λ (t : Bool). if t then Ok s else Err e.place) (not_zero (length e.bytes) some)
  where
    not_zero : (n : ℕ) → 0 < n → (n == 0) ≡ false
    not_zero n some = false_from_ne_true (n == 0) (λ e. let none : n ≡ 0 = eqb-true n 0 e in absurd (omega (arith, some, none)))

-- bytes that are decoded are refused for memory alone
pub refused_for_memory : (d : Result State ℕ) (s : State) (e : CodecFault) → d ≡ Ok s → IsRefusalOf d e → e ≡ NoMemory
refused_for_memory d s (Bad place) is h = absurd (let clash : Ok s ≡ Err place = sym is ∙ h in cc)
refused_for_memory d s NoMemory is h = refl
