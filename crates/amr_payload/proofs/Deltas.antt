-- The record of a state on an older one: it is read exactly where it is that record, the state is sound and later.
use Rattle.std.proofs.Common.{◌≡◌, ℕ, ◌+◌, ◌*◌, ◌^◌, ◌<◌, ◌≤◌, List, [], ◌∷◌, ◌++◌, length, refl, sym, ap, ◌∙◌, arith, All, ◌==◌, append-nil, mul-le-mul_left}
use Rattle.std.specs.Int.{w64}
use Rattle.std.specs.declared.result.Result.TheVariants.{Ok}
use Rattle.std.proofs.lemmas.Bool.{eqb-true, eq-eqb}
use Rattle.amr_box.specs.declared.Cell.{Cell}
use Rattle.amr_def.specs.declared.problem.Problem.{Problem}
use Rattle.amr_def.specs.declared.problem.Row.{Row}
use Rattle.amr_def.specs.Facts.{IsSmallRow, IsSound, growth}
use Rattle.amr_def.specs.State.{State, level_at, mass_of}
use Rattle.amr_payload.specs.Payload.{number_bytes, older, state_bytes}
use Rattle.amr_payload.specs.Tests.{Reading, then_read, tested, read_number, read_state, nothing_follows}
use Rattle.amr_payload.specs.Delta.{IsLater, delta_bytes, delta_decoded, read_delta}
use Rattle.amr_payload.proofs.Readings.{left, are_bytes, was_read, was_tested, Gives, gives_then, gives_tested, gives_at}
use Rattle.amr_payload.proofs.Numbers.{code_64}
use Rattle.amr_payload.proofs.Fields.{CanStand, IsLedger}
use Rattle.amr_payload.proofs.Forms.{changed_form}
use Rattle.amr_payload.proofs.ReadStates.{IsBasis, read_to_end, state_took}
use Rattle.amr_payload.proofs.WriteLevels.{each_from}
use Rattle.amr_payload.proofs.WriteStates.{ledger_from, state_back}

-- ---- a sound state can be written on

can_stand : (rs : List Row) → IsLedger rs → All IsSmallRow rs → CanStand rs
can_stand [] ledger small = tt
can_stand (v ∷ vs) ledger small = (ledger, each_from IsSmallRow (v ∷ vs) small)

pub older_basis : (p : Problem) (old : State) → IsSound p old → IsBasis (older old) p
older_basis p old sound =
    let t = sound.telescoped in
    record {
      forms = λ n l after. changed_form (level_at old l).masses p n l (λ c. grown n l c after);
      rows = can_stand old.rows (ledger_from old.rows old.step t.count t.no_inflow t.no_outflow t.each) sound.small_rows;
    }
  where
    grown : (n l : ℕ) (c : Cell) → length old.rows ≤ n → 4 ^ l * mass_of (level_at old l).masses c ≤ 2 ^ 30 + growth p.max_level * (n + 1)
    grown n l c after =
        let least : old.step + 1 ≤ n + 1 = omega (arith, sound.telescoped.count, after) in
        omega (arith, sound.bounded.at l c, mul-le-mul_left (growth p.max_level) least)

-- ---- what is read was written

pub record IsDelta (p : Problem) (old : State) (q : ℕ) (s : State) (bytes : List ℕ) : Type 0 where
  pub is : bytes ≡ delta_bytes old q s
  pub sound : IsSound p s
  pub later : IsLater old s

pub delta_is : (p : Problem) (old : State) (q : ℕ) (s : State) (bytes : List ℕ) → IsSound p old → All (λ b. b < 256) bytes → delta_decoded p old q bytes ≡ Ok s → IsDelta p old q s bytes
unfolding delta_decoded read_delta delta_bytes
delta_is p old q s bytes sound small h =
    let r = left 0 bytes in
    let end = read_to_end (then_read (read_number w64 r) (λ m a. then_read (tested (m == q) 0 m a) (λ m a. read_state (older old) p a))) s h in
    let a = was_read (read_number w64 r) (λ m a. then_read (tested (m == q) 0 m a) (λ m a. read_state (older old) p a)) s end.rest end.first in
    let t = was_read (tested (a.value == q) 0 a.value a.rest) (λ m a. read_state (older old) p a) s end.rest a.second in
    let test = was_tested (a.value == q) 0 a.value t.value a.rest t.rest t.first in
    let number = code_64.took r a.rest a.value (are_bytes bytes small) a.first in
    let state = state_took (older old) p a.rest end.rest s (older_basis p old sound) number.small
    (ap (λ l. read_state (older old) p l) test.rest ∙ t.second) in
    record {
      is = number.is ∙ (λ i. number_bytes w64 (eqb-true a.value q test.passes i) ++ (state.took.is ∙ ap (λ (bs : List ℕ). state_bytes (older old) s ++ bs) end.none ∙ append-nil (state_bytes (older old) s)) i);
      sound = state.sound;
      later = record { step = omega (arith, state.step, sound.telescoped.count); rows = state.older };
    }

-- ---- what is written is read

pub delta_back : (p : Problem) (old : State) (q : ℕ) (s : State) → q < 2 ^ 64 → IsSound p old → IsSound p s → IsLater old s → delta_decoded p old q (delta_bytes old q s) ≡ Ok s
unfolding delta_decoded read_delta delta_bytes
delta_back p old q s fits sound_old sound later =
    let body = state_bytes (older old) s in
    let back : Gives (then_read (read_number w64 (left 0 (number_bytes w64 q ++ body))) (λ m a. then_read (tested (m == q) 0 m a) (λ m a. read_state (older old) p a))) s [] =
    gives_then (read_number w64 (left 0 (number_bytes w64 q ++ body))) (λ m a. then_read (tested (m == q) 0 m a) (λ m a. read_state (older old) p a)) q s body []
    (code_64.gives q 0 body fits)
    (λ i. gives_then (tested (q == q) 0 q (left i body)) (λ m a. read_state (older old) p a) q s body []
    (gives_tested (q == q) 0 i q body (eq-eqb q q refl))
    (λ j. gives_at (λ r. read_state (older old) p r) j s body (body ++ []) [] (sym (append-nil body))
    (state_back (older old) p s j [] (older_basis p old sound_old) sound (omega (arith, later.step, sound_old.telescoped.count)) later.rows))) in
    ap (λ (x : Reading State). nothing_follows x) back.is
