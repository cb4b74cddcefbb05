-- Finer levels are ready for both of their steps, and the levels of a sound state for one.
use Rattle.std.proofs.Common.{◌≡◌, ℕ, suc, ◌+◌, ◌*◌, ◌/◌, ◌^◌, ◌<◌, ◌≤◌, sym, ap, subst, refl, arith, List, [], ◌∷◌, length}
use Rattle.std.proofs.Math.Nat.{mul-le-mul_left, pow-suc, div-mul-le_self}
use Rattle.amr_def.specs.declared.problem.Problem.{Problem}
use Rattle.amr_def.specs.State.{Masses, Level, State, no_masses, mass_of}
use Rattle.amr_def.specs.LevelStep.{step}
use Rattle.amr_def.specs.Facts.{IsSound, growth}
use Rattle.amr_def.proofs.LevelLists.{Nested, Synced}
use Rattle.amr_def.proofs.Courants.{stable}
use Rattle.amr_def.proofs.Subcycle.{step-kept, nested_same}
use Rattle.amr_def.proofs.Greatest.{MassesUpTo, OldUpTo, rise, step-raises}
use Rattle.amr_def.proofs.Chain.{nth, state_chain}
use Rattle.amr_def.proofs.Stepping.{masses_in, chain_lists, sides_up, all_up, rise_within}
use Rattle.amr_def.proofs.Totals.{growth_most}
use Rattle.amr_witness.proofs.StepLaws.{step_length}
use Rattle.amr_witness.specs.Ready.{AreReadyToStep}

nested_finer : (p : Problem) (l : ℕ) (m : Masses) (ms : List Masses) → Nested p l (m ∷ ms) → Nested p (suc l) ms
nested_finer p l m [] n = tt
nested_finer p l m (fine ∷ finer) n = n.2

synced_finer : (m : Masses) (ms : List Masses) → Synced (m ∷ ms) → Synced ms
synced_finer m [] s = tt
synced_finer m (fine ∷ finer) s = s.1

finer_old : (l : ℕ) (m : Masses) (a b : ℕ) → a ≤ b → MassesUpTo l m a → OldUpTo (suc l) m b
finer_old l m a b more masses = record {
  at = λ k.
      let quarter : 4 ^ l * (mass_of m k / 4 * 4) ≤ 4 ^ l * mass_of m k = mul-le-mul_left (4 ^ l) (div-mul-le_self (mass_of m k) 4) in
      rw (pow-suc 4 l) (omega (arith, quarter, masses.at k, more));
}

module _ (p : Problem) (l : ℕ) (m : Masses) (ms : List Masses) (old : Masses) (r : AreReadyToStep p l (m ∷ ms) old) where
  pub finer_ready : AreReadyToStep p (suc l) ms m
  finer_ready = record {
    bound = r.bound;
    least = r.least;
    room = omega (arith, r.room);
    nested = nested_finer p l m ms r.nested;
    synced = synced_finer m ms r.synced;
    masses = r.masses.1;
    olds = finer_old l m r.bound r.bound (omega arith) r.masses.0;
  }

  pub middle_ready : AreReadyToStep p (suc l) (step p (suc l) ms m).levels m
  middle_ready =
      let nested = nested_finer p l m ms r.nested in
      let synced = synced_finer m ms r.synced in
      let kept = step-kept p (length ms) (suc l) ms m (stable p) nested synced in
      let raised = step-raises p (length ms) (suc l) ms m r.bound (omega arith) (stable p) nested synced r.masses.1 (finer_old l m r.bound r.bound (omega arith) r.masses.0) (sides_up p r.bound r.least) in
      let count : length (step p (suc l) ms m).levels ≡ length ms = step_length p (length ms) (suc l) ms m in
      let higher = rise (length ms) (suc l) in
      record {
        bound = r.bound + higher;
        least = omega (arith, r.least);
        room = subst (λ n. r.bound + higher + rise n (suc l) < 2 ^ 31) (sym count) (omega (arith, r.room));
        nested = nested_same p (suc l) ms (step p (suc l) ms m).levels kept.same nested;
        synced = kept.synced;
        masses = raised.masses;
        olds = finer_old l m r.bound (r.bound + higher) (omega arith) r.masses.0;
      }

-- ---- the levels of a sound state below the last step

map_length : (ks : List Level) → length (masses_in ks) ≡ length ks
map_length [] = refl
map_length (k ∷ ks) = ap suc (map_length ks)

pub state_ready : (p : Problem) (s : State) → IsSound p s → s.step < p.steps → AreReadyToStep p 0 (masses_in s.levels) no_masses
state_ready p s sound before =
    let lists = chain_lists p 0 s.levels (state_chain p s sound.nested sound.synced) in
    let g = growth p.max_level in
    let b = 2 ^ 30 + g * (s.step + 1) in
    let few : length (masses_in s.levels) ≤ p.max_level + 1 = omega (arith, map_length s.levels, sound.few_levels) in
    let raised : rise (length (masses_in s.levels)) 0 ≤ g = rise_within (length (masses_in s.levels)) p.max_level few p.limits.greatest_max_level in
    let all : g * (s.step + 1) ≤ g * 4096 = mul-le-mul_left g (omega (arith, before, p.limits.greatest_steps)) in
    record {
      bound = b;
      least = omega arith;
      room = omega (arith, raised, all, growth_most p.max_level);
      nested = lists.0;
      synced = lists.1;
      masses = all_up 0 s.levels b (λ j c. let e : j ≡ 0 + j = omega arith in subst (λ i. 4 ^ i * mass_of (nth s.levels j).masses c ≤ b) e (sound.bounded.at j c));
      olds = record { at = λ k. omega arith };
    }
