-- What a store in memory shows of what is stored. (profile)
use Rattle.std.specs.Prelude.{ℕ, zero, suc, ◌≡◌, ◌≤◌, List, take, [], ◌∷◌, length, Option, Some, None, option_map}
use Rattle.amr_store.specs.declared.part.Part.{Part}
use Rattle.amr_store.specs.declared.store.Store.{Store}
use Rattle.amr_store.specs.Stands.{version_in, problem_in, slot_size_in, deltas_in, chain_in, last_in, counted_in}
use Rattle.amr_store.specs.Stored.{Entry, State, Stored, Empty, Damaged, Held}

abbrev pub IsDamaged : Stored → Part → Type 0
IsDamaged stored part = stored ≡ Damaged part

abbrev pub payload_of : Option Entry → Option (List ℕ)
payload_of None = None
payload_of (Some entry) = Some entry.payload

-- the latest state's bytes, where a state is stored
abbrev pub latest_in : Stored → Option (List ℕ)
latest_in Empty = None
latest_in (Damaged part) = None
latest_in (Held state) = payload_of state.latest

-- the bytes of the record of this number, counted from 1
abbrev pub record_of : List Entry → ℕ → Option (List ℕ)
record_of [] number = None
record_of (entry ∷ rest) zero = None
record_of (entry ∷ rest) (suc zero) = Some entry.payload
record_of (entry ∷ rest) (suc (suc number)) = record_of rest (suc number)

abbrev pub record_in : Stored → ℕ → Option (List ℕ)
record_in Empty number = None
record_in (Damaged part) number = None
record_in (Held state) number = record_of state.records number

-- the last of the latest whole state and the records behind it
abbrev pub last_entry : Option Entry → List Entry → Option Entry
last_entry latest [] = latest
last_entry latest (entry ∷ rest) = last_entry (Some entry) rest

-- the sequence of an entry, where there is one
abbrev pub sequence_of : Option Entry → Option ℕ
sequence_of entry = option_map (λ (e : Entry). e.sequence) entry

-- version, problem, slot size, number of records and sequences are those of what is stored
pub record ShowsState (store : Store) (state : State) : Type 0 where
  pub version : version_in store ≡ state.version
  pub problem : problem_in store ≡ state.problem
  pub slot_size : slot_size_in store ≡ state.slot_size
  pub deltas : deltas_in store ≡ state.deltas
  pub chain : chain_in store ≡ length state.records
  pub last : last_in store ≡ sequence_of (last_entry state.latest state.records)
  pub sequences : (number : ℕ) → number ≤ length state.records → counted_in store number ≡ sequence_of (last_entry state.latest (take number state.records))

abbrev pub Shows : Store → Stored → Type 0
Shows store stored = (state : State) × (stored ≡ Held state) × ShowsState store state
