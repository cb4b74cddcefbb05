-- The latest state of a store: a whole one, with the records behind it applied.
use Rattle.std.proofs.Common.{◌≡◌, ◌≢◌, inl, inr, ⊎_elim, ℕ, zero, suc, ◌+◌, ◌-◌, ◌≤◌, ◌<◌, ◌^◌, Bool, true, false, eq-eqb, List, [], ◌∷◌, ◌++◌, length, take, drop, Option, Some, None, Result, Ok, Err, IfErr, OnOk, refl, sym, ◌∙◌, ap, subst, arith}
use Rattle.std.proofs.lemmas.Bool.{ne_eqb}
use Rattle.std.proofs.lemmas.Option.{same_Some}
use Rattle.std.specs.Prelude.{◌==◌, if◌then◌else◌, is_some, option_map}
use Rattle.amr_disk.specs.Replay.{rests_same}
use Rattle.amr_def.specs.declared.problem.Problem.{Problem}
use Rattle.amr_def.specs.State.{State}
use Rattle.amr_patch.specs.declared.meshes.Mesh.{Mesh}
use Rattle.amr_patch.specs.Meshes.{state_of}
use Rattle.amr_def.specs.Facts.{IsSound}
use Rattle.amr_payload.specs.Delta.{IsLater, delta_bytes, delta_decoded}
use Rattle.amr_payload.proofs.Deltas.{delta_back}
use Rattle.amr_store.specs.Phases.{OnlyReads}
use Rattle.amr_payload.specs.Tests.{decoded}
use Rattle.amr_store.specs.declared.part.Part.{Part}
use Rattle.amr_store.specs.declared.part.Part.TheVariants as part
use Rattle.amr_store.specs.declared.part.StoreFault.{StoreFault}
use Rattle.amr_store.specs.declared.store.Store.{Store}
use Rattle.amr_store.specs.Reasons.{HasReason, is_shut_fault}
use Rattle.amr_store.specs.Shown.{ShowsState, last_entry, payload_of, record_in, record_of}
use Rattle.amr_store.specs.Stands.{SameStore, is_shut, chain_in, counted_in, deltas_in, last_in, slots_in, problem_in, slot_size_in, version_in}
use Rattle.amr_store.specs.Stored as store
use Rattle.amr_store.specs.Table.{latest_base, last_of, sequence_in, slot_at, chain_of}
use Rattle.amr_checkpoint.proofs.Causes.{disk_fault_of, other_fault_of}
use Rattle.amr_checkpoint.specs.declared.latest.StateFault.{StateFault}
use Rattle.amr_checkpoint.specs.declared.latest.StateFault.TheVariants.{Damaged as damaged, Refused}
use Rattle.amr_checkpoint.specs.Checkpoints.{IsMeshFor, IsStoreFor, content_at_mesh}
use Rattle.amr_checkpoint.specs.Contents.{At, Content, Damaged, chain_read, in_sequence, latest_read, mass_width, payload_read, record_read, records_read, room_for, then_on, IsStorable}
use Rattle.amr_checkpoint.specs.declared.faults.CheckpointFault.{CheckpointFault}
use Rattle.amr_checkpoint.specs.declared.faults.CheckpointFault.TheVariants.{DiskFault}
use Rattle.amr_checkpoint.specs.Reasons.{fault_of_call}
use Rattle.amr_checkpoint.specs.Reads.{FailsAs, IsHeldOn, IsNextRead, IsOpenStill, ReadsAs, ReadsLatest, ReadsNext, ReadsWhole, StaysRead}

-- ---- a sequence

in_step : (q : ℕ) (s : State) → q ≡ s.step + 1 → in_sequence q (Ok s) ≡ Some s
in_step q s is = ap (λ (b : Bool). if b then Some s else None) (eq-eqb q (s.step + 1) is)

out_of_step : (q : ℕ) (s : State) → q ≢ s.step + 1 → in_sequence q (Ok s) ≡ None
out_of_step q s other = ap (λ (b : Bool). if b then Some s else None) (ne_eqb q (s.step + 1) other)

-- a state that was read, and whose sequence is its step and one
pub read_in_step : (sequence : Option ℕ) (q : ℕ) (m : Mesh) (r : Result State ℕ) (damage : Part) → sequence ≡ Some q → r ≡ Ok (state_of m) → sequence ≡ Some ((state_of m).step + 1) → ReadsAs (in_sequence q r) damage (Ok m)
read_in_step sequence q m r damage is read here =
    ap (in_sequence q) read ∙ in_step q (state_of m) (same_Some q ((state_of m).step + 1) (sym is ∙ here))

-- or is not
pub read_out_of_step : (sequence : Option ℕ) (q : ℕ) (m : Mesh) (r : Result State ℕ) (damage : Part) → sequence ≡ Some q → r ≡ Ok (state_of m) → (sequence ≡ Some ((state_of m).step + 1) → ⊥)
    → ReadsAs (in_sequence q r) damage (Err (damaged damage))
read_out_of_step sequence q m r damage is read out =
    (ap (in_sequence q) read ∙ out_of_step q (state_of m) (λ same. out (is ∙ ap (λ n. Some n) same)), refl)

pub whole_in_step : (sequence : Option ℕ) (q : ℕ) (m : Mesh) (r : Result State ℕ) → sequence ≡ Some q → r ≡ Ok (state_of m) → sequence ≡ Some ((state_of m).step + 1) → ReadsWhole q r (Ok m)
whole_in_step sequence q m r is read here =
    subst (λ (d : Result State ℕ). ReadsWhole q d (Ok m)) (sym read) (in_step q (state_of m) (same_Some q ((state_of m).step + 1) (sym is ∙ here)))

pub whole_out_of_step : (sequence : Option ℕ) (q : ℕ) (m : Mesh) (r : Result State ℕ) → sequence ≡ Some q → r ≡ Ok (state_of m) → (sequence ≡ Some ((state_of m).step + 1) → ⊥) → ReadsWhole q r (Err (damaged part.Sequence))
whole_out_of_step sequence q m r is read out =
    subst (λ (d : Result State ℕ). ReadsWhole q d (Err (damaged part.Sequence))) (sym read)
    (out_of_step q (state_of m) (λ same. out (is ∙ ap (λ n. Some n) same)), refl)

pub whole_bad : (q place : ℕ) (r : Result State ℕ) → r ≡ Err place → ReadsWhole q r (Err (damaged (part.State place)))
whole_bad q place r is = subst (λ (d : Result State ℕ). ReadsWhole q d (Err (damaged (part.State place)))) (sym is) (refl, refl)

pub whole_refused : (q : ℕ) (r : Result State ℕ) (fault : _) → ReadsWhole q r (Err (Refused fault))
whole_refused q (Err place) fault = tt
whole_refused q (Ok s) fault = tt

-- ---- the records

-- the record of a number, among all
pub record Numbered (latest : Option store.Entry) (records : List store.Entry) (before : ℕ) (bytes : List ℕ) : Type 0 where
  pub entry : store.Entry
  pub first : drop before records ≡ entry ∷ drop (suc before) records
  pub payload : entry.payload ≡ bytes
  pub last : last_entry latest (take (suc before) records) ≡ Some entry

pub numbered : (latest : Option store.Entry) (records : List store.Entry) (before : ℕ) (bytes : List ℕ) → record_of records (suc before) ≡ Some bytes → Numbered latest records before bytes
numbered latest [] before bytes is = absurd (let wrong : None ≡ Some bytes = is in cc)
numbered latest (e ∷ rest) zero bytes is = record { entry = e; first = refl; payload = same_Some e.payload bytes is; last = refl }
numbered latest (e ∷ rest) (suc n) bytes is =
    let more = numbered (Some e) rest n bytes is in
    record { entry = more.entry; first = more.first; payload = more.payload; last = more.last }

-- what a record is, by its bytes and the sequence in memory
next_is : (p : Problem) (old : State) (held : store.State) (s : Store) (seen : Option (List ℕ)) (before number : ℕ) (bytes : List ℕ) (sequence : Option ℕ) (result : Result Mesh StateFault) → IsHeldOn seen s held → before + 1 ≡ number
    → number ≤ chain_in s → ((image : List ℕ) → seen ≡ Some image → Some bytes ≡ record_in (store.stored image) number) → sequence ≡ counted_in s number
    → ((q : ℕ) → sequence ≡ Some q → ReadsAs (record_read p old (record { sequence = q; payload = bytes })) (part.Chain number) result) → IsNextRead p old number (drop before held.records) (drop (before + 1) held.records) result
next_is p old held s seen before number bytes sequence result on is within told sequence_is reads =
    let suc_is : suc before ≡ number = omega (arith, is) in
    let here : Some bytes ≡ record_of held.records number = told on.image on.told ∙ ap (λ (st : store.Stored). record_in st number) on.is in
    let n : Numbered held.latest held.records before bytes = numbered held.latest held.records before bytes (ap (record_of held.records) suc_is ∙ sym here) in
    let by : counted_in s number ≡ Some n.entry.sequence =
    on.shows.sequences number (omega (arith, within, on.shows.chain))
    ∙ ap (λ k. option_map (λ (e : store.Entry). e.sequence) (last_entry held.latest (take k held.records))) (sym suc_is)
    ∙ ap (option_map (λ (e : store.Entry). e.sequence)) n.last in
    record {
      entry = n.entry;
      first = n.first ∙ ap (λ k. n.entry ∷ drop k held.records) (let e : suc before ≡ before + 1 = omega arith in e);
      reads = subst (λ (b : List ℕ). ReadsAs (record_read p old (record { sequence = n.entry.sequence; payload = b })) (part.Chain number) result) (sym n.payload) (reads n.entry.sequence (sequence_is ∙ by));
    }

pub next_read : (p : Problem) (old : State) (held : store.State) (s : Store) (seen : Option (List ℕ)) (before number : ℕ) (bytes : List ℕ) (sequence : Option ℕ) (result : Result Mesh StateFault) → IsHeldOn seen s held → before + 1 ≡ number
    → number ≤ chain_in s → ((image : List ℕ) → seen ≡ Some image → Some bytes ≡ record_in (store.stored image) number) → sequence ≡ counted_in s number
    → ((q : ℕ) → sequence ≡ Some q → ReadsAs (record_read p old (record { sequence = q; payload = bytes })) (part.Chain number) result) → ReadsNext p old number (drop before held.records) (drop (before + 1) held.records) result
next_read p old held s seen before number bytes sequence (Ok m) on is within told sequence_is reads = next_is p old held s seen before number bytes sequence (Ok m) on is within told sequence_is reads
next_read p old held s seen before number bytes sequence (Err (damaged found)) on is within told sequence_is reads = next_is p old held s seen before number bytes sequence (Err (damaged found)) on is within told sequence_is reads
next_read p old held s seen before number bytes sequence (Err (Refused fault)) on is within told sequence_is reads = tt

-- ---- why it was not read

-- a call of the store was refused
pub fails_by_call : (T : Type 0) (before now : ℕ) (fault : StoreFault) (reason : CheckpointFault) → reason ≡ fault_of_call fault → HasReason {T = T} before now (Err fault) → is_shut_fault {T = T} (Err fault) ≡ false
    → FailsAs {T = Mesh} before now (Err (Refused reason))
fails_by_call T before now fault reason is causes unshut = record {
  later = causes.later;
  failed = λ by. causes.failed (disk_fault_of T fault (let same : reason ≡ DiskFault = cc in sym is ∙ same) unshut);
  no_fault = λ other. causes.no_fault (other_fault_of T fault (λ by. other (ap (λ (f : CheckpointFault). Err (Refused f)) (is ∙ by))));
}

-- the disk did not fail
pub fails_not : (before now : ℕ) (result : Result Mesh StateFault) → now ≡ before → IfErr result (λ fault. fault ≢ Refused DiskFault) → FailsAs before now result
fails_not before now (Ok m) same other = record { later = omega (arith, same); failed = λ is. absurd (cc); no_fault = λ o. same }
fails_not before now (Err fault) same other = record { later = omega (arith, same); failed = λ is. absurd (other (let by : fault ≡ Refused DiskFault = cc in by)); no_fault = λ o. same }

-- a record that is read leaves those behind it
pub read_on : (p : Problem) (old : State) (j : ℕ) (records rest : List store.Entry) (m : Mesh) → ReadsNext p old j records rest (Ok m) → records_read p j old records ≡ records_read p (j + 1) (state_of m) rest
read_on p old j records rest m next =
    ap (records_read p j old) next.first ∙ ap (λ (o : Option State). then_on j o (λ s. records_read p (j + 1) s rest)) next.reads

pub read_bad : (p : Problem) (old : State) (j : ℕ) (records rest : List store.Entry) (found : Part) → ReadsNext p old j records rest (Err (damaged found)) → (records_read p j old records ≡ Err j) × (found ≡ part.Chain j)
read_bad p old j records rest found next =
    (ap (records_read p j old) next.first ∙ ap (λ (o : Option State). then_on j o (λ s. records_read p (j + 1) s rest)) next.reads.0, next.reads.1)

-- a record that was decoded
pub record_decoded : (p : Problem) (old s : State) (q : ℕ) (bytes : List ℕ) → q ≡ old.step + 1 → q < 2 ^ 64 → IsSound p old → IsSound p s → IsLater old s → bytes ≡ delta_bytes old q s → delta_decoded p old (old.step + 1) bytes ≡ Ok s
record_decoded p old s q bytes is small sound_old sound later bytes_are =
    ap (λ n. delta_decoded p old n bytes) (sym is) ∙ ap (delta_decoded p old q) bytes_are ∙ delta_back p old q s small sound_old sound later

-- nor did it before
pub fails_from : {T : Type 0} (old before now : ℕ) (result : Result T StateFault) → before ≡ old → FailsAs before now result → FailsAs old now result
fails_from old before now result same fails = subst (λ n. FailsAs n now result) same fails

-- ---- the latest state

-- what the whole state makes of the store, and where the records are still to come
whole_from : (bytes : List ℕ) (p : Problem) (q : ℕ) (records : List store.Entry) (s : State) (m : Mesh) (b : Bool) → (if b then Some s else None) ≡ Some (state_of m)
    → (if b then chain_read bytes p (records_read p 1 s records) else Damaged part.Sequence) ≡ chain_read bytes p (records_read p 1 (state_of m) records)
whole_from bytes p q records s m true is = ap (λ (t : State). chain_read bytes p (records_read p 1 t records)) (same_Some s (state_of m) is)
whole_from bytes p q records s m false is = absurd (cc)

whole_is : (bytes : List ℕ) (p : Problem) (q : ℕ) (records : List store.Entry) (r : Result State ℕ) (m : Mesh) → ReadsWhole q r (Ok m) → payload_read bytes p q records r ≡ chain_read bytes p (records_read p 1 (state_of m) records)
whole_is bytes p q records (Err place) m reads = absurd (cc)
whole_is bytes p q records (Ok s) m reads = whole_from bytes p q records s m (q == (s.step + 1)) reads

whole_damage : (bytes : List ℕ) (p : Problem) (records : List store.Entry) (s : State) (found : Part) (b : Bool) → (if b then Some s else None) ≡ None → found ≡ part.Sequence
    → (if b then chain_read bytes p (records_read p 1 s records) else Damaged part.Sequence) ≡ Damaged found
whole_damage bytes p records s found true is same = absurd (cc)
whole_damage bytes p records s found false is same = ap Damaged (sym same)

whole_damaged : (bytes : List ℕ) (p : Problem) (q : ℕ) (records : List store.Entry) (r : Result State ℕ) (found : Part) → ReadsWhole q r (Err (damaged found)) → payload_read bytes p q records r ≡ Damaged found
whole_damaged bytes p q records (Err place) found reads = ap Damaged (sym reads.1)
whole_damaged bytes p q records (Ok s) found reads = whole_damage bytes p records s found (q == (s.step + 1)) reads.0 reads.1

-- by the bytes and the sequence in memory
latest_by : (held : store.State) (p : Problem) (entry : store.Entry) (s : Store) (bytes : List ℕ) (sequence : Option ℕ) (version : ℕ) (result : Result Mesh StateFault) → ShowsState s held → held.latest ≡ Some entry → entry.payload ≡ bytes
    → sequence ≡ counted_in s 0 → version ≡ version_in s → ((q : ℕ) → sequence ≡ Some q → ReadsWhole q (decoded (mass_width version) p bytes) result)
    → ReadsWhole entry.sequence (decoded (mass_width held.version) p entry.payload) result
latest_by held p entry s bytes sequence version result shows latest payload sequence_is version_is reads =
    let by : sequence ≡ Some entry.sequence = sequence_is ∙ shows.sequences 0 (omega arith) ∙ ap (option_map (λ (e : store.Entry). e.sequence)) latest in
    subst (λ (b : List ℕ). ReadsWhole entry.sequence (decoded (mass_width held.version) p b) result) (sym payload)
    (subst (λ v. ReadsWhole entry.sequence (decoded (mass_width v) p bytes) result) (version_is ∙ shows.version) (reads entry.sequence by))

-- of the whole state, before a record is read
pub first_applied : (held : store.State) (p : Problem) (entry : store.Entry) (s : Store) (bytes : List ℕ) (sequence : Option ℕ) (version : ℕ) (m : Mesh) → ShowsState s held → held.latest ≡ Some entry → entry.payload ≡ bytes
    → sequence ≡ counted_in s 0 → version ≡ version_in s → ((q : ℕ) → sequence ≡ Some q → ReadsWhole q (decoded (mass_width version) p bytes) (Ok m))
    → latest_read held p held.latest ≡ chain_read held.problem p (records_read p 1 (state_of m) held.records)
first_applied held p entry s bytes sequence version m shows latest payload sequence_is version_is reads =
    ap (latest_read held p) latest
    ∙ whole_is held.problem p entry.sequence held.records (decoded (mass_width held.version) p entry.payload) m (latest_by held p entry s bytes sequence version (Ok m) shows latest payload sequence_is version_is reads)

pub first_unread : (held : store.State) (p : Problem) (entry : store.Entry) (s : Store) (bytes : List ℕ) (sequence : Option ℕ) (version : ℕ) (fault : StateFault) → ShowsState s held → held.latest ≡ Some entry → entry.payload ≡ bytes
    → sequence ≡ counted_in s 0 → version ≡ version_in s → ((q : ℕ) → sequence ≡ Some q → ReadsWhole q (decoded (mass_width version) p bytes) (Err fault)) → ReadsLatest (latest_read held p held.latest) held.problem p (Err fault)
first_unread held p entry s bytes sequence version (damaged found) shows latest payload sequence_is version_is reads =
    ap (latest_read held p) latest
    ∙ whole_damaged held.problem p entry.sequence held.records (decoded (mass_width held.version) p entry.payload) found
    (latest_by held p entry s bytes sequence version (Err (damaged found)) shows latest payload sequence_is version_is reads)
first_unread held p entry s bytes sequence version (Refused fault) shows latest payload sequence_is version_is reads = tt

-- what is stored, to a store that was read from
pub still_held : (seen later : Option (List ℕ)) (old new : Store) (held : store.State) → StaysRead old new → later ≡ seen → IsHeldOn seen old held → IsHeldOn later new held
still_held seen later old new held stays same on =
    let slots = stays.slots in
    let deltas = stays.same.deltas in
    let chain : chain_in new ≡ chain_in old = ap (λ d. chain_of d (slots_in new)) deltas ∙ ap (chain_of (deltas_in old)) slots in
    let counted : (n : ℕ) → counted_in new n ≡ counted_in old n =
    λ n. ap (λ d. sequence_in (slot_at (slots_in new) (latest_base d (slots_in new) + n))) deltas ∙ ap (λ (l : _). sequence_in (slot_at l (latest_base (deltas_in old) l + n))) slots in
    let last : last_in new ≡ last_in old = ap (λ d. last_of d (slots_in new)) deltas ∙ ap (last_of (deltas_in old)) slots in
    record {
      image = on.image;
      told = same ∙ on.told;
      is = on.is;
      shows = record {
        version = stays.same.version ∙ on.shows.version;
        problem = stays.same.problem ∙ on.shows.problem;
        slot_size = stays.same.slot_size ∙ on.shows.slot_size;
        deltas = deltas ∙ on.shows.deltas;
        chain = chain ∙ on.shows.chain;
        last = last ∙ on.shows.last;
        sequences = λ n few. counted n ∙ on.shows.sequences n few;
      };
    }

pub counted_still : (old new : Store) (n : ℕ) → StaysRead old new → counted_in new n ≡ counted_in old n
counted_still old new n stays =
    ap (λ d. sequence_in (slot_at (slots_in new) (latest_base d (slots_in new) + n))) stays.same.deltas ∙ ap (λ (l : _). sequence_in (slot_at l (latest_base (deltas_in old) l + n))) stays.slots

pub chain_still : (old new : Store) → StaysRead old new → chain_in new ≡ chain_in old
chain_still old new stays = ap (λ d. chain_of d (slots_in new)) stays.same.deltas ∙ ap (chain_of (deltas_in old)) stays.slots

pub stays_on : (old mid new : Store) → StaysRead old mid → StaysRead mid new → StaysRead old new
stays_on old mid new first second = record {
  same = record {
    version = second.same.version ∙ first.same.version;
    problem = second.same.problem ∙ first.same.problem;
    slot_size = second.same.slot_size ∙ first.same.slot_size;
    base = second.same.base ∙ first.same.base;
    deltas = second.same.deltas ∙ first.same.deltas;
  };
  slots = second.slots ∙ first.slots;
}

pub stays_same : (s : Store) → StaysRead s s
stays_same s = record { same = record { version = refl; problem = refl; slot_size = refl; base = refl; deltas = refl }; slots = refl }

-- the first so many records were applied
pub record IsApplied {D : Type 0} (seen : D → Option (List ℕ)) (moment : D → ℕ) (leaves : D → ℕ → List ℕ → Type 0) (faults : D → ℕ) (p : Problem) (bytes : List ℕ) (first now : Store) (before disk : D) (count : ℕ) (mesh : Mesh) : Type 0 where
  pub mesh_is : IsMeshFor p mesh
  pub sequence : counted_in first count ≡ Some ((state_of mesh).step + 1)
  pub same : StaysRead first now
  pub opened : IsOpenStill seen moment leaves now disk
  pub reads : OnlyReads seen moment leaves before disk
  pub no_fault : faults disk ≡ faults before
  pub so_far : (held : store.State) (entry : store.Entry) → IsHeldOn (seen before) first held → held.latest ≡ Some entry → entry.payload ≡ bytes
      → latest_read held p held.latest ≡ chain_read held.problem p (records_read p (count + 1) (state_of mesh) (drop count held.records))

-- one more
pub applied_on : (held : store.State) (p : Problem) (k : ℕ) (m n : Mesh) → latest_read held p held.latest ≡ chain_read held.problem p (records_read p (k + 1) (state_of m) (drop k held.records))
    → ReadsNext p (state_of m) (k + 1) (drop k held.records) (drop (k + 1) held.records) (Ok n) → latest_read held p held.latest ≡ chain_read held.problem p (records_read p (k + 1 + 1) (state_of n) (drop (k + 1) held.records))
applied_on held p k m n so_far next =
    so_far ∙ ap (chain_read held.problem p) (read_on p (state_of m) (k + 1) (drop k held.records) (drop (k + 1) held.records) n next)

pub unapplied : (held : store.State) (p : Problem) (k number : ℕ) (m : Mesh) (fault : StateFault) → latest_read held p held.latest ≡ chain_read held.problem p (records_read p number (state_of m) (drop k held.records))
    → ReadsNext p (state_of m) number (drop k held.records) (drop (k + 1) held.records) (Err fault) → ReadsLatest (latest_read held p held.latest) held.problem p (Err fault)
unapplied held p k number m (damaged found) so_far next =
    let bad = read_bad p (state_of m) number (drop k held.records) (drop (k + 1) held.records) found next in
    so_far ∙ ap (chain_read held.problem p) bad.0 ∙ ap Damaged (sym bad.1)
unapplied held p k number m (Refused fault) so_far next = tt

none_left : {A : Type 0} (xs : List A) (k : ℕ) → length xs ≡ k → drop k xs ≡ []
none_left [] zero is = refl
none_left [] (suc k) is = refl
none_left (x ∷ xs) zero is = absurd (let wrong : ⊥ = omega (arith, is) in wrong)
none_left (x ∷ xs) (suc k) is = none_left xs k (omega (arith, is))

-- all of them
pub all_applied : (held : store.State) (p : Problem) (k number : ℕ) (m : Mesh) → length held.records ≡ k → latest_read held p held.latest ≡ chain_read held.problem p (records_read p number (state_of m) (drop k held.records))
    → ReadsLatest (latest_read held p held.latest) held.problem p (Ok m)
all_applied held p k number m all so_far = so_far ∙ ap (λ (l : List store.Entry). chain_read held.problem p (records_read p number (state_of m) l)) (none_left held.records k all)

-- what holds whatever a call gave
pub where_ok : {T E : Type 0} (r : Result T E) (P : Type 0) → P → OnOk r P
where_ok (Ok x) P holds = holds
where_ok (Err e) P holds = tt

-- a disk that was not called
pub reads_none : {D : Type 0} (seen : D → Option (List ℕ)) (moment : D → ℕ) (leaves : D → ℕ → List ℕ → Type 0) (d : D) → OnlyReads seen moment leaves d d
reads_none seen moment leaves d = record { same = refl; images = rests_same (seen d) (moment d) (leaves d) }

-- ---- a store that was read from

-- the whole state that its bytes are of
pub entry_of : (latest : Option store.Entry) (bytes : List ℕ) → Some bytes ≡ payload_of latest → (entry : store.Entry) × (latest ≡ Some entry) × (entry.payload ≡ bytes)
entry_of None bytes is = absurd (cc)
entry_of (Some entry) bytes is = (entry, refl, sym (same_Some bytes entry.payload is))

pub no_entry_of : (latest : Option store.Entry) → None ≡ payload_of latest → latest ≡ None
no_entry_of None is = refl
no_entry_of (Some entry) is = absurd (cc)

pub not_some : (last : Option ℕ) → false ≡ is_some last → last ≡ None
not_some None is = refl
not_some (Some last) is = absurd (cc)

pub last_still : (old new : Store) → StaysRead old new → last_in new ≡ last_in old
last_still old new stays = ap (λ d. last_of d (slots_in new)) stays.same.deltas ∙ ap (last_of (deltas_in old)) stays.slots

pub store_stays : (old new : Store) (p : Problem) → IsStoreFor p old → SameStore old new → is_shut new ≡ false → IsStoreFor p new
store_stays old new p of same unshut = record {
  accepted = subst (λ (b : List ℕ). IsStorable b p) (sym same.problem) of.accepted;
  room = same.slot_size ∙ of.room ∙ ap (λ v. room_for v p) (sym same.version);
  unshut = unshut;
}
