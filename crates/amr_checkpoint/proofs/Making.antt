-- What calls make of a store is held, and a state that is held is sound.
use Rattle.std.proofs.Common.{◌≡◌, inr, ℕ, zero, suc, ◌+◌, ◌^◌, ◌<◌, Bool, true, false, List, [], ◌∷◌, ◌++◌, Option, Some, None, Result, Ok, Err, drop, refl, sym, ◌∙◌, ap, subst, All, eq-eqb, arith}
use Rattle.std.proofs.lemmas.List.Elements.{All-cons, All-drop, All-head, All-nil, All-push, All-tail, All-take}
use Rattle.std.proofs.lemmas.Option.{same_Some}
use Rattle.std.specs.Prelude.{◌==◌, if◌then◌else◌, slice_range}
use Rattle.std.specs.Int.{w32}
use Rattle.amr_def.specs.declared.problem.Problem.{Problem}
use Rattle.amr_def.specs.Facts.{IsSound}
use Rattle.amr_def.specs.State.{State}
use Rattle.amr_payload.specs.Delta.{IsLater, delta_bytes, delta_decoded}
use Rattle.amr_payload.specs.Payload.{payload, slot_size}
use Rattle.amr_payload.specs.Tests.{decoded}
use Rattle.amr_payload.proofs.Deltas.{delta_back, delta_is}
use Rattle.amr_payload.proofs.ReadStates.{decoded_is}
use Rattle.amr_payload.proofs.WriteStates.{read_back}
use Rattle.amr_payload.proofs.Bytes.{IsByte}
use Rattle.amr_store.specs.declared.part.Part.{Part}
use Rattle.amr_store.specs.declared.part.Part.TheVariants as part
use Rattle.amr_store.specs.Created.{state_with}
use Rattle.amr_store.specs.Layout.{long_at}
use Rattle.amr_store.specs.Table.{chain_of, latest_base, table}
use Rattle.amr_store.specs.Renewed.{renewed_state}
use Rattle.amr_store.specs.Stored as store
use Rattle.amr_checkpoint.specs.Contents.{Damaged, Fresh, At, IsStorable, StoreHolds, chain_read, in_sequence, latest_read, mass_width, payload_read, record_read, records_read, room_for, store_read, then_on}
use Rattle.amr_checkpoint.specs.Laws.{IsSoundAt, StoresProblem}
use Rattle.amr_checkpoint.proofs.Readings.{IsAt, at_of, is_mass_width}

-- a store with room for its problem's states reads by its latest one
pub store_reads : (held : store.State) (p : Problem) → held.slot_size ≡ room_for held.version p → store_read held p ≡ latest_read held p held.latest
store_reads held p room = ap (λ (b : Bool). if b then latest_read held p held.latest else Damaged part.Size) (eq-eqb held.slot_size (room_for held.version p) room)

-- by the whole state and the records behind it
chain_is_read : (bytes : List ℕ) (p : Problem) (base : State) (q : ℕ) (records : List store.Entry) → q ≡ base.step + 1 → payload_read bytes p q records (Ok base) ≡ chain_read bytes p (records_read p 1 base records)
chain_is_read bytes p base q records is = ap (λ (b : Bool). if b then chain_read bytes p (records_read p 1 base records) else Damaged part.Sequence) (eq-eqb q (base.step + 1) is)

store_reads_at : (held : store.State) (p : Problem) (entry : store.Entry) (base s : State) → held.slot_size ≡ room_for held.version p → held.latest ≡ Some entry → decoded (mass_width held.version) p entry.payload ≡ Ok base
    → entry.sequence ≡ base.step + 1 → records_read p 1 base held.records ≡ Ok s → store_read held p ≡ At held.problem p s (s.step + 1)
store_reads_at held p entry base s room latest read here applied =
    store_reads held p room
    ∙ ap (λ (l : Option store.Entry). latest_read held p l) latest
    ∙ ap (λ (r : Result State ℕ). payload_read held.problem p entry.sequence held.records r) read
    ∙ chain_is_read held.problem p base entry.sequence held.records here
    ∙ ap (chain_read held.problem p) applied

-- a store that reads as this content holds it
pub held_as : (held : store.State) (bytes : List ℕ) (p : Problem) (s : State) → StoresProblem held bytes p → store_read held p ≡ At held.problem p s (s.step + 1) → StoreHolds (store.Held held) (At bytes p s (s.step + 1))
held_as held bytes p s of is =
    inr record {
      problem = p;
      accepted = subst (λ (b : List ℕ). IsStorable b p) (sym of.bytes_are) of.accepted;
      content_is = ap (λ (b : List ℕ). At b p s (s.step + 1)) (sym of.bytes_are) ∙ sym is;
    }

pub creation_holds : (stored : store.Stored) (bytes : List ℕ) (p : Problem) (version deltas : ℕ) → IsStorable bytes p → stored ≡ store.Held (state_with version deltas bytes (room_for version p)) → StoreHolds stored (Fresh bytes p)
creation_holds stored bytes p version deltas accepted is =
    let made : store.State = state_with version deltas bytes (room_for version p) in
    subst (λ (st : store.Stored). StoreHolds st (Fresh bytes p)) (sym is) (inr record { problem = p; accepted = accepted; content_is = sym (store_reads made p refl) })

-- a whole state with no record behind it
pub held_at : (held : store.State) (bytes : List ℕ) (p : Problem) (s : State) → StoresProblem held bytes p → IsSound p s
    → held.latest ≡ Some record { sequence = s.step + 1; payload = payload (mass_width held.version) s } → held.records ≡ [] → StoreHolds (store.Held held) (At bytes p s (s.step + 1))
held_at held bytes p s of sound latest none =
    held_as held bytes p s of
    (store_reads_at held p (record { sequence = s.step + 1; payload = payload (mass_width held.version) s }) s s of.room latest (read_back (mass_width held.version) p s (is_mass_width held.version) sound) refl (ap (records_read p 1 s) none))

pub put_holds : (before stored : store.Stored) (bytes : List ℕ) (p : Problem) (held : store.State) (s : State) → before ≡ store.Held held → StoresProblem held bytes p → IsSound p s
    → stored ≡ store.with_latest before (s.step + 1) (payload (mass_width held.version) s) → StoreHolds stored (At bytes p s (s.step + 1))
put_holds before stored bytes p held s was of sound is =
    let after : store.State = record held { latest = Some record { sequence = s.step + 1; payload = payload (mass_width held.version) s }; records = [] } in
    let put : stored ≡ store.Held after = is ∙ ap (λ (b : store.Stored). store.with_latest b (s.step + 1) (payload (mass_width held.version) s)) was in
    subst (λ (st : store.Stored). StoreHolds st (At bytes p s (s.step + 1))) (sym put)
    (held_at after bytes p s (record { bytes_are = of.bytes_are; accepted = of.accepted; room = of.room }) sound refl refl)

pub renewal_holds : (stored : store.Stored) (bytes : List ℕ) (p : Problem) (s : State) → IsStorable bytes p → IsSound p s
    → stored ≡ store.Held (renewed_state bytes (slot_size w32 p) (s.step + 1) (payload w32 s)) → StoreHolds stored (At bytes p s (s.step + 1))
renewal_holds stored bytes p s accepted sound is =
    let made : store.State = renewed_state bytes (slot_size w32 p) (s.step + 1) (payload w32 s) in
    subst (λ (st : store.Stored). StoreHolds st (At bytes p s (s.step + 1))) (sym is)
    (held_at made bytes p s (record { bytes_are = refl; accepted = accepted; room = refl }) sound refl refl)

-- ---- a record

-- one more record behind others
after_one : (p : Problem) (j : ℕ) (r : Option State) (rs : List store.Entry) (old : State) → then_on j r (λ next. records_read p (j + 1) next rs) ≡ Ok old → (next : State) × (r ≡ Some next) × (records_read p (j + 1) next rs ≡ Ok old)
after_one p j None rs old is = absurd (cc)
after_one p j (Some next) rs old is = (next, refl, is)

records_more : (p : Problem) (j : ℕ) (base old s : State) (rs : List store.Entry) (e : store.Entry) → records_read p j base rs ≡ Ok old → record_read p old e ≡ Some s → records_read p j base (rs ++ e ∷ []) ≡ Ok s
records_more p j base old s [] e is read =
    let same : base ≡ old = cc in
    ap (λ (o : Option State). then_on j o (λ next. Ok next)) (ap (λ (t : State). record_read p t e) same ∙ read)
records_more p j base old s (r ∷ rs) e is read =
    let one = after_one p j (record_read p base r) rs old is in
    ap (λ (o : Option State). then_on j o (λ next. records_read p (j + 1) next (rs ++ e ∷ []))) one.1 ∙ records_more p (j + 1) one.0 old s rs e one.2 read

-- the record of a later state is read as that state
record_is_read : (p : Problem) (old s : State) → old.step + 1 < 2 ^ 64 → IsSound p old → IsSound p s → IsLater old s → record_read p old (record { sequence = s.step + 1; payload = delta_bytes old (old.step + 1) s }) ≡ Some s
record_is_read p old s small sound_old sound later =
    ap (in_sequence (s.step + 1)) (delta_back p old (old.step + 1) s small sound_old sound later)
    ∙ ap (λ (b : Bool). if b then Some s else None) (eq-eqb (s.step + 1) (s.step + 1) refl)

small_step : (p : Problem) (s : State) → IsSound p s → s.step + 1 < 2 ^ 64
small_step p s sound = let limit = p.limits.greatest_steps in omega (arith, limit, sound.within)

pub record_holds : (before stored : store.Stored) (bytes : List ℕ) (p : Problem) (old s : State) → StoreHolds before (At bytes p old (old.step + 1)) → IsSound p old → IsSound p s → IsLater old s
    → stored ≡ store.with_record before (s.step + 1) (delta_bytes old (old.step + 1) s) → StoreHolds stored (At bytes p s (s.step + 1))
record_holds before stored bytes p old s held_before sound_old sound later is =
    let by = at_of before bytes p old (old.step + 1) held_before in
    let at : IsAt by.held by.problem bytes p old (old.step + 1) = by.tells in
    let e : store.Entry = record { sequence = s.step + 1; payload = delta_bytes old (old.step + 1) s } in
    let after : store.State = record by.held { records = by.held.records ++ e ∷ [] } in
    let put : stored ≡ store.Held after = is ∙ ap (λ (b : store.Stored). store.with_record b (s.step + 1) (delta_bytes old (old.step + 1) s)) by.stored_is in
    let room : by.held.slot_size ≡ room_for by.held.version p = subst (λ (q : Problem). by.held.slot_size ≡ room_for by.held.version q) (sym at.problem_is) at.room in
    let accepted : IsStorable bytes p = subst (λ (q : Problem). IsStorable bytes q) (sym at.problem_is) (subst (λ (b : List ℕ). IsStorable b by.problem) (sym at.bytes_are) by.accepted) in
    let read : decoded (mass_width by.held.version) p at.entry.payload ≡ Ok at.base = subst (λ (q : Problem). decoded (mass_width by.held.version) q at.entry.payload ≡ Ok at.base) (sym at.problem_is) at.read in
    let applied : records_read p 1 at.base by.held.records ≡ Ok old = subst (λ (q : Problem). records_read q 1 at.base by.held.records ≡ Ok old) (sym at.problem_is) at.applied in
    subst (λ (st : store.Stored). StoreHolds st (At bytes p s (s.step + 1))) (sym put)
    (held_as after bytes p s (record { bytes_are = sym at.bytes_are; accepted = accepted; room = room })
    (store_reads_at after p at.entry at.base s room at.latest read at.base_sequence
    (records_more p 1 at.base old s by.held.records e applied (record_is_read p old s (small_step p old sound_old) sound_old sound later))))

-- ---- sound

abbrev HasBytes : Option store.Entry → Type 0
HasBytes None = Unit {0}
HasBytes (Some entry) = All IsByte entry.payload

abbrev IsByteEntry : store.Entry → Type 0
IsByteEntry entry = All IsByte entry.payload

abbrev HasByteRecords : List store.Entry → Type 0
HasByteRecords records = All IsByteEntry records

entry_bytes : (part : List ℕ) (gate : ℕ) → All IsByte part → HasBytes (store.entry_at part gate)
entry_bytes part gate small = chosen (store.is_open part gate)
  where
    chosen : (b : Bool) → HasBytes (if b then Some record { sequence = long_at part (gate + 1); payload = slice_range part (gate + 17) (gate + 17 + long_at part (gate + 9)) } else None)
    chosen true = All-take IsByte _ (drop (gate + 17) part) (All-drop IsByte (gate + 17) part small)
    chosen false = tt

-- the payload of the latest whole state is bytes, and so is each record's
state_bytes : (part : List ℕ) → All IsByte part → HasBytes (store.state_of part).latest
state_bytes part small = entry_bytes part (store.gate_of part (latest_base (store.deltas_of part) (store.slots_of part))) small

somes_bytes : (os : List (Option store.Entry)) → All HasBytes os → HasByteRecords (store.somes os)
somes_bytes [] all = All-nil IsByteEntry
somes_bytes (None ∷ os) all = somes_bytes os (All-tail HasBytes None os all)
somes_bytes (Some e ∷ os) all = All-cons IsByteEntry e (store.somes os) (All-head HasBytes (Some e) os all) (somes_bytes os (All-tail HasBytes (Some e) os all))

table_bytes : (f : ℕ → Option store.Entry) (n : ℕ) → ((k : ℕ) → HasBytes (f k)) → All HasBytes (table f n)
unfolding table
table_bytes f zero each = All-nil HasBytes
table_bytes f (suc n) each = All-push HasBytes (table f n) (f n) (table_bytes f n each) (each n)

records_bytes : (part : List ℕ) → All IsByte part → HasByteRecords (store.state_of part).records
records_bytes part small = somes_bytes _ (table_bytes _ (chain_of (store.deltas_of part) (store.slots_of part)) (λ k. entry_bytes part _ small))

judged_held : (b : Bool) (damage : Option Part) (st held : store.State) → store.judged b damage st ≡ store.Held held → st ≡ held
judged_held true damage st held is = absurd (cc)
judged_held false (Some d) st held is = absurd (cc)
judged_held false None st held is = cc

record HasByteStates (held : store.State) : Type 0 where
  latest : HasBytes held.latest
  records : HasByteRecords held.records

held_bytes : (image : List ℕ) (held : store.State) → All IsByte image → store.stored image ≡ store.Held held → HasByteStates held
held_bytes image held small is =
    let part = drop (store.base_of image) image in
    let part_small = All-drop IsByte (store.base_of image) image small in
    let same : store.state_of part ≡ held = judged_held (store.is_empty image) (store.damage_in image) _ held is in
    subst HasByteStates same (record { latest = state_bytes part part_small; records = records_bytes part part_small })

-- records of bytes lead from a sound state to a sound state
read_sound : (p : Problem) (base next : State) (e : store.Entry) (q : ℕ) (r : Result State ℕ) → All IsByte e.payload → IsSound p base → base.step + 1 < 2 ^ 64 → delta_decoded p base (base.step + 1) e.payload ≡ r → in_sequence q r ≡ Some next → IsSound p next
read_sound p base next e q (Err place) small sound below is read = absurd (cc)
read_sound p base next e q (Ok s) small sound below is read = chosen (q == (s.step + 1)) read
  where
    chosen : (b : Bool) → (if b then Some s else None) ≡ Some next → IsSound p next
    chosen true same = subst (IsSound p) (same_Some s next same) (delta_is p base (base.step + 1) s e.payload sound small is).sound
    chosen false same = absurd (cc)

records_sound : (p : Problem) (j : ℕ) (base s : State) (records : List store.Entry) → HasByteRecords records → IsSound p base → records_read p j base records ≡ Ok s → IsSound p s
records_sound p j base s [] small sound is = let same : base ≡ s = cc in subst (IsSound p) same sound
records_sound p j base s (e ∷ rest) small sound is =
    let one = after_one p j (record_read p base e) rest s is in
    records_sound p (j + 1) one.0 s rest (All-tail IsByteEntry e rest small)
    (read_sound p base one.0 e e.sequence (delta_decoded p base (base.step + 1) e.payload) (All-head IsByteEntry e rest small) sound (small_step p base sound) refl one.1) one.2

pub holds_sound : (image bytes : List ℕ) (p : Problem) (s : State) (sequence : ℕ) → All IsByte image → StoreHolds (store.stored image) (At bytes p s sequence) → IsSoundAt bytes p s sequence
holds_sound image bytes p s sequence small h =
    let by = at_of (store.stored image) bytes p s sequence h in
    let at : IsAt by.held by.problem bytes p s sequence = by.tells in
    let states = held_bytes image by.held small by.stored_is in
    let payload_small : All IsByte at.entry.payload = subst HasBytes at.latest states.latest in
    let base : IsSound by.problem at.base = (decoded_is (mass_width by.held.version) by.problem at.base at.entry.payload (is_mass_width by.held.version) payload_small at.read).sound in
    let sound : IsSound by.problem s = records_sound by.problem 1 at.base s by.held.records states.records base at.applied in
    let accepted : IsStorable bytes by.problem = subst (λ (b : List ℕ). IsStorable b by.problem) (sym at.bytes_are) by.accepted in
    record {
      accepted = subst (λ (q : Problem). IsStorable bytes q) (sym at.problem_is) accepted;
      sound = subst (λ (q : Problem). IsSound q s) (sym at.problem_is) sound;
      sequence_is = at.sequence_is;
    }
