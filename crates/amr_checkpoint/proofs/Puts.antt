-- What a run makes of a store on a disk, and what a stop within leaves.
use Rattle.std.proofs.Common.{◌≡◌, ◌≢◌, inl, inr, ⊎_elim, ℕ, zero, suc, ◌+◌, ◌*◌, ◌^◌, ◌<◌, ◌≤◌, nat_le, nat_lt, Bool, true, false, eq-eqb, List, [], ◌∷◌, ◌++◌, length, Option, Some, None, Err, refl, sym, ◌∙◌, ap, subst, arith}
use Rattle.std.proofs.lemmas.Bool.{cases_Bool, leb-true, leb-false, ltb-true, ne_eqb}
use Rattle.std.proofs.lemmas.Nat.{mul-le, from_le_bytes-to_le_bytes_8}
use Rattle.std.proofs.lemmas.Option.{same_Some}
use Rattle.std.specs.Prelude.{◌⊎◌, ◌||◌, ◌==◌, option_map, if◌then◌else◌}
use Rattle.std.specs.Int.{Width, byte_len, w32, w64, to_le_bytes}
use Rattle.amr_def.specs.declared.problem.Problem.{Problem}
use Rattle.amr_def.specs.Facts.{IsSound}
use Rattle.amr_def.specs.Ledger.{sum_to}
use Rattle.amr_def.specs.State.{State}
use Rattle.amr_payload.specs.Delta.{IsLater, delta_bytes, delta_size}
use Rattle.amr_payload.specs.Payload.{level_cells, number_bytes, payload, slot_size}
use Rattle.amr_payload.proofs.Room.{fits_slot, payload_fits_delta}
use Rattle.amr_problem.specs.declared.fault.ProblemFault.TheVariants.{TooLong}
use Rattle.amr_problem.proofs.PlainLaws.{too_many_bytes}
use Rattle.amr_store.specs.declared.part.StoreFault.{StoreFault}
use Rattle.amr_store.specs.declared.part.StoreFault.TheVariants as call
use Rattle.amr_store.specs.declared.store.Store.{Store}
use Rattle.amr_store.specs.Layout.{end_of, long_at}
use Rattle.amr_store.specs.Renewed.{renewed_image, renewed_state}
use Rattle.amr_store.specs.Shown.{Shows}
use Rattle.amr_store.specs.Stands.{IsStoreOf, SameStore, Stands, chain_in, deltas_in, is_shut, slots_in, problem_in, put_image, record_image, slot_size_in, version_in}
use Rattle.amr_store.specs.Stored as store
use Rattle.amr_store.specs.Table.{chain_of, counting}
use Rattle.amr_store.proofs.Calls.{mapped_some}
use Rattle.amr_store.proofs.Joins.{shut_stays}
use Rattle.amr_store.proofs.Openings.{shows_of}
use Rattle.amr_store.proofs.Runs.{only_at, started}
use Rattle.amr_disk.specs.Image.{Only}
use Rattle.amr_disk.specs.Moments.{StopsIn}
use Rattle.amr_checkpoint.specs.declared.faults.CheckpointFault.{CheckpointFault}
use Rattle.amr_checkpoint.specs.declared.faults.CheckpointFault.TheVariants.{DiskFault, NoMemory}
use Rattle.amr_checkpoint.specs.Checkpoints.{IsPut, IsStoreFor, StaysTold, renewed_version}
use Rattle.amr_checkpoint.specs.Contents.{Content, Empty, Fresh, At, Holds, IsStorable, StoreHolds, mass_width, room_for}
use Rattle.amr_checkpoint.specs.Laws.{StoresProblem}
use Rattle.amr_checkpoint.specs.Made.{ReadsWith, image_made, put_into, put_whole, state_made, takes_record}
use Rattle.amr_checkpoint.specs.Reasons.{fault_of_call}
use Rattle.amr_store.specs.Reasons.{HasReason, is_disk_fault, is_no_memory, is_shut_fault}
use Rattle.amr_decoder.proofs.LevelReadings.{four_small}
use Rattle.amr_checkpoint.proofs.FromDisk.{room_of, second_width}
use Rattle.amr_checkpoint.proofs.Causes.{disk_fault_of, no_memory_of, other_fault_of}
use Rattle.amr_checkpoint.proofs.Making.{creation_holds, put_holds, record_holds, renewal_holds}

-- ---- limits

sum_below : (f : ℕ → ℕ) (b n most : ℕ) → n ≤ most → ((k : ℕ) → k < most → f k ≤ b) → sum_to f n ≤ n * b
sum_below f b zero most few each = omega arith
sum_below f b (suc n) most few each = omega (arith, sum_below f b n most (omega arith) each, each n (omega arith))

level_bytes : (p : Problem) (l : ℕ) → l < 5 → 4 + (byte_len w32 + 4) * level_cells p l ≤ 2 ^ 28
level_bytes p l small = omega (arith, mul-le (p.nx * p.ny) (4 ^ l) 65536 256 (mul-le p.nx p.ny 256 256 p.limits.greatest_nx p.limits.greatest_ny) (four_small l (omega arith)))

-- a slot is not too large for a store
pub room_small : (p : Problem) → slot_size w32 p ≤ 2 ^ 40
unfolding slot_size
room_small p =
    let steps = p.limits.greatest_steps in
    let few = p.limits.greatest_max_level in
    omega (arith, sum_below (λ l. 4 + (byte_len w32 + 4) * level_cells p l) (2 ^ 28) (p.max_level + 1) 5 (omega arith) (level_bytes p))

-- nor is the problem
pub text_short : (bytes : List ℕ) (p : Problem) → IsStorable bytes p → length bytes ≤ 65536
text_short bytes p accepted = elim (cases_Bool (nat_le (length bytes) 65536)) [
  | inl short ↦ leb-true (length bytes) 65536 short
  | inr long ↦ absurd (let clash : Some TooLong ≡ None = sym (too_many_bytes bytes (omega (arith, leb-false (length bytes) 65536 long))) ∙ accepted.accepted.clean in cc)
]

-- ---- stops

same_holds : (stored other : store.Stored) (content : Content) → stored ≡ other → StoreHolds other content → StoreHolds stored content
same_holds stored other content is h = subst (λ (st : store.Stored). StoreHolds st content) (sym is) h

-- a creation, and a stop within it
pub creation_made : (c bytes : List ℕ) (p : Problem) (deltas : Option ℕ) → IsStorable bytes p → store.stored c ≡ store.Held (state_made deltas bytes p) → Holds c (Fresh bytes p)
creation_made c bytes p None accepted made = creation_holds (store.stored c) bytes p 2 0 accepted made
creation_made c bytes p (Some d) accepted made = creation_holds (store.stored c) bytes p 3 d accepted made

pub creation_stop : (c bytes : List ℕ) (p : Problem) (deltas : Option ℕ) → IsStorable bytes p → store.stored c ≡ store.Empty ⊎ store.stored c ≡ store.Held (state_made deltas bytes p) → Holds c Empty ⊎ Holds c (Fresh bytes p)
creation_stop c bytes p deltas accepted either =
    ⊎_elim (λ none. inl (same_holds (store.stored c) store.Empty Empty none refl)) (λ made. inr (creation_made c bytes p deltas accepted made)) either

-- a renewal, and a stop within it
pub renewal_made : (c bytes payload_bytes : List ℕ) (p : Problem) (state : State) (size sequence : ℕ) → IsStorable bytes p → IsSound p state → size ≡ slot_size w32 p → sequence ≡ state.step + 1 → payload_bytes ≡ payload w32 state
    → store.stored c ≡ store.Held (renewed_state bytes size sequence payload_bytes) → Holds c (At bytes p state (state.step + 1))
renewal_made c bytes payload_bytes p state size sequence accepted sound size_is sequence_is payload_is made =
    renewal_holds (store.stored c) bytes p state accepted sound
    (made
    ∙ ap (λ n. store.Held (renewed_state bytes n sequence payload_bytes)) size_is
    ∙ ap (λ q. store.Held (renewed_state bytes (slot_size w32 p) q payload_bytes)) sequence_is
    ∙ ap (λ b. store.Held (renewed_state bytes (slot_size w32 p) (state.step + 1) b)) payload_is)

pub renewal_stop : (s c bytes payload_bytes : List ℕ) (p : Problem) (state : State) (content : Content) (size sequence : ℕ) → IsStorable bytes p → IsSound p state → Holds s content → size ≡ slot_size w32 p → sequence ≡ state.step + 1
    → payload_bytes ≡ payload w32 state → store.stored c ≡ store.stored s ⊎ store.stored c ≡ store.Held (renewed_state bytes size sequence payload_bytes) → Holds c content ⊎ Holds c (At bytes p state (state.step + 1))
renewal_stop s c bytes payload_bytes p state content size sequence accepted sound h size_is sequence_is payload_is either =
    ⊎_elim (λ same. inl (same_holds (store.stored c) (store.stored s) content same h))
    (λ made. inr (renewal_made c bytes payload_bytes p state size sequence accepted sound size_is sequence_is payload_is made)) either

-- a put into a store of version 2, and a stop within it
pub put_made : (st : Store) (stored after : store.Stored) (payload_bytes : List ℕ) (p : Problem) (state : State) (sequence : ℕ) → Shows st stored → IsStoreFor p st → version_in st ≢ 1 → IsSound p state
    → sequence ≡ state.step + 1 → payload_bytes ≡ payload w32 state → after ≡ store.with_latest stored sequence payload_bytes → StoreHolds after (At (problem_in st) p state (state.step + 1))
put_made st stored after payload_bytes p state sequence shows of second sound sequence_is payload_is is =
    let held = shows.0 in
    let width : mass_width held.version ≡ w32 = ap (λ v. mass_width v) (sym shows.2.version) ∙ second_width (version_in st) second in
    let of_held : StoresProblem held (problem_in st) p = record { bytes_are = sym shows.2.problem; accepted = of.accepted; room = room_of st held p shows.2 of.room } in
    put_holds stored after (problem_in st) p held state shows.1 of_held sound
    (is
    ∙ ap (λ q. store.with_latest stored q payload_bytes) sequence_is
    ∙ ap (λ b. store.with_latest stored (state.step + 1) b) payload_is
    ∙ ap (λ w. store.with_latest stored (state.step + 1) (payload w state)) (sym width))

pub put_stop : (st : Store) (s c payload_bytes : List ℕ) (p : Problem) (state : State) (content : Content) (sequence : ℕ) → Stands st s → IsStoreFor p st → version_in st ≢ 1 → IsSound p state → Holds s content
    → sequence ≡ state.step + 1 → payload_bytes ≡ payload w32 state → store.stored c ≡ store.stored s ⊎ store.stored c ≡ store.with_latest (store.stored s) sequence payload_bytes
    → Holds c content ⊎ Holds c (At (problem_in st) p state (state.step + 1))
put_stop st s c payload_bytes p state content sequence stands of second sound h sequence_is payload_is either =
    ⊎_elim (λ same. inl (same_holds (store.stored c) (store.stored s) content same h))
    (λ made. inr (put_made st (store.stored s) (store.stored c) payload_bytes p state sequence (shows_of st s stands) of second sound sequence_is payload_is made)) either

-- a record that is put, and a stop within it
pub record_made : (st : Store) (stored after : store.Stored) (payload_bytes : List ℕ) (p : Problem) (old state : State) (sequence : ℕ) → StoreHolds stored (At (problem_in st) p old (old.step + 1)) → IsSound p old → IsSound p state → IsLater old state
    → sequence ≡ state.step + 1 → payload_bytes ≡ delta_bytes old (old.step + 1) state → after ≡ store.with_record stored sequence payload_bytes → StoreHolds after (At (problem_in st) p state (state.step + 1))
record_made st stored after payload_bytes p old state sequence held sound_old sound later sequence_is payload_is is =
    record_holds stored after (problem_in st) p old state held sound_old sound later
    (is ∙ ap (λ q. store.with_record stored q payload_bytes) sequence_is ∙ ap (λ b. store.with_record stored (state.step + 1) b) payload_is)

pub record_stop : (st : Store) (s c payload_bytes : List ℕ) (p : Problem) (old state : State) (content : Content) (sequence : ℕ) → Holds s (At (problem_in st) p old (old.step + 1)) → IsSound p old → IsSound p state → IsLater old state → Holds s content
    → sequence ≡ state.step + 1 → payload_bytes ≡ delta_bytes old (old.step + 1) state → store.stored c ≡ store.stored s ⊎ store.stored c ≡ store.with_record (store.stored s) sequence payload_bytes
    → Holds c content ⊎ Holds c (At (problem_in st) p state (state.step + 1))
record_stop st s c payload_bytes p old state content sequence held sound_old sound later h sequence_is payload_is either =
    ⊎_elim (λ same. inl (same_holds (store.stored c) (store.stored s) content same h))
    (λ made. inr (record_made st (store.stored s) (store.stored c) payload_bytes p old state sequence held sound_old sound later sequence_is payload_is made)) either

-- ---- a disk

-- a call that does not reach the disk
module _ {D : Type 0} (seen : D → Option (List ℕ)) (moment : D → ℕ) (leaves : D → ℕ → List ℕ → Type 0) where
  pub untouched_stop : (disk : D) (s : List ℕ) (content : Content) (P : List ℕ → Type 0) → Only (seen disk) (leaves disk (moment disk)) → seen disk ≡ Some s → Holds s content → StopsIn moment leaves disk disk (λ c. Holds c content ⊎ P c)
  untouched_stop disk s content P settled is h =
      started moment leaves disk (λ c. Holds c content ⊎ P c)
      (λ c left. inl (subst (λ image. Holds image content) (sym (only_at moment leaves disk (seen disk) s is settled c left)) h))

-- the store after a put is the one before it but for its slots
pub store_after : (old new : Store) (p : Problem) → IsStoreFor p old → SameStore old new → is_shut new ≡ (is_shut old || false) → IsStoreFor p new
store_after old new p of same shuts = record {
  accepted = subst (λ (b : List ℕ). IsStorable b p) (sym same.problem) of.accepted;
  room = same.slot_size ∙ of.room ∙ ap (λ v. room_for v p) (sym same.version);
  unshut = shut_stays (is_shut old) (is_shut new) shuts of.unshut;
}

-- one that was made or renewed
pub store_made : (new : Store) (bytes : List ℕ) (p : Problem) (version deltas size : ℕ) → IsStorable bytes p → size ≡ room_for version p → IsStoreOf version bytes size deltas new → IsStoreFor p new
store_made new bytes p version deltas size accepted room of = record {
  accepted = subst (λ (b : List ℕ). IsStorable b p) (sym of.problem_is) accepted;
  room = of.size_is ∙ room ∙ ap (λ v. room_for v p) (sym of.version_is);
  unshut = of.unshut;
}

-- a renewal, and a put that is none
pub version_renewed : (old new : ℕ) → old ≡ 1 → new ≡ 2 → new ≡ renewed_version old
version_renewed old new one two = two ∙ sym (ap (λ (b : Bool). if b then 2 else old) (eq-eqb old 1 one))

pub version_stays : (old new : ℕ) → old ≢ 1 → new ≡ old → new ≡ renewed_version old
version_stays old new second same = same ∙ sym (ap (λ (b : Bool). if b then 2 else old) (ne_eqb old 1 second))

-- a slot has room for each whole state
pub enough_room : (version : ℕ) (p : Problem) (s : State) → version ≢ 1 → IsSound p s → length (payload w32 s) ≤ room_for version p
enough_room version p s second sound = chosen (version == 3)
  where
    chosen : (b : Bool) → length (payload w32 s) ≤ (if b then delta_size p else slot_size (mass_width version) p)
    chosen true = payload_fits_delta p s sound
    chosen false = subst (λ (w : Width). length (payload w32 s) ≤ slot_size w p) (sym (second_width version second)) (fits_slot w32 p s (inr refl) sound)

-- a disk that told what it reads does
pub told_by : (f : List ℕ → List ℕ) (before after : Option (List ℕ)) → after ≡ option_map f before → StaysTold before after
told_by f before after mapped s is = (f s, mapped ∙ ap (option_map f) is)

-- what was put is held by what a read gives
pub put_held : (content : Content) (f : List ℕ → List ℕ) (more : store.Stored → store.Stored) (before after : Option (List ℕ)) (t : List ℕ) → after ≡ option_map f before
    → ((s : List ℕ) → before ≡ Some s → (u : List ℕ) × (after ≡ Some u) × (store.stored u ≡ more (store.stored s))) → ((s : List ℕ) (u : store.Stored) → before ≡ Some s → u ≡ more (store.stored s) → StoreHolds u content)
    → after ≡ Some t → Holds t content
put_held content f more before after t mapped put holds seen =
    let source = mapped_some f before t (sym mapped ∙ seen) in
    let made = put source.0 source.1 in
    let same : made.0 ≡ t = same_Some made.0 t (sym made.1 ∙ seen) in
    holds source.0 (store.stored t) source.1 (ap store.stored (sym same) ∙ made.2)

-- ---- the bytes that are written, all of them

mapped_at : (f : List ℕ → List ℕ) (before after : Option (List ℕ)) (s : List ℕ) → after ≡ option_map f before → before ≡ Some s → after ≡ Some (f s)
mapped_at f before after s mapped is = mapped ∙ ap (option_map f) is

pub created_whole : (deltas : Option ℕ) (before after : Option (List ℕ)) (bytes : List ℕ) (p : Problem) → after ≡ option_map (image_made deltas bytes p) before → (s : List ℕ) → before ≡ Some s → ReadsWith deltas after s (Fresh bytes p ∷ [])
created_whole deltas before after bytes p mapped s is =
    let image : List ℕ = image_made deltas bytes p s in
    (image, mapped_at (image_made deltas bytes p) before after s mapped is, (image, refl, refl))

pub put_with : (deltas : Option ℕ) (st : Store) (before after : Option (List ℕ)) (p : Problem) (old state : State) (f : List ℕ → List ℕ) → ((s : List ℕ) → before ≡ Some s → Stands st s) → after ≡ option_map f before
    → ((s : List ℕ) → before ≡ Some s → takes_record st ≡ true → Holds s (At (problem_in st) p old (old.step + 1))) → ((s : List ℕ) → f s ≡ put_into st p old state s)
    → (s : List ℕ) → before ≡ Some s → ReadsWith deltas after s (At (problem_in st) p state (state.step + 1) ∷ [])
put_with deltas st before after p old state f stands mapped on same s is =
    (f s, mapped_at f before after s mapped is, (f s, record { store = st; stands = stands s is; of_bytes = refl; old = old; on = on s is; put = same s }, refl))

-- whole, where no record is next
into_whole : (st : Store) (p : Problem) (state : State) (s : List ℕ) → takes_record st ≡ false → put_whole st p state s ≡ put_into st p state state s
into_whole st p state s none_next = sym (ap (λ (b : Bool). if b then record_image st (state.step + 1) (delta_bytes state (state.step + 1) state) s else put_whole st p state s) none_next)

none_on : (st : Store) (p : Problem) (state : State) (s : List ℕ) → takes_record st ≡ false → takes_record st ≡ true → Holds s (At (problem_in st) p state (state.step + 1))
none_on st p state s none_next takes = absurd (let clash : true ≡ false = sym takes ∙ none_next in cc)

pub renewed_whole : (deltas : Option ℕ) (st : Store) (before after : Option (List ℕ)) (p : Problem) (state : State) (payload_bytes : List ℕ) (size sequence : ℕ) → ((s : List ℕ) → before ≡ Some s → Stands st s) → takes_record st ≡ false → version_in st ≡ 1
    → size ≡ slot_size w32 p → sequence ≡ state.step + 1 → payload_bytes ≡ payload w32 state
    → after ≡ option_map (renewed_image (end_of (length (problem_in st)) (slot_size_in st)) (problem_in st) size sequence payload_bytes) before
    → (s : List ℕ) → before ≡ Some s → ReadsWith deltas after s (At (problem_in st) p state (state.step + 1) ∷ [])
renewed_whole deltas st before after p state payload_bytes size sequence stands none_next one size_is sequence_is payload_is mapped =
    let end = end_of (length (problem_in st)) (slot_size_in st) in
    put_with deltas st before after p state state (renewed_image end (problem_in st) size sequence payload_bytes) stands mapped (λ s is. none_on st p state s none_next)
    (λ s. ap (λ n. renewed_image end (problem_in st) n sequence payload_bytes s) size_is
    ∙ ap (λ n. renewed_image end (problem_in st) (slot_size w32 p) n payload_bytes s) sequence_is
    ∙ ap (λ (b : List ℕ). renewed_image end (problem_in st) (slot_size w32 p) (state.step + 1) b s) payload_is
    ∙ sym (ap (λ (b : Bool). if b then renewed_image end (problem_in st) (slot_size w32 p) (state.step + 1) (payload w32 state) s else put_image st (state.step + 1) (payload w32 state) s) (eq-eqb (version_in st) 1 one))
    ∙ into_whole st p state s none_next)

pub whole_put : (deltas : Option ℕ) (st : Store) (before after : Option (List ℕ)) (p : Problem) (state : State) (payload_bytes : List ℕ) (sequence : ℕ) → ((s : List ℕ) → before ≡ Some s → Stands st s) → takes_record st ≡ false → version_in st ≢ 1
    → sequence ≡ state.step + 1 → payload_bytes ≡ payload w32 state → after ≡ option_map (put_image st sequence payload_bytes) before
    → (s : List ℕ) → before ≡ Some s → ReadsWith deltas after s (At (problem_in st) p state (state.step + 1) ∷ [])
whole_put deltas st before after p state payload_bytes sequence stands none_next second sequence_is payload_is mapped =
    put_with deltas st before after p state state (put_image st sequence payload_bytes) stands mapped (λ s is. none_on st p state s none_next)
    (λ s. ap (λ n. put_image st n payload_bytes s) sequence_is
    ∙ ap (λ (b : List ℕ). put_image st (state.step + 1) b s) payload_is
    ∙ sym (ap (λ (b : Bool). if b then renewed_image (end_of (length (problem_in st)) (slot_size_in st)) (problem_in st) (slot_size w32 p) (state.step + 1) (payload w32 state) s else put_image st (state.step + 1) (payload w32 state) s) (ne_eqb (version_in st) 1 second))
    ∙ into_whole st p state s none_next)

-- as a record
pub record_put : (deltas : Option ℕ) (st : Store) (before after : Option (List ℕ)) (p : Problem) (old state : State) (payload_bytes : List ℕ) (sequence : ℕ) → ((s : List ℕ) → before ≡ Some s → Stands st s) → takes_record st ≡ true
    → ((s : List ℕ) → before ≡ Some s → Holds s (At (problem_in st) p old (old.step + 1))) → sequence ≡ state.step + 1 → payload_bytes ≡ delta_bytes old (old.step + 1) state → after ≡ option_map (record_image st sequence payload_bytes) before
    → (s : List ℕ) → before ≡ Some s → ReadsWith deltas after s (At (problem_in st) p state (state.step + 1) ∷ [])
record_put deltas st before after p old state payload_bytes sequence stands next_is on sequence_is payload_is mapped =
    put_with deltas st before after p old state (record_image st sequence payload_bytes) stands mapped (λ s is takes. on s is)
    (λ s. ap (λ n. record_image st n payload_bytes s) sequence_is
    ∙ ap (λ (b : List ℕ). record_image st (state.step + 1) b s) payload_is
    ∙ sym (ap (λ (b : Bool). if b then record_image st (state.step + 1) (delta_bytes old (old.step + 1) state) s else put_whole st p state s) next_is))

-- ---- the bytes of a record

-- it begins with the sequence that it stands on
pub delta_front : (old s : State) (q : ℕ) → q < 2 ^ 64 → store.front_in (delta_bytes old q s) ≡ Some q
unfolding delta_bytes number_bytes
delta_front old s q small =
    let long : nat_lt (length (delta_bytes old q s)) 8 ≡ false = elim (cases_Bool (nat_lt (length (delta_bytes old q s)) 8)) [
      | inl short ↦ absurd (let few : length (delta_bytes old q s) < 8 = ltb-true (length (delta_bytes old q s)) 8 short in let wrong : ⊥ = omega (arith, few) in wrong)
      | inr other ↦ other
    ] in
    ap (λ (b : Bool). if b then None else Some (long_at (delta_bytes old q s) 0)) long ∙ ap (λ n. Some n) (from_le_bytes-to_le_bytes_8 q small)

-- no record follows where none may
pub no_chain : (st : Store) → deltas_in st ≡ 0 → chain_in st ≡ 0
unfolding counting
no_chain st none = ap (λ d. chain_of d (slots_in st)) none

-- ---- what a call did

module _ {D : Type 0} (seen : D → Option (List ℕ)) (moment : D → ℕ) (leaves : D → ℕ → List ℕ → Type 0) (faults : D → ℕ) (bytes : List ℕ) (p : Problem) (s : State) where
  -- it is done
  pub is_put : (d later_d : D) → ((image : List ℕ) → seen later_d ≡ Some image → Holds image (At bytes p s (s.step + 1))) → StaysTold (seen d) (seen later_d)
      → ((deltas : Option ℕ) (image : List ℕ) → seen d ≡ Some image → ReadsWith deltas (seen later_d) image (At bytes p s (s.step + 1) ∷ []))
      → ((image : List ℕ) (content : Content) → seen d ≡ Some image → Holds image content → StopsIn moment leaves d later_d (λ c. Holds c content ⊎ Holds c (At bytes p s (s.step + 1))))
      → faults later_d ≡ faults d → IsPut seen moment leaves faults bytes p s None d later_d
  is_put d later_d holds told made stops same = record {
    holds = λ is. holds;
    told = λ is. told;
    made = λ is. made;
    stops = stops;
    memory = λ is. absurd (cc);
    later = omega (arith, same);
    failed = λ is. absurd (cc);
    no_fault = λ other. same;
  }

  -- it was refused
  pub is_refused : (T : Type 0) (d later_d : D) (fault : StoreFault) (reason : CheckpointFault) → reason ≡ fault_of_call fault → (is_no_memory {T = T} (Err fault) ≡ true → later_d ≡ d) → HasReason {T = T} (faults d) (faults later_d) (Err fault)
      → is_shut_fault {T = T} (Err fault) ≡ false
      → ((image : List ℕ) (content : Content) → seen d ≡ Some image → Holds image content → StopsIn moment leaves d later_d (λ c. Holds c content ⊎ Holds c (At bytes p s (s.step + 1))))
      → IsPut seen moment leaves faults bytes p s (Some reason) d later_d
  is_refused T d later_d fault reason is memory causes unshut stops = record {
    holds = λ none. absurd (cc);
    told = λ none. absurd (cc);
    made = λ none. absurd (cc);
    stops = stops;
    memory = λ by. memory (no_memory_of T fault (sym is ∙ same_Some reason NoMemory by));
    later = causes.later;
    failed = λ by. causes.failed (disk_fault_of T fault (sym is ∙ same_Some reason DiskFault by) unshut);
    no_fault = λ other. causes.no_fault (other_fault_of T fault (λ by. other (ap Some (is ∙ by))));
  }

  -- memory ran out before the disk was called
  pub is_untouched : (d : D) → Only (seen d) (leaves d (moment d)) → IsPut seen moment leaves faults bytes p s (Some NoMemory) d d
  is_untouched d settled = record {
    holds = λ none. absurd (cc);
    told = λ none. absurd (cc);
    made = λ none. absurd (cc);
    stops = λ image content told h. untouched_stop seen moment leaves d image content (λ c. Holds c (At bytes p s (s.step + 1))) settled told h;
    memory = λ by. refl;
    later = omega arith;
    failed = λ by. let clash : NoMemory ≡ DiskFault = same_Some NoMemory DiskFault by in absurd (cc);
    no_fault = λ other. refl;
  }
