-- What was read is what the image holds.
use Rattle.std.proofs.Common.{◌≡◌, ◌≢◌, inr, ℕ, Bool, List, refl, sym, ◌∙◌, ap, subst, eq-eqb, IfOk}
use Rattle.std.proofs.lemmas.Bool.{ne_eqb}
use Rattle.std.specs.Prelude.{if◌then◌else◌}
use Rattle.std.specs.Int.{Width, w32, w64}
use Rattle.std.specs.declared.result.Result.{Result}
use Rattle.std.specs.declared.result.Result.TheVariants.{Ok, Err}
use Rattle.amr_def.specs.declared.problem.Problem.{Problem}
use Rattle.amr_def.specs.Facts.{IsSound}
use Rattle.amr_patch.specs.declared.meshes.Mesh.{Mesh}
use Rattle.amr_patch.specs.Meshes.{state_of}
use Rattle.amr_payload.specs.Payload.{IsMassWidth, payload}
use Rattle.amr_payload.specs.Tests.{decoded}
use Rattle.amr_payload.proofs.WriteStates.{read_back}
use Rattle.amr_problem.specs.Judgement.{IsProblemOf}
use Rattle.amr_problem.proofs.OneProblem.{one_problem}
use Rattle.amr_store.specs.declared.found.Found.{Found}
use Rattle.amr_store.specs.declared.found.Found.TheVariants as opened
use Rattle.amr_store.specs.declared.part.Part.{Part}
use Rattle.amr_store.specs.declared.part.Part.TheVariants as part
use Rattle.amr_store.specs.declared.store.Store.{Store}
use Rattle.amr_store.specs.Opened.{Finds}
use Rattle.amr_store.specs.Shown.{Shows, ShowsState}
use Rattle.amr_store.specs.Stands.{problem_in, slot_size_in, version_in}
use Rattle.amr_store.specs.Stored as store
use Rattle.amr_checkpoint.specs.declared.contents.Checkpoint.{Checkpoint}
use Rattle.amr_checkpoint.specs.declared.contents.Checkpoint.TheVariants as read
use Rattle.amr_checkpoint.specs.Checkpoints.{IsFreshStore, IsMeshFor, IsStoreAt, IsStoreFor, IsUsable, content_at_mesh, content_of}
use Rattle.amr_checkpoint.specs.Contents.{Content, Empty, Damaged, Fresh, IsStorable, StoreHolds, latest_read, mass_width, room_for, store_read}
use Rattle.amr_checkpoint.proofs.Making.{store_reads}

-- ---- versions

pub first_width : (version : ℕ) → version ≡ 1 → mass_width version ≡ w64
first_width version is = ap (λ (b : Bool). if b then w64 else w32) (eq-eqb version 1 is)

pub second_width : (version : ℕ) → version ≢ 1 → mass_width version ≡ w32
second_width version other = ap (λ (b : Bool). if b then w64 else w32) (ne_eqb version 1 other)

pub decoded_by : {E : Type 0} (r : Result Mesh E) (version : ℕ) (w : Width) (p : Problem) (bytes : List ℕ) → mass_width version ≡ w → IsMassWidth w → IfOk r (λ m. bytes ≡ payload w (state_of m)) → IfOk r (λ m. IsSound p (state_of m))
    → IfOk r (λ m. decoded (mass_width version) p bytes ≡ Ok (state_of m))
decoded_by (Ok m) version w p bytes width is_width bytes_are sound =
    ap (λ (v : Width). decoded v p bytes) width ∙ ap (λ (b : List ℕ). decoded w p b) bytes_are ∙ read_back w p (state_of m) is_width sound
decoded_by (Err e) version w p bytes width is_width bytes_are sound = tt

-- ---- the store

pub room_of : (s : Store) (held : store.State) (p : Problem) → ShowsState s held → slot_size_in s ≡ room_for (version_in s) p → held.slot_size ≡ room_for held.version p
room_of s held p shows room = sym shows.slot_size ∙ room ∙ ap (λ (v : ℕ). room_for v p) shows.version

accepted_of : (s : Store) (held : store.State) (p : Problem) (bytes : List ℕ) → ShowsState s held → bytes ≡ problem_in s → IsStorable bytes p → IsStorable held.problem p
accepted_of s held p bytes shows bytes_are accepted = subst (λ (b : List ℕ). IsStorable b p) (bytes_are ∙ shows.problem) accepted

pub store_holds : (s : Store) (stored : store.Stored) (p : Problem) (bytes : List ℕ) (content : Content) → Shows s stored → bytes ≡ problem_in s → IsStorable bytes p → slot_size_in s ≡ room_for (version_in s) p
    → ((held : store.State) → stored ≡ store.Held held → ShowsState s held → content ≡ latest_read held p held.latest) → StoreHolds stored content
store_holds s stored p bytes content shows bytes_are accepted room by =
    let held = shows.0 in
    let is : content ≡ store_read held p = by held shows.1 shows.2 ∙ sym (store_reads held p (room_of s held p shows.2 room)) in
    subst (λ (st : store.Stored). StoreHolds st content) (sym shows.1) (inr record { problem = p; accepted = accepted_of s held p bytes shows.2 bytes_are accepted; content_is = is })

pub size_holds : (s : Store) (stored : store.Stored) (p : Problem) (bytes : List ℕ) → Shows s stored → bytes ≡ problem_in s → IsStorable bytes p → slot_size_in s ≢ room_for (version_in s) p → StoreHolds stored (Damaged part.Size)
size_holds s stored p bytes shows bytes_are accepted other =
    let held = shows.0 in
    let differ : held.slot_size ≢ room_for held.version p = λ same. other (shows.2.slot_size ∙ same ∙ ap (λ (v : ℕ). room_for v p) (sym shows.2.version)) in
    let is : Damaged part.Size ≡ store_read held p = sym (ap (λ (b : Bool). if b then latest_read held p held.latest else Damaged part.Size) (ne_eqb held.slot_size (room_for held.version p) differ)) in
    subst (λ (st : store.Stored). StoreHolds st (Damaged part.Size)) (sym shows.1) (inr record { problem = p; accepted = accepted_of s held p bytes shows.2 bytes_are accepted; content_is = is })

-- ---- the disk

pub nothing_holds : (stored : store.Stored) (found : Found) → Finds found stored → found ≡ opened.Nothing → StoreHolds stored Empty
nothing_holds stored found finds is =
    let empty : stored ≡ store.Empty = subst (λ (f : Found). Finds f stored) is finds in
    subst (λ (st : store.Stored). StoreHolds st Empty) (sym empty) refl

pub damage_holds : (stored : store.Stored) (found : Found) (damage : Part) → Finds found stored → found ≡ opened.Damaged damage → StoreHolds stored (Damaged damage)
damage_holds stored found damage finds is =
    let damaged : stored ≡ store.Damaged damage = subst (λ (f : Found). Finds f stored) is finds in
    subst (λ (st : store.Stored). StoreHolds st (Damaged damage)) (sym damaged) refl

pub shows_of : (stored : store.Stored) (found : Found) (s : Store) → Finds found stored → found ≡ opened.Ready s → Shows s stored
shows_of stored found s finds is = subst (λ (f : Found). Finds f stored) is finds

-- ---- going on

same_problem : (kept bytes : List ℕ) (q p : Problem) → kept ≡ bytes → IsStorable kept q → IsProblemOf bytes p → q ≡ p
same_problem kept bytes q p same kept_is given = one_problem bytes q p (subst (λ (b : List ℕ). IsProblemOf b q) same kept_is.accepted) given

store_for : (s : Store) (q p : Problem) → IsStoreFor q s → q ≡ p → IsStoreFor p s
store_for s q p of problem = subst (λ (r : Problem). IsStoreFor r s) problem of

pub fresh_goes_on : (found : Checkpoint) (s : Store) (q : Problem) (kept bytes : List ℕ) (p : Problem) → found ≡ read.Fresh s q → IsUsable found → kept ≡ problem_in s → kept ≡ bytes → IsProblemOf bytes p
    → (content_of found ≡ Fresh bytes p) × ((problem_in s ≡ bytes) × IsFreshStore p s)
fresh_goes_on found s q kept bytes p is usable kept_is same given =
    let fresh : IsFreshStore q s = subst IsUsable is usable in
    let bytes_are : problem_in s ≡ bytes = sym kept_is ∙ same in
    let problem : q ≡ p = same_problem (problem_in s) bytes q p bytes_are fresh.store_is.accepted given in (
      ap content_of is ∙ ap (λ (b : List ℕ). Fresh b q) bytes_are ∙ ap (λ (r : Problem). Fresh bytes r) problem,
      (bytes_are, record { store_is = store_for s q p fresh.store_is problem; none = fresh.none }),
    )

-- what goes on from a store has bytes that are a problem
pub fresh_given : (found : Checkpoint) (s : Store) (q : Problem) (kept bytes : List ℕ) → found ≡ read.Fresh s q → IsUsable found → kept ≡ problem_in s → kept ≡ bytes → (p : Problem) × IsStorable bytes p
fresh_given found s q kept bytes is usable kept_is same =
    let fresh : IsFreshStore q s = subst IsUsable is usable in
    (q, subst (λ (b : List ℕ). IsStorable b q) (sym kept_is ∙ same) fresh.store_is.accepted)

pub at_given : (found : Checkpoint) (s : Store) (q : Problem) (mesh : Mesh) (kept bytes : List ℕ) → found ≡ read.At s q mesh → IsUsable found → kept ≡ problem_in s → kept ≡ bytes → (p : Problem) × IsStorable bytes p
at_given found s q mesh kept bytes is usable kept_is same =
    let at : IsStoreAt q s mesh = subst IsUsable is usable in
    (q, subst (λ (b : List ℕ). IsStorable b q) (sym kept_is ∙ same) at.past.store_is.accepted)

pub at_goes_on : (found : Checkpoint) (s : Store) (q : Problem) (mesh : Mesh) (kept bytes : List ℕ) (p : Problem) → found ≡ read.At s q mesh → IsUsable found → kept ≡ problem_in s → kept ≡ bytes → IsProblemOf bytes p
    → (content_of found ≡ content_at_mesh bytes p mesh) × (problem_in s ≡ bytes) × IsStoreAt p s mesh
at_goes_on found s q mesh kept bytes p is usable kept_is same given =
    let at : IsStoreAt q s mesh = subst IsUsable is usable in
    let bytes_are : problem_in s ≡ bytes = sym kept_is ∙ same in
    let problem : q ≡ p = same_problem (problem_in s) bytes q p bytes_are at.past.store_is.accepted given in (
      ap content_of is ∙ ap (λ (b : List ℕ). content_at_mesh b q mesh) bytes_are ∙ ap (λ (r : Problem). content_at_mesh bytes r mesh) problem,
      bytes_are,
      record {
        past = record { store_is = store_for s q p at.past.store_is problem; last = at.past.last };
        mesh_is = subst (λ (r : Problem). IsMeshFor r mesh) problem at.mesh_is;
      },
    )
