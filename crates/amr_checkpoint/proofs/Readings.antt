-- What an image holds, and what follows from it.
use Rattle.std.proofs.Common.{◌≡◌, ◌≢◌, inl, inr, ⊎_elim, ℕ, ◌+◌, Bool, true, false, List, Option, Some, None, Result, refl, sym, ◌∙◌, ap, subst}
use Rattle.std.proofs.lemmas.Bool.{eqb-false, eqb-true}
use Rattle.std.proofs.lemmas.Option.{none-some}
use Rattle.std.specs.Prelude.{◌==◌, if◌then◌else◌, Ok, Err}
use Rattle.std.specs.Int.{w32, w64}
use Rattle.amr_def.specs.declared.problem.Problem.{Problem}
use Rattle.amr_def.specs.State.{State}
use Rattle.amr_payload.specs.Payload.{IsMassWidth}
use Rattle.amr_payload.specs.Tests.{decoded}
use Rattle.amr_problem.specs.Judgement.{IsProblemOf}
use Rattle.amr_problem.proofs.OneProblem.{one_problem}
use Rattle.amr_store.specs.declared.part.Part.TheVariants as part
use Rattle.amr_store.specs.Stored as store
use Rattle.amr_checkpoint.specs.Contents.{Content, Empty, Damaged, Fresh, At, StoreHolds, IsNoProblem, IsReadBy, IsStorable, chain_read, latest_read, mass_width, payload_read, records_read, room_for, store_read}
use Rattle.amr_checkpoint.specs.Laws.{IsJudged}

-- ---- one content

-- of several species it is none that can be stored
pub several_unstorable : (bytes : List ℕ) (p : Problem) → IsProblemOf bytes p → p.species ≢ 1 → (q : Problem) → ¬ (IsStorable bytes q)
several_unstorable bytes p accepted several q is = several (ap (λ (r : Problem). r.species) (one_problem bytes p q accepted is.accepted) ∙ is.alone)

pub holds_one : (stored : store.Stored) (a b : Content) → StoreHolds stored a → StoreHolds stored b → a ≡ b
holds_one store.Empty a b h k = h ∙ sym k
holds_one (store.Damaged damage) a b h k = h ∙ sym k
holds_one (store.Held held) a b (inl h) (inl k) = h.content_is ∙ sym k.content_is
holds_one (store.Held held) a b (inl h) (inr k) = absurd (h.none k.problem k.accepted)
holds_one (store.Held held) a b (inr h) (inl k) = absurd (k.none h.problem h.accepted)
holds_one (store.Held held) a b (inr h) (inr k) =
    h.content_is ∙ ap (λ (p : Problem). store_read held p) (one_problem held.problem h.problem k.problem h.accepted.accepted k.accepted.accepted) ∙ sym k.content_is

pub holds_some : (stored : store.Stored) → ((held : store.State) → stored ≡ store.Held held → IsJudged held.problem) → (content : Content) × StoreHolds stored content
holds_some store.Empty judged = (Empty, refl)
holds_some (store.Damaged damage) judged = (Damaged damage, refl)
holds_some (store.Held held) judged =
    ⊎_elim
    (λ fault. (Damaged part.Problem, inl record { none = λ p is. none-some fault.0 (sym is.accepted.clean ∙ fault.1); content_is = refl }))
    (λ p. counted p.0 p.1 (p.0.species == 1) refl)
    (judged held refl)
  where
    counted : (p : Problem) → IsProblemOf held.problem p → (b : Bool) → (p.species == 1) ≡ b → (content : Content) × StoreHolds (store.Held held) content
    counted p accepted true one = (store_read held p, inr record { problem = p; accepted = record { accepted = accepted; alone = eqb-true p.species 1 one }; content_is = refl })
    counted p accepted false more = (Damaged part.Problem, inl record { none = several_unstorable held.problem p accepted (eqb-false p.species 1 more); content_is = refl })

-- ---- what a store reads as

-- no state yet
pub record IsFresh (held : store.State) (p : Problem) (bytes : List ℕ) (q : Problem) : Type 0 where
  pub bytes_are : bytes ≡ held.problem
  pub problem_is : q ≡ p
  pub room : held.slot_size ≡ room_for held.version p
  pub none : held.latest ≡ None

-- a state: a whole one with the records that count applied
pub record IsAt (held : store.State) (p : Problem) (bytes : List ℕ) (q : Problem) (s : State) (sequence : ℕ) : Type 0 where
  pub bytes_are : bytes ≡ held.problem
  pub problem_is : q ≡ p
  pub room : held.slot_size ≡ room_for held.version p
  pub entry : store.Entry
  pub latest : held.latest ≡ Some entry
  pub base : State
  pub read : decoded (mass_width held.version) p entry.payload ≡ Ok base
  pub base_sequence : entry.sequence ≡ base.step + 1
  pub applied : records_read p 1 base held.records ≡ Ok s
  pub sequence_is : sequence ≡ s.step + 1

-- what a store's content tells of it
abbrev pub Tells : store.State → Problem → Content → Type 0
Tells held p Empty = ⊥
Tells held p (Damaged damage) = Unit {0}
Tells held p (Fresh bytes q) = IsFresh held p bytes q
Tells held p (At bytes q s sequence) = IsAt held p bytes q s sequence

chain_tells : (held : store.State) (p : Problem) (entry : store.Entry) (base : State) (r : Result State ℕ) → held.latest ≡ Some entry → held.slot_size ≡ room_for held.version p
    → decoded (mass_width held.version) p entry.payload ≡ Ok base → entry.sequence ≡ base.step + 1 → records_read p 1 base held.records ≡ r → Tells held p (chain_read held.problem p r)
chain_tells held p entry base (Err j) latest room is here applied = tt
chain_tells held p entry base (Ok s) latest room is here applied =
    record { bytes_are = refl; problem_is = refl; room = room; entry = entry; latest = latest; base = base; read = is; base_sequence = here; applied = applied; sequence_is = refl }

payload_tells : (held : store.State) (p : Problem) (entry : store.Entry) (r : Result State ℕ) → held.latest ≡ Some entry → held.slot_size ≡ room_for held.version p
    → decoded (mass_width held.version) p entry.payload ≡ r → Tells held p (payload_read held.problem p entry.sequence held.records r)
payload_tells held p entry (Err place) latest room is = tt
payload_tells held p entry (Ok base) latest room is = chosen (entry.sequence == (base.step + 1)) refl
  where
    chosen : (b : Bool) → (entry.sequence == (base.step + 1)) ≡ b → Tells held p (if b then chain_read held.problem p (records_read p 1 base held.records) else Damaged part.Sequence)
    chosen true same = chain_tells held p entry base (records_read p 1 base held.records) latest room is (eqb-true _ _ same) refl
    chosen false other = tt

latest_tells : (held : store.State) (p : Problem) (latest : Option store.Entry) → held.latest ≡ latest → held.slot_size ≡ room_for held.version p → Tells held p (latest_read held p latest)
latest_tells held p None latest room = record { bytes_are = refl; problem_is = refl; room = room; none = latest }
latest_tells held p (Some entry) latest room = payload_tells held p entry (decoded (mass_width held.version) p entry.payload) latest room refl

pub store_tells : (held : store.State) (p : Problem) → Tells held p (store_read held p)
store_tells held p = chosen (held.slot_size == room_for held.version p) refl
  where
    chosen : (b : Bool) → (held.slot_size == room_for held.version p) ≡ b → Tells held p (if b then latest_read held p held.latest else Damaged part.Size)
    chosen true same = latest_tells held p held.latest refl (eqb-true _ _ same)
    chosen false other = tt

-- nothing is held where no store was made, and only there
pub empty_of : (stored : store.Stored) → StoreHolds stored Empty → stored ≡ store.Empty
empty_of store.Empty h = refl
empty_of (store.Damaged damage) h = absurd (cc)
empty_of (store.Held held) (inl h) = let is : Empty ≡ Damaged part.Problem = h.content_is in absurd (cc)
empty_of (store.Held held) (inr h) = absurd (subst (Tells held h.problem) (sym h.content_is) (store_tells held h.problem))

-- a store that holds this content, and its problem
pub record IsHeldAs (stored : store.Stored) (content : Content) : Type 0 where
  pub held : store.State
  pub stored_is : stored ≡ store.Held held
  pub problem : Problem
  pub accepted : IsStorable held.problem problem
  pub tells : Tells held problem content

pub at_of : (stored : store.Stored) (bytes : List ℕ) (p : Problem) (s : State) (sequence : ℕ) → StoreHolds stored (At bytes p s sequence) → IsHeldAs stored (At bytes p s sequence)
at_of store.Empty bytes p s sequence h = absurd (cc)
at_of (store.Damaged damage) bytes p s sequence h = absurd (cc)
at_of (store.Held held) bytes p s sequence (inl h) = let is : At bytes p s sequence ≡ Damaged part.Problem = h.content_is in absurd (cc)
at_of (store.Held held) bytes p s sequence (inr h) = record {
  held = held;
  stored_is = refl;
  problem = h.problem;
  accepted = h.accepted;
  tells = subst (Tells held h.problem) (sym h.content_is) (store_tells held h.problem);
}

-- a store's masses have one of the two widths
pub is_mass_width : (version : ℕ) → IsMassWidth (mass_width version)
is_mass_width version = chosen (version == 1)
  where
    chosen : (b : Bool) → IsMassWidth (if b then w64 else w32)
    chosen true = inl refl
    chosen false = inr refl
