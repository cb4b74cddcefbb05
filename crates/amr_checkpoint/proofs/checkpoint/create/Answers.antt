use Rattle.std.proofs.Common.{◌≡◌, ◌+◌, ℕ, List, Option, Some, None, IfOk, OnOk, inr, refl, sym, subst}
use Rattle.std.specs.Prelude.{◌⊎◌, option_map}
use Rattle.amr_payload.specs.Delta.{delta_size}
use Rattle.amr_store.specs.Created.{created_image, created_image_3, new_state, state_with}
use Rattle.amr_store.specs.Phases.{StopsFrom}
use Rattle.amr_store.specs.Stands.{IsStoreOf}
use Rattle.amr_store.specs.Stored as store
use Rattle.amr_checkpoint.specs.Contents.{room_for}
use Rattle.amr_checkpoint.specs.Made.{deltas_made, image_made, state_made, version_made}
use Rattle.amr_checkpoint.proofs.Puts.{text_short}
use Rattle.amr_checkpoint.proofs.checkpoint.create.Goals as goal

pub create-requires-clause-version : goal.create-requires-clause-version
create-requires-clause-version g c = inr refl

pub create-requires-clause-text : goal.create-requires-clause-text
create-requires-clause-text g c = text_short c.args.bytes.now c.args.p.now c.requires.accepted

pub create3-requires-clause-text : goal.create3-requires-clause-text
create3-requires-clause-text g c = text_short c.args.bytes.now c.args.p.now c.requires.accepted

pub returns-in-None-clause-store : goal.returns-in-None-clause-store
returns-in-None-clause-store g c =
    subst (λ (d : Option ℕ). IfOk c.create.result (IsStoreOf (version_made d) c.args.bytes.now (room_for (version_made d) c.args.p.now) (deltas_made d))) (sym c.in-None.is)
    (subst (λ n. IfOk c.create.result (IsStoreOf 2 c.args.bytes.now n 0)) c.room.ensures.value c.create.ensures.store)

pub returns-in-None-clause-seen : goal.returns-in-None-clause-seen
returns-in-None-clause-seen g c =
    subst (λ (d : Option ℕ). OnOk c.create.result (g.D.Disk.seen c.create.new.disk ≡ option_map (image_made d c.args.bytes.now c.args.p.now) (g.D.Disk.seen c.args.disk.now))) (sym c.in-None.is)
    (subst (λ n. OnOk c.create.result (g.D.Disk.seen c.create.new.disk ≡ option_map (created_image 2 c.args.bytes.now n) (g.D.Disk.seen c.args.disk.now))) c.room.ensures.value c.create.ensures.seen)

pub returns-in-None-clause-made : goal.returns-in-None-clause-made
returns-in-None-clause-made g c =
    subst (λ (d : Option ℕ). OnOk c.create.result ((t : List ℕ) → g.D.Disk.seen c.create.new.disk ≡ Some t → store.stored t ≡ store.Held (state_made d c.args.bytes.now c.args.p.now))) (sym c.in-None.is)
    (subst (λ n. OnOk c.create.result ((t : List ℕ) → g.D.Disk.seen c.create.new.disk ≡ Some t → store.stored t ≡ store.Held (new_state 2 c.args.bytes.now n))) c.room.ensures.value c.create.ensures.made)

pub returns-in-None-clause-stops : goal.returns-in-None-clause-stops
returns-in-None-clause-stops g c =
    subst (λ (d : Option ℕ). StopsFrom g.D.Disk.seen g.D.Disk.moment g.D.Disk.leaves c.args.disk.now c.create.new.disk
    (λ s i. (store.stored i ≡ store.Empty) ⊎ (store.stored i ≡ store.Held (state_made d c.args.bytes.now c.args.p.now)))) (sym c.in-None.is)
    (subst (λ n. StopsFrom g.D.Disk.seen g.D.Disk.moment g.D.Disk.leaves c.args.disk.now c.create.new.disk
    (λ s i. (store.stored i ≡ store.Empty) ⊎ (store.stored i ≡ store.Held (new_state 2 c.args.bytes.now n)))) c.room.ensures.value c.create.ensures.stops)

pub returns-in-Some-clause-store : goal.returns-in-Some-clause-store
returns-in-Some-clause-store g c =
    subst (λ (d : Option ℕ). IfOk c.create3.result (IsStoreOf (version_made d) c.args.bytes.now (room_for (version_made d) c.args.p.now) (deltas_made d))) (sym c.in-Some.is)
    (subst (λ n. IfOk c.create3.result (IsStoreOf 3 c.args.bytes.now n c.in-Some.deltas)) c.delta_size.ensures.value c.create3.ensures.store)

pub returns-in-Some-clause-seen : goal.returns-in-Some-clause-seen
returns-in-Some-clause-seen g c =
    subst (λ (d : Option ℕ). OnOk c.create3.result (g.D.Disk.seen c.create3.new.disk ≡ option_map (image_made d c.args.bytes.now c.args.p.now) (g.D.Disk.seen c.args.disk.now))) (sym c.in-Some.is)
    (subst (λ n. OnOk c.create3.result (g.D.Disk.seen c.create3.new.disk ≡ option_map (created_image_3 c.in-Some.deltas c.args.bytes.now n) (g.D.Disk.seen c.args.disk.now))) c.delta_size.ensures.value c.create3.ensures.seen)

pub returns-in-Some-clause-made : goal.returns-in-Some-clause-made
returns-in-Some-clause-made g c =
    subst (λ (d : Option ℕ). OnOk c.create3.result ((t : List ℕ) → g.D.Disk.seen c.create3.new.disk ≡ Some t → store.stored t ≡ store.Held (state_made d c.args.bytes.now c.args.p.now))) (sym c.in-Some.is)
    (subst (λ n. OnOk c.create3.result ((t : List ℕ) → g.D.Disk.seen c.create3.new.disk ≡ Some t → store.stored t ≡ store.Held (state_with 3 c.in-Some.deltas c.args.bytes.now n))) c.delta_size.ensures.value c.create3.ensures.made)

pub returns-in-Some-clause-stops : goal.returns-in-Some-clause-stops
returns-in-Some-clause-stops g c =
    subst (λ (d : Option ℕ). StopsFrom g.D.Disk.seen g.D.Disk.moment g.D.Disk.leaves c.args.disk.now c.create3.new.disk
    (λ s i. (store.stored i ≡ store.Empty) ⊎ (store.stored i ≡ store.Held (state_made d c.args.bytes.now c.args.p.now)))) (sym c.in-Some.is)
    (subst (λ n. StopsFrom g.D.Disk.seen g.D.Disk.moment g.D.Disk.leaves c.args.disk.now c.create3.new.disk
    (λ s i. (store.stored i ≡ store.Empty) ⊎ (store.stored i ≡ store.Held (state_with 3 c.in-Some.deltas c.args.bytes.now n)))) c.delta_size.ensures.value c.create3.ensures.stops)
