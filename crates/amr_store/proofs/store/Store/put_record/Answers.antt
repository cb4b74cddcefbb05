use Rattle.std.proofs.Common.{◌≡◌, subst, inr, List, ℕ, Bool, Some}
use Rattle.std.proofs.lemmas.Result.{MatchResult-from_both, on_ok_weaker}
use Rattle.std.specs.Prelude.{OnOk, option_map, slice_set}
use Rattle.amr_store.specs.Phases.{StopsFrom}
use Rattle.amr_store.specs.Stands.{put_slot, deltas_in, slots_in, slot_image}
use Rattle.amr_store.specs.Stored.{SameOr, stored, with_put}
use Rattle.amr_store.proofs.Groups.{record_is_none}
use Rattle.amr_store.proofs.Puts.{record_room, may_record, chain_recorded}
use Rattle.amr_store.proofs.store.Store.put_record.Goals as goal

pub put_into-requires-clause-next : goal.put_into-requires-clause-next
put_into-requires-clause-next g c = inr (record_room c.args.self.now c.next_record-which.result c.next_record-which.ensures c.requires.room)

pub put_into-requires-clause-may : goal.put_into-requires-clause-may
put_into-requires-clause-may g c = may_record c.args.self.now c.next_record-which.result c.args.sequence c.args.bytes.now c.requires.stands

pub returns-clause-put : goal.returns-clause-put
returns-clause-put g c shut =
    subst (λ (b : Bool). OnOk c.put_into.result ((s : List ℕ) → g.D.Disk.seen c.args.disk.now ≡ Some s → (t : List ℕ) × (g.D.Disk.seen c.put_into.new.disk ≡ Some t) × (stored t ≡ with_put b (stored s) c.args.sequence c.args.bytes.now)))
    (record_is_none (deltas_in c.args.self.now) (slots_in c.args.self.now) c.next_record-which.result (record_room c.args.self.now c.next_record-which.result c.next_record-which.ensures c.requires.room)) (c.put_into.ensures.put shut)

pub returns-clause-stops : goal.returns-clause-stops
returns-clause-stops g c shut =
    subst (λ (b : Bool). StopsFrom g.D.Disk.seen g.D.Disk.moment g.D.Disk.leaves c.args.disk.now c.put_into.new.disk (SameOr b c.args.sequence c.args.bytes.now))
    (record_is_none (deltas_in c.args.self.now) (slots_in c.args.self.now) c.next_record-which.result (record_room c.args.self.now c.next_record-which.result c.next_record-which.ensures c.requires.room)) (c.put_into.ensures.stops shut)

pub returns-clause-seen : goal.returns-clause-seen
returns-clause-seen g c =
    subst (λ (k : ℕ). OnOk c.put_into.result (g.D.Disk.seen c.put_into.new.disk ≡ option_map (slot_image c.args.self.now k c.args.sequence c.args.bytes.now) (g.D.Disk.seen c.args.disk.now)))
    c.next_record-which.ensures c.put_into.ensures.seen

pub returns-clause-slots : goal.returns-clause-slots
returns-clause-slots g c =
    MatchResult-from_both c.put_into.result _ _
    (subst (λ (k : ℕ). OnOk c.put_into.result (slots_in c.put_into.new.self ≡ slice_set (slots_in c.args.self.now) k (put_slot c.args.sequence c.args.bytes.now))) c.next_record-which.ensures c.put_into.ensures.slots)
    c.put_into.ensures.kept

pub returns-clause-chain : goal.returns-clause-chain
returns-clause-chain g c =
    on_ok_weaker c.put_into.result (λ slots. chain_recorded c.args.self.now c.put_into.new.self c.next_record-which.result c.args.sequence c.args.bytes.now (record_room c.args.self.now c.next_record-which.result c.next_record-which.ensures c.requires.room) c.requires.stands c.put_into.ensures.same slots) c.put_into.ensures.slots
