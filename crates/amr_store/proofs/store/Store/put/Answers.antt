use Rattle.std.proofs.Common.{◌≡◌, subst, inl, List, ℕ, Bool, Some}
use Rattle.std.proofs.lemmas.Result.{MatchResult-from_both, on_ok_weaker}
use Rattle.std.specs.Prelude.{OnOk, option_map, slice_set}
use Rattle.amr_store.specs.Phases.{StopsFrom}
use Rattle.amr_store.specs.Stands.{put_slot, slots_in, slot_image}
use Rattle.amr_store.specs.Stored.{SameOr, stored, with_put}
use Rattle.amr_store.proofs.Puts.{next_base_is, may_base, chain_put}
use Rattle.amr_store.proofs.store.Store.put.Goals as goal

pub put_into-requires-clause-next : goal.put_into-requires-clause-next
put_into-requires-clause-next g c = inl c.next-which.ensures.slot

pub put_into-requires-clause-may : goal.put_into-requires-clause-may
put_into-requires-clause-may g c = may_base c.args.self.now c.next-which.result c.args.sequence _ c.next-which.ensures.slot c.requires.above

pub returns-clause-put : goal.returns-clause-put
returns-clause-put g c shut =
    subst (λ (b : Bool). OnOk c.put_into.result ((s : List ℕ) → g.D.Disk.seen c.args.disk.now ≡ Some s → (t : List ℕ) × (g.D.Disk.seen c.put_into.new.disk ≡ Some t) × (stored t ≡ with_put b (stored s) c.args.sequence c.args.bytes.now)))
    (next_base_is c.args.self.now c.next-which.result c.next-which.ensures.slot) (c.put_into.ensures.put shut)

pub returns-clause-stops : goal.returns-clause-stops
returns-clause-stops g c shut =
    subst (λ (b : Bool). StopsFrom g.D.Disk.seen g.D.Disk.moment g.D.Disk.leaves c.args.disk.now c.put_into.new.disk (SameOr b c.args.sequence c.args.bytes.now))
    (next_base_is c.args.self.now c.next-which.result c.next-which.ensures.slot) (c.put_into.ensures.stops shut)

pub returns-clause-seen : goal.returns-clause-seen
returns-clause-seen g c =
    subst (λ (k : ℕ). OnOk c.put_into.result (g.D.Disk.seen c.put_into.new.disk ≡ option_map (slot_image c.args.self.now k c.args.sequence c.args.bytes.now) (g.D.Disk.seen c.args.disk.now)))
    c.next-which.ensures.slot c.put_into.ensures.seen

pub returns-clause-slots : goal.returns-clause-slots
returns-clause-slots g c =
    MatchResult-from_both c.put_into.result _ _
    (subst (λ (k : ℕ). OnOk c.put_into.result (slots_in c.put_into.new.self ≡ slice_set (slots_in c.args.self.now) k (put_slot c.args.sequence c.args.bytes.now))) c.next-which.ensures.slot c.put_into.ensures.slots)
    c.put_into.ensures.kept

pub returns-clause-chain : goal.returns-clause-chain
returns-clause-chain g c =
    on_ok_weaker c.put_into.result (λ slots. chain_put c.args.self.now c.put_into.new.self c.next-which.result c.args.sequence c.args.bytes.now c.next-which.ensures.slot c.requires.counted c.requires.above c.put_into.ensures.same slots) c.put_into.ensures.slots
