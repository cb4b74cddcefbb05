use Rattle.std.proofs.Common.{◌∙◌, ap, ◌+◌, sym}
use Rattle.std.proofs.lemmas.Result.{IfOk-weaker}
use Rattle.amr_store.proofs.Calls.{last_same}
use Rattle.amr_store.proofs.Entries.{record_some, record_open, record_within}
use Rattle.amr_store.proofs.store.Store.delta_at.Goals as goal

pub slot-requires : goal.slot-requires
slot-requires g c = record { within = record_within c.args.self.now _ c.args.number c.requires.to (ap (λ n. n + c.args.number) c.latest_slot.ensures.slot) }

pub payload_at-requires-clause-within : goal.payload_at-requires-clause-within
payload_at-requires-clause-within g c = record_within c.args.self.now _ c.args.number c.requires.to (ap (λ n. n + c.args.number) c.latest_slot.ensures.slot)

pub unreachable-requires : goal.unreachable-requires
unreachable-requires g c = record_open c.args.self.now _ c.args.number c.requires.from c.requires.to (ap (λ n. n + c.args.number) c.latest_slot.ensures.slot) (sym c.slot.ensures ∙ c.in-None.is)

pub returns-clause-record : goal.returns-clause-record
returns-clause-record g c shut =
    IfOk-weaker c.payload_at.result _ _ (λ bytes told s is.
    record_some c.args.self.now s _ c.args.number bytes.items (c.requires.ready.stands shut s is) c.requires.from c.requires.to (ap (λ n. n + c.args.number) c.latest_slot.ensures.slot) (told s is)) c.payload_at.ensures.payload

pub returns-clause-last : goal.returns-clause-last
returns-clause-last g c = last_same c.args.self.now c.payload_at.new.self c.payload_at.ensures.same c.payload_at.ensures.slots
