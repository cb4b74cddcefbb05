use Rattle.std.proofs.Common.{◌∙◌, ap, sym, Option}
use Rattle.std.specs.Prelude.{is_some}
use Rattle.amr_store.specs.declared.slot.Slot.{Slot}
use Rattle.amr_store.proofs.Calls.{last_same}
use Rattle.amr_store.proofs.Entries.{latest_none, latest_some, latest_is_some}
use Rattle.amr_store.proofs.store.Store.latest.Goals as goal

pub returns-in-None-clause-latest : goal.returns-in-None-clause-latest
returns-in-None-clause-latest g c shut s is = latest_none c.args.self.now s c.latest_slot-which.result (c.requires.ready.stands shut s is) c.latest_slot-which.ensures.slot (sym c.slot.ensures ∙ c.in-None.is)

pub returns-in-Ok-clause-latest : goal.returns-in-Ok-clause-latest
returns-in-Ok-clause-latest g c shut s is = latest_some c.args.self.now s c.latest_slot-which.result c.in-Ok.bytes.items (c.requires.ready.stands shut s is) c.latest_slot-which.ensures.slot (c.in-Ok.ensures.payload s is)

pub returns-in-None-clause-none : goal.returns-in-None-clause-none
returns-in-None-clause-none g c =
    ap (λ (o : Option Slot). is_some o) (sym c.in-None.is ∙ c.slot.ensures) ∙ latest_is_some c.args.self.now c.latest_slot-which.result c.latest_slot-which.ensures.slot

pub returns-in-Ok-clause-none : goal.returns-in-Ok-clause-none
returns-in-Ok-clause-none g c =
    ap (λ (o : Option Slot). is_some o) (sym c.in-Some.is ∙ c.slot.ensures) ∙ latest_is_some c.args.self.now c.latest_slot-which.result c.latest_slot-which.ensures.slot

pub returns-in-Ok-clause-last : goal.returns-in-Ok-clause-last
returns-in-Ok-clause-last g c = last_same c.args.self.now c.payload_at.new.self c.payload_at.ensures.same c.payload_at.ensures.slots

pub returns-in-Err-clause-last : goal.returns-in-Err-clause-last
returns-in-Err-clause-last g c = last_same c.args.self.now c.payload_at.new.self c.payload_at.ensures.same c.payload_at.ensures.slots
