use Rattle.std.proofs.Common.{◌≡◌, ◌∙◌, ap, sym, subst, ℕ, List, length}
use Rattle.amr_disk.specs.Image.{Torn, written_at}
use Rattle.amr_store.proofs.Calls.{closed_is, last_closed, mapped_some, next_within, sound_closed_slots}
use Rattle.amr_store.proofs.Steps.{ClosesNext, close_same, close_stands}
use Rattle.amr_store.proofs.Runs.{weaker}
use Rattle.amr_store.specs.Stands.{Stands, closing_chunk}
use Rattle.amr_store.specs.Stored.{stored}
use Rattle.amr_store.proofs.store.Store.close.Goals as goal

pub slot-requires : goal.slot-requires
slot-requires g c = record { within = next_within c.args.self.now c.args.which c.requires.next }

pub gate-requires : goal.gate-requires
gate-requires g c = record { within = next_within c.args.self.now c.args.which c.requires.next }

pub set_slot-requires-clause-within : goal.set_slot-requires-clause-within
set_slot-requires-clause-within g c = next_within c.args.self.now c.args.which c.requires.next

pub set_slot-requires-clause-sound : goal.set_slot-requires-clause-sound
set_slot-requires-clause-sound g c = sound_closed_slots c.args.self.now c.args.which c.requires.next

pub returns-in-Ok-clause-ready : goal.returns-in-Ok-clause-ready
returns-in-Ok-clause-ready g c =
    let store = c.args.self.now in
    let closes : ClosesNext store c.args.which c.gate.result c.chunk_to_close-chunk.result.now = record { next = c.requires.next; at_is = c.gate.ensures.place; chunk_is = c.chunk_to_close-chunk.ensures ∙ ap closing_chunk c.slot.ensures } in
    record {
      settled = λ shut. c.in-Ok.ensures.settled;
      stands = λ shut t is.
          let from = mapped_some (written_at c.gate.result c.chunk_to_close-chunk.result.now) (g.D.Disk.seen c.args.disk.now) t (sym c.in-Ok.ensures.seen ∙ is) in
          subst (λ (x : List ℕ). Stands c.set_slot.new.self x) from.2
          (close_stands store c.set_slot.new.self from.0 c.args.which c.gate.result c.chunk_to_close-chunk.result.now closes (c.requires.ready.stands c.if-self.false from.0 from.1)
          c.set_slot.ensures.same c.set_slot.ensures.slots);
    }

pub returns-in-Ok-clause-stops : goal.returns-in-Ok-clause-stops
returns-in-Ok-clause-stops g c shut s is =
    let store = c.args.self.now in
    let closes : ClosesNext store c.args.which c.gate.result c.chunk_to_close-chunk.result.now = record { next = c.requires.next; at_is = c.gate.ensures.place; chunk_is = c.chunk_to_close-chunk.ensures ∙ ap closing_chunk c.slot.ensures } in
    weaker g.D.Disk.moment g.D.Disk.leaves c.args.disk.now c.write_synced.new.disk (Torn c.gate.result (length c.chunk_to_close-chunk.result.now) s) (λ image. stored image ≡ stored s)
    (λ image torn. close_same store s image c.args.which c.gate.result c.chunk_to_close-chunk.result.now closes (c.requires.ready.stands shut s is) torn) (c.write_synced.ensures.stops s is)

pub returns-in-Ok-clause-last : goal.returns-in-Ok-clause-last
returns-in-Ok-clause-last g c = last_closed c.args.self.now c.set_slot.new.self c.args.which c.set_slot.ensures.same c.requires.next c.set_slot.ensures.slots

pub returns-in-Ok-clause-closed : goal.returns-in-Ok-clause-closed
returns-in-Ok-clause-closed g c = closed_is c.args.self.now c.set_slot.new.self c.args.which c.set_slot.ensures.same c.requires.next c.set_slot.ensures.slots

pub returns-in-Err-clause-stops : goal.returns-in-Err-clause-stops
returns-in-Err-clause-stops g c shut s is =
    let store = c.args.self.now in
    let closes : ClosesNext store c.args.which c.gate.result c.chunk_to_close-chunk.result.now = record { next = c.requires.next; at_is = c.gate.ensures.place; chunk_is = c.chunk_to_close-chunk.ensures ∙ ap closing_chunk c.slot.ensures } in
    weaker g.D.Disk.moment g.D.Disk.leaves c.args.disk.now c.write_synced.new.disk (Torn c.gate.result (length c.chunk_to_close-chunk.result.now) s) (λ image. stored image ≡ stored s)
    (λ image torn. close_same store s image c.args.which c.gate.result c.chunk_to_close-chunk.result.now closes (c.requires.ready.stands shut s is) torn) (c.write_synced.ensures.stops s is)
