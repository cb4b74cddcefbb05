use Rattle.std.proofs.Common.{◌≡◌, ◌∙◌, ◌+◌, ◌∷◌, [], List, Option, ℕ, true, ap, drop, length, refl, sym, subst, arith, length-append}
use Rattle.amr_store.proofs.PartsRead.{slots_cut, slots_more, slots_none}
use Rattle.amr_store.proofs.Readings.{no_reads, reads_on}
use Rattle.amr_store.specs.declared.fields.SlotFound.{SlotFound}
use Rattle.amr_store.specs.declared.fields.SlotFound.TheVariants.{Sound}
use Rattle.amr_store.specs.declared.slot.Slot.{Slot}
use Rattle.amr_store.specs.Checks.{SlotsRead}
use Rattle.amr_store.specs.Layout.{lead_length}
use Rattle.amr_store.specs.Fields.{IsSlot}
use Rattle.amr_store.specs.Stored.{is_broken}
use Rattle.amr_store.specs.Table.{slot_count}
use Rattle.amr_store.proofs.check.read_slots.Goals as goal

pub loop-k-init : goal.loop-k-init
loop-k-init g c = record {
  count = ap length c.new-slots.ensures.items;
  reads = no_reads g.D.Disk.seen g.D.Disk.moment g.D.Disk.leaves c.args.disk.now;
  faults = refl;
  told = λ s is.
      let part = drop c.args.base s in
      let lead = lead_length c.args.head.version c.args.head.text in
      subst (λ (l : List (Option Slot)). SlotsRead part lead c.args.head.slot_size 0 l) (sym c.new-slots.ensures.items) (slots_none part lead c.args.head.slot_size);
}

pub loop-k-preserved : goal.loop-k-preserved
loop-k-preserved g c =
    let lead = lead_length c.args.head.version c.args.head.text in
    let size = c.args.head.slot_size in
    let old = c.loop-k.slots.items in
    let items = c.in_ok-push-in-Sound.ensures.items in
    record {
      count = omega (arith, c.loop-k.invariant.count, ap length items, length-append old (c.in-Sound.slot ∷ []));
      reads = reads_on g.D.Disk.seen g.D.Disk.moment g.D.Disk.leaves c.args.disk.now c.loop-k.disk c.read_slot.new.disk c.loop-k.invariant.reads c.read_slot.ensures.reads;
      faults = c.in_ok-read_slot.ensures.no_fault ∙ c.loop-k.invariant.faults;
      told = λ s is.
          let part = drop c.args.base s in
          let here = subst (λ (f : SlotFound). IsSlot f part c.gate_of-gate.result size) c.in-Sound.is (c.in_ok-read_slot.ensures.told s (c.loop-k.invariant.reads.same ∙ is)) in
          subst (λ (l : List (Option Slot)). SlotsRead part lead size (c.loop-k.k + 1) l) (sym items)
          (slots_more part lead size c.loop-k.k old c.in-Sound.slot (c.loop-k.invariant.told s is) (subst (λ (g : ℕ). IsSlot (Sound c.in-Sound.slot) part g size) c.gate_of-gate.ensures.place here));
    }

pub returns-in-Broken-clause-told : goal.returns-in-Broken-clause-told
returns-in-Broken-clause-told g c s is =
    let part = drop c.args.base s in
    let lead = lead_length c.args.head.version c.args.head.text in
    let size = c.args.head.slot_size in
    let here = subst (λ (f : SlotFound). IsSlot f part c.gate_of-gate.result size) c.in-Broken.is (c.in_ok-read_slot.ensures.told s (c.loop-k.invariant.reads.same ∙ is)) in
    slots_cut part lead size (slot_count c.args.deltas) c.loop-k.k c.loop-k.slots.items (c.loop-k.invariant.told s is) (omega (arith, c.loop-k-test.true)) (subst (λ (g : ℕ). is_broken part g size ≡ true) c.gate_of-gate.ensures.place here)

pub returns-in-Broken-clause-reads : goal.returns-in-Broken-clause-reads
returns-in-Broken-clause-reads g c = reads_on g.D.Disk.seen g.D.Disk.moment g.D.Disk.leaves c.args.disk.now c.loop-k.disk c.read_slot.new.disk c.loop-k.invariant.reads c.read_slot.ensures.reads

pub returns-in_err-read_slot-clause-reads : goal.returns-in_err-read_slot-clause-reads
returns-in_err-read_slot-clause-reads g c = reads_on g.D.Disk.seen g.D.Disk.moment g.D.Disk.leaves c.args.disk.now c.loop-k.disk c.read_slot.new.disk c.loop-k.invariant.reads c.read_slot.ensures.reads

pub returns-in_err-push-in-Sound-clause-reads : goal.returns-in_err-push-in-Sound-clause-reads
returns-in_err-push-in-Sound-clause-reads g c = reads_on g.D.Disk.seen g.D.Disk.moment g.D.Disk.leaves c.args.disk.now c.loop-k.disk c.read_slot.new.disk c.loop-k.invariant.reads c.read_slot.ensures.reads

pub returns-clause-told : goal.returns-clause-told
returns-clause-told g c s is =
    let all : c.loop-k.k ≡ slot_count c.args.deltas = omega (arith, c.loop-k.auto.k-end, c.loop-k-test.false) in
    subst (λ (n : ℕ). SlotsRead (drop c.args.base s) (lead_length c.args.head.version c.args.head.text) c.args.head.slot_size n c.loop-k.slots.items) all (c.loop-k.invariant.told s is)
