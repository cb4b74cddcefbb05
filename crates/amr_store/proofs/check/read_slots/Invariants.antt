use Rattle.std.proofs.Common.{◌≡◌, length, drop}
use Rattle.amr_store.specs.Checks.{SlotsRead}
use Rattle.amr_store.specs.Layout.{lead_length}
use Rattle.amr_store.specs.Phases.{OnlyReads, Told}
use Rattle.amr_store.proofs.check.read_slots.Given as goal

abbrev pub invariant-loop-k : goal.invariant-loop-k
invariant-loop-k g l = record {
  count : length l.slots.items ≡ l.k;
  reads : OnlyReads g.D.Disk.seen g.D.Disk.moment g.D.Disk.leaves l.initial.disk l.disk;
  faults : g.D.Disk.faults l.disk ≡ g.D.Disk.faults l.initial.disk;
  told : Told (g.D.Disk.seen l.initial.disk) (λ s. SlotsRead (drop l.base s) (lead_length l.head.version l.head.text) l.head.slot_size l.k l.slots.items);
}
