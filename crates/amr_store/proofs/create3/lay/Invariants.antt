use Rattle.std.proofs.Common.{◌≡◌, ◌-◌}
use Rattle.std.specs.Prelude.{option_map}
use Rattle.amr_disk.specs.Image.{written_at}
use Rattle.amr_store.specs.Created.{IsShutFirst, gates_shut}
use Rattle.amr_store.specs.Phases.{StopsFrom}
use Rattle.amr_store.proofs.create3.lay.Given as goal

abbrev pub invariant-loop-k : goal.invariant-loop-k
invariant-loop-k g l = record {
  seen : g.D.Disk.seen l.disk ≡ option_map (λ s. gates_shut (l.k - 1) l.lead l.slot_size (written_at 1 l.head s)) (g.D.Disk.seen l.fn.disk);
  faults : g.D.Disk.faults l.disk ≡ g.D.Disk.faults l.fn.disk;
  stops : StopsFrom g.D.Disk.seen g.D.Disk.moment g.D.Disk.leaves l.fn.disk l.disk (λ s c. IsShutFirst s → IsShutFirst c);
}
