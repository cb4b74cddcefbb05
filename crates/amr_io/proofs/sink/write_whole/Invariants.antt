use Rattle.std.proofs.Common.{◌≡◌, length, ◌-◌, ◌≤◌, take}
use Rattle.amr_causes.specs.Bytes.{Grows}
use Rattle.amr_io.proofs.sink.write_whole.Given as goal

abbrev pub invariant-loop-at : goal.invariant-loop-at
invariant-loop-at g l = record {
  within : l.at ≤ length l.bytes;
  out : Grows g.O.Sink.holds l.initial.sink l.sink (take l.at l.bytes);
  same : g.O.Sink.faults l.sink ≡ g.O.Sink.faults l.initial.sink;
}

abbrev pub decreases-loop-at : goal.decreases-loop-at
decreases-loop-at g l = length l.bytes - l.at
