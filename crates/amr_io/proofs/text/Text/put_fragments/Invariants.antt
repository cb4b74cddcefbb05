use Rattle.std.proofs.Common.{◌≡◌, take}
use Rattle.amr_io.specs.Buffered.{Sent, fragments_text}
use Rattle.amr_io.proofs.text.Text.put_fragments.Given as goal

abbrev pub invariant-loop-fragment : goal.invariant-loop-fragment
invariant-loop-fragment g l = record {
  sent : Sent g.O.Sink.holds l.initial.sink l.sink l.initial.self l.self (fragments_text (take l.fragment-index l.fragments));
  same : g.O.Sink.faults l.sink ≡ g.O.Sink.faults l.initial.sink;
}
