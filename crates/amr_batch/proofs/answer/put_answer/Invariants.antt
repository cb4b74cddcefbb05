use Rattle.std.proofs.Common.{◌≡◌}
use Rattle.amr_batch.proofs.Answering.{HasPut}
use Rattle.amr_batch.proofs.answer.put_answer.Given as goal

-- the replies before this number went out
abbrev pub invariant-loop-number : goal.invariant-loop-number
invariant-loop-number g l = record {
  put : HasPut g.O.Sink.holds l.initial.out l.out l.replies l.number;
  same : g.O.Sink.faults l.out ≡ g.O.Sink.faults l.initial.out;
}
