use Rattle.std.proofs.Common.{take}
use Rattle.amr_io.specs.Counts.{Counts}
use Rattle.amr_io.specs.Buffered.{fragments_text}
use Rattle.amr_io.proofs.count_sink.CountSink.put_fragments.Given as goal

-- the fragments so far are counted
abbrev pub invariant-loop-fragment : goal.invariant-loop-fragment
invariant-loop-fragment l = Counts l.initial.self l.self (fragments_text (take l.fragment-index l.fragments))
