use Rattle.amr_ghost.specs.Strips.{AreWritten}
use Rattle.amr_ghost.proofs.entries.fill_entries.Given as goal

abbrev pub invariant-loop-k : goal.invariant-loop-k
invariant-loop-k g l = (absent : g.row.T.Denot) → AreWritten absent l.fn.target l.k (λ j. l.fn.value) l.initial.values l.values
