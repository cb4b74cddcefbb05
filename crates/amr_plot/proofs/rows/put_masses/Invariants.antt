use Rattle.std.proofs.Common.{◌+◌, get_or}
use Rattle.amr_plot.specs.Texts.{texts, word}
use Rattle.amr_plot.proofs.rows.put_masses.Given as goal

-- the masses before column x are put
abbrev pub invariant-loop-k : goal.invariant-loop-k
invariant-loop-k g l = g.P.Pen.wrote l.initial.pen l.pen (texts (λ i. word (l.first + i) (get_or l.masses i 0)) l.k)
