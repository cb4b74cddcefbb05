use Rattle.std.proofs.Common.{map, get_or}
use Rattle.amr_def.specs.Facts.{no_row, row_at}
use Rattle.amr_def.specs.Plot.{ledger_line, names_species}
use Rattle.amr_patch.specs.Meshes.{state_of}
use Rattle.amr_plot.specs.Texts.{texts}
use Rattle.amr_plot.proofs.plots.put_ledger_lines.Given as goal

-- the species so far are put
abbrev pub invariant-loop-species : goal.invariant-loop-species
invariant-loop-species g l =
    g.P.Pen.wrote l.initial.pen l.pen
    (texts (λ i. ledger_line (names_species l.p) l.k i (get_or (map (λ s. row_at s l.k) (map state_of l.meshes)) i no_row)) l.species)
