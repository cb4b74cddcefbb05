-- A law of plots, which a call of the crate ensures.
use Rattle.std.specs.Prelude.{◌^◌, ◌<◌, ◌≤◌, List, length}
use Rattle.amr_def.specs.declared.problem.Problem.{Problem}
use Rattle.amr_def.specs.State.{State}
use Rattle.amr_def.specs.Species.{AreAlike}
use Rattle.amr_def.specs.Plot.{plot_all}

-- the length of the plot of sound states, of at most four species, fits 64 bits
abbrev pub PlotsAreShort : Type 0
PlotsAreShort = (p : Problem) (ss : List State) → AreAlike p ss → length ss ≤ 4 → length (plot_all p ss) < 2 ^ 64
