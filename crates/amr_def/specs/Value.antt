-- The value of a cell, of the level or not: what fluxes and tags are worked out from. (profile)
use Rattle.std.specs.Prelude.{ℕ, ◌/◌, ◌^◌, cond, pos, int_le, int_lt}
use Rattle.std.specs.Option.{unwrap_or}
use Rattle.amr_box.specs.declared.Cell.{Cell}
use Rattle.amr_box.specs.Cells.{parent}
use Rattle.amr_def.specs.declared.problem.Problem.{Problem}
use Rattle.amr_def.specs.declared.problem.Sides.{Sides}
use Rattle.amr_def.specs.declared.problem.Sides.TheVariants.{Periodic, Open}
use Rattle.amr_def.specs.Domain.{columns, domain, home_cell, in_domain}
use Rattle.amr_def.specs.State.{Masses, mass_of}

abbrev pub low_inflow : Sides → ℕ
low_inflow Periodic = 0
low_inflow (Open low high) = low

abbrev pub high_inflow : Sides → ℕ
high_inflow Periodic = 0
high_inflow (Open low high) = high

-- the inflow of the side that a cell lies outside of
unfoldable pub inflow_at : Problem → ℕ → Cell → ℕ
inflow_at p l c =
    cond (int_lt c.x (pos 0)) (low_inflow p.x_sides)
    (cond (int_le (pos (columns p l)) c.x) (high_inflow p.x_sides)
    (cond (int_lt c.y (pos 0)) (low_inflow p.y_sides) (high_inflow p.y_sides)))

-- a cell of the level has its mass; another of the domain a quarter of what its parent held at the
-- start of the coarser step, `old`; a cell outside the side's inflow, at level 0 whole and at each
-- finer level a quarter of that
abbrev pub home_value : Problem → ℕ → Masses → Masses → Cell → ℕ
home_value p l m old c = unwrap_or (m c) (cond (in_domain (domain p l) c) (mass_of old (parent c) / 4) (inflow_at p l c / 4 ^ l))

-- the same of any cell, by the cell that it stands for
unfoldable pub value_at : Problem → ℕ → Masses → Masses → Cell → ℕ
value_at p l m old c = home_value p l m old (home_cell (domain p l) c)
