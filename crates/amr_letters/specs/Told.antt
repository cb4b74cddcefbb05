-- What a node tells of the frame of a patch: the values of the ghost cells beside it. (Ghost cells of the same level, else of the
-- coarser one: Berger, M. and Colella, P., Local Adaptive Mesh Refinement for Shock Hydrodynamics, Journal of Computational Physics
-- 82 (1989))
use Rattle.std.specs.Prelude.{◌≡◌, ℕ, ◌/◌, ◌^◌, ◌<◌, cond, IfSome}
use Rattle.std.specs.declared.option.Option.{Option}
use Rattle.std.specs.Option.{unwrap_or}
use Rattle.amr_box.specs.declared.Cell.{Cell}
use Rattle.amr_box.specs.Cells.{Extent}
use Rattle.amr_def.specs.declared.problem.Problem.{Problem}
use Rattle.amr_def.specs.Domain.{domain, home_cell, in_domain}
use Rattle.amr_def.specs.State.{Masses}
use Rattle.amr_def.specs.Value.{inflow_at, value_at}
use Rattle.amr_ranks.specs.Items.{mass_at}
use Rattle.amr_ranks.specs.Nodes.{NodeOf}
use Rattle.amr_letters.specs.Beside.{beside_cell, beside_count}

-- the value of a ghost cell that stands for cell h, by the mass that is told of it: that mass where one is told; else 0 in the
-- domain, and outside a side the side's inflow, at each finer level a quarter of that
abbrev pub value_told : Problem → ℕ → Cell → Option ℕ → ℕ
value_told p l h told = unwrap_or told (cond (in_domain (domain p l) h) 0 (inflow_at p l h / 4 ^ l))

-- the value by what a node has of the ghost cell at a slot of the patch of this number
abbrev pub value_by : Problem → ℕ → ℕ → Extent → NodeOf → ℕ → ℕ
value_by p l number b n slot = value_told p l (home_cell (domain p l) (beside_cell b slot)) (mass_at number slot n.cells)

-- a node tells the frame of the patch of this number and box: by what it has each ghost cell beside the box has its value, by the
-- masses of the level, m, and those of the next coarser level before its step, old
pub record TellsFrame (p : Problem) (l : ℕ) (m old : Masses) (number : ℕ) (b : Extent) (n : NodeOf) : Type 0 where
  pub at : (slot : ℕ) → slot < beside_count b → value_by p l number b n slot ≡ value_at p l m old (beside_cell b slot)

-- the masses that a node has of cells fit 32 bits, as those of patches do
pub record HasPatchMasses (n : NodeOf) : Type 0 where
  pub small : (patch slot : ℕ) → IfSome (mass_at patch slot n.cells) (λ m. m < 2 ^ 32)
