-- Laws of what the words of a layout hold, each of which a call of this crate ensures.
use Rattle.std.specs.Prelude.{◌≡◌, ℕ, suc, ◌+◌, ◌*◌, ◌<◌, pos, ◌-ℤ◌, List, length, slice_index_or, unsigned_abs, is_some}
use Rattle.std.specs.List.{All}
use Rattle.amr_box.specs.declared.Cell.{Cell}
use Rattle.amr_box.specs.declared.Face.{Face}
use Rattle.amr_def.specs.declared.problem.Problem.{Problem}
use Rattle.amr_def.specs.Domain.{domain}
use Rattle.amr_def.specs.State.{Level, Masses}
use Rattle.amr_def.specs.Flux.{flux_at, net}
use Rattle.amr_def.specs.Facts.{IsLevel, IsNestedLevel}
use Rattle.amr_laws.specs.Sides.{inflow_beside, is_uncovered, outflow_beside}
use Rattle.amr_patch.specs.declared.patches.Patch.{Patch}
use Rattle.amr_patch.specs.Patches.{ArePatchesApart, box, in_patches}
use Rattle.amr_faces.specs.Faces.{IsInDomain}
use Rattle.amr_layout.specs.Surroundings.{Around, around_masses}
use Rattle.amr_register.specs.RegisterCells.{register_cells}
use Rattle.amr_flows.specs.Words.{child_flows, level_total}

-- patches of a level with masses m: they lie in its domain, no cell is in two of them, and their cells are those of the level
pub record ArePatchesOf (p : Problem) (l : ℕ) (m : Masses) (ps : List Patch) : Type 0 where
  pub inside : All (λ q. IsInDomain (domain p l) (box q)) ps
  pub apart : ArePatchesApart ps
  pub cells : (c : Cell) → in_patches ps c ≡ is_some (m c)

-- the sizes of a level's own fluxes: of masses m, with the coarser masses `old`
abbrev pub plain_size : Problem → ℕ → Masses → Masses → Face → ℕ
plain_size p l m old f = unsigned_abs (flux_at p l m old f)

-- what the patches add to the ledger's words: to word 0 what flows into the domain beside the level's uncovered cells, to word 1
-- what flows out there (Berger and Colella: the fluxes of each level where it is the finest)
abbrev pub InflowIsOfLevel : Type 0
InflowIsOfLevel = (p : Problem) (l : ℕ) (m old fine : Masses) (ps : List Patch) (cells : List Cell) → ArePatchesOf p l m ps
    → level_total (around_masses p l ps cells fine) (plain_size p l m old) 0
    ≡ inflow_beside p l (is_uncovered m fine) (flux_at p l m old)

abbrev pub OutflowIsOfLevel : Type 0
OutflowIsOfLevel = (p : Problem) (l : ℕ) (m old fine : Masses) (ps : List Patch) (cells : List Cell) → ArePatchesOf p l m ps
    → level_total (around_masses p l ps cells fine) (plain_size p l m old) 1
    ≡ outflow_beside p l (is_uncovered m fine) (flux_at p l m old)

-- what the patches of the finer level l + 1 add to the words of register cell k of level l: its gain less its loss is what comes
-- into the cell through the child faces of its coarse-fine edges (Berger and Colella)
abbrev pub RegisterWordsAreOfChildren : Type 0
RegisterWordsAreOfChildren = (p : Problem) (l : ℕ) (coarse fine : Level) (old finer : Masses) (ps : List Patch) (k : ℕ) (c : Cell)
    → IsLevel p l coarse → IsLevel p (suc l) fine → IsNestedLevel p l coarse fine → ArePatchesOf p (suc l) fine.masses ps
    → k < length (register_cells p l coarse.masses fine.masses)
    → let s : Around = around_masses p (suc l) ps (register_cells p l coarse.masses fine.masses) finer in
    let size : Face → ℕ = plain_size p (suc l) fine.masses old in
    pos (level_total s size (2 + 2 * k)) -ℤ pos (level_total s size (3 + 2 * k))
    ≡ net (child_flows p l fine.masses (flux_at p (suc l) fine.masses old)) (slice_index_or s.cells k c)
