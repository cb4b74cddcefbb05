-- Laws of registers, each of which a call of this crate ensures.
use Rattle.std.specs.Prelude.{◌≡◌, ℕ, suc, ◌≤◌, true, ℤ, pos, ◌+ℤ◌, List, [], ◌∷◌, is_some}
use Rattle.std.specs.List.{All}
use Rattle.amr_box.specs.declared.Cell.{Cell}
use Rattle.amr_def.specs.declared.problem.Problem.{Problem}
use Rattle.amr_def.specs.Domain.{domain}
use Rattle.amr_def.specs.Facts.{IsLevel, IsNestedLevel}
use Rattle.amr_def.specs.Flux.{net}
use Rattle.amr_def.specs.State.{Level, Masses}
use Rattle.amr_patch.specs.declared.patches.Patch.{Patch}
use Rattle.amr_patch.specs.Patches.{ArePatchesApart, masses_in}
use Rattle.amr_faces.specs.Faces.{ShowsValues}
use Rattle.amr_register.specs.declared.register.Register.{Register}
use Rattle.amr_register.specs.Fields.{IsRegisterOf}
use Rattle.amr_register.specs.CoarseFlows.{coarse_flows, edge_flows}
use Rattle.amr_register.specs.RegisterCells.{is_register_cell}

-- what several patches together take from the entry of a cell
abbrev pub net_of_all : Problem → ℕ → Masses → List Patch → Cell → ℤ
net_of_all p l fine [] c = pos 0
net_of_all p l fine (q ∷ qs) c = net (coarse_flows p l fine q) c +ℤ net_of_all p l fine qs c

-- the patches of a level k together take the plain flow through each of its coarse-fine edges once, whoever owns it: from the
-- entry of a register cell they take its net plain flow through its edges. The patches have the values of the level and of
-- the cells beside it, and the finer level is nested in it.
abbrev pub EdgesAreTakenOnce : Type 0
EdgesAreTakenOnce =
    (p : Problem) (l : ℕ) (k fine : Level) (old : Masses) (ps : List Patch) → l ≤ 3 → IsLevel p l k → IsLevel p (suc l) fine → IsNestedLevel p l k fine
    → ArePatchesApart ps → masses_in ps ≡ k.masses → All (ShowsValues p l k.masses old) ps
    → (c : Cell) → is_register_cell (domain p l) k.masses fine.masses c ≡ true
    → net_of_all p l fine.masses ps c ≡ net (edge_flows p l k.masses old fine.masses) c

-- a register over two levels is one over all levels with the same cells, whatever their masses are
abbrev pub RegistersGoByCells : Type 0
RegistersGoByCells =
    (p : Problem) (l : ℕ) (m fine m' fine' : Masses) (r : Register) → ((c : Cell) → is_some (m' c) ≡ is_some (m c))
    → ((c : Cell) → is_some (fine' c) ≡ is_some (fine c)) → IsRegisterOf p l m fine r → IsRegisterOf p l m' fine' r
