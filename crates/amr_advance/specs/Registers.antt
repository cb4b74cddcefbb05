-- The registers that a step of a level adds to.
use Rattle.std.specs.Prelude.{◌≡◌, ℕ, zero, suc, ◌<◌, ◌≤◌, ◌^◌, ℤ, pos, ◌+ℤ◌, ◌-ℤ◌, neg_ℤ, ⊤, List, [], ◌∷◌, unsigned_abs, IsSome, IsTrue}
use Rattle.std.specs.declared.option.Option.{Option}
use Rattle.std.specs.declared.option.Option.TheVariants.{None, Some}
use Rattle.std.specs.List.{All, AllZip, Contains}
use Rattle.amr_box.specs.declared.Cell.{Cell}
use Rattle.amr_box.specs.Cells.{Extent}
use Rattle.amr_def.specs.declared.problem.Problem.{Problem}
use Rattle.amr_def.specs.Domain.{domain, in_domain}
use Rattle.amr_def.specs.State.{Level, Masses}
use Rattle.amr_def.specs.Flux.{Fluxes, net}
use Rattle.amr_def.specs.Facts.{IsLevel, IsNestedLevel}
use Rattle.amr_patch.specs.declared.levels.Level.{Level as Held}
use Rattle.amr_patch.specs.Levels.{level_of}
use Rattle.amr_register.specs.declared.register.Register.{Register}
use Rattle.amr_register.specs.declared.edges.EdgeCell.{EdgeCell}
use Rattle.amr_register.specs.CoarseFlows.{edge_flows}
use Rattle.amr_register.specs.EdgeCells.{AreEdges, AreEdgesIn, IsSmallNet}
use Rattle.amr_register.specs.Fields.{IsPlaced, IsRegisterOf, IsWithEdges, SameCells, cells_in, edges_in, entry_in}
use Rattle.amr_flows.specs.Words.{child_flows}

-- ---- before

-- entries that a step may be added to
abbrev pub AreSmallEntries : Register → Type 0
AreSmallEntries r = (c : Cell) → unsigned_abs (entry_in r c) < 2 ^ 61

-- the register of the next coarser level over this one, k, with entries of its own; level 0 is the whole domain and has none
abbrev pub HasCoarser : Problem → ℕ → Level → Option Held → Option Register → Type 0
HasCoarser p zero k None None = (c : Cell) → IsTrue (in_domain (domain p 0) c) → IsSome (k.masses c)
HasCoarser p zero k None (Some r) = ⊥
HasCoarser p zero k (Some coarse) r = ⊥
HasCoarser p (suc l) k None r = ⊥
HasCoarser p (suc l) k (Some coarse) None = ⊥
HasCoarser p (suc l) k (Some coarse) (Some r) =
    IsLevel p l (level_of coarse) × IsNestedLevel p l (level_of coarse) k × IsRegisterOf p l (level_of coarse).masses k.masses r × AreSmallEntries r

-- the register of this level, k, over the next finer one, where there is one
abbrev pub HasFiner : Problem → ℕ → Level → Option Held → Option Register → Type 0
HasFiner p l k None None = Unit {0}
HasFiner p l k None (Some r) = ⊥
HasFiner p l k (Some fine) None = ⊥
HasFiner p l k (Some fine) (Some r) =
    (l ≤ 3) × IsLevel p (suc l) (level_of fine) × IsNestedLevel p l k (level_of fine) × IsRegisterOf p l k.masses (level_of fine).masses r × AreSmallEntries r

-- masses m are those of a level of the problem, whose register over the next finer one, where there is one, is this
pub record HasEdges (p : Problem) (l : ℕ) (m : Masses) (next : Option Held) (r : Option Register) : Type 0 where
  pub level : Level
  pub of_level : IsLevel p l level
  pub masses : level.masses ≡ m
  pub finer : HasFiner p l level next r

-- the cells of a register, none where there is none
abbrev pub cells_of : Option Register → List Cell
cells_of None = []
cells_of (Some r) = cells_in r

-- ---- the lists of register cells

-- lists of register cells for patches with these boxes, or none at all where there is no register
abbrev pub AreEdgesFor : List Extent → List (List EdgeCell) → Type 0
AreEdgesFor boxes [] = ⊤
AreEdgesFor boxes (x ∷ xs) = AllZip AreEdgesIn boxes (x ∷ xs)

-- the lists of a register, none where there is none
abbrev pub edges_of : Option Register → List (List EdgeCell)
edges_of None = []
edges_of (Some r) = edges_in r

-- lists that were made over level l with masses m have become these, which tell of each cell its net plain flow through the coarse-fine
-- edges, whatever finer masses they were made below. The next coarser level had the masses `old`.
abbrev pub AreNetsOf : Problem → ℕ → Masses → Masses → List (List EdgeCell) → List (List EdgeCell) → Type 0
AreNetsOf p l m old xs ys = (fine : Masses) → AreEdges (domain p l) m fine xs → All (All (λ e. e.net ≡ net (edge_flows p l m old fine) e.cell)) ys

-- the same register but for its lists, which are these, where there is a register
abbrev pub BothAreWithEdges : List (List EdgeCell) → Option Register → Option Register → Type 0
BothAreWithEdges xs None None = Unit {0}
BothAreWithEdges xs None (Some s) = ⊥
BothAreWithEdges xs (Some r) None = ⊥
BothAreWithEdges xs (Some r) (Some s) = IsWithEdges xs r s

-- a register whose entries may lose what its lists tell
pub record MayTakeNets (r : Register) : Type 0 where
  pub placed : IsPlaced r
  pub small : All (All IsSmallNet) (edges_in r)
  pub room : (c : Cell) → unsigned_abs (entry_in r c) < 2 ^ 62

-- and has lost it
pub record HasTakenNets (r s : Register) : Type 0 where
  pub taken : (flow : Cell → ℤ) → All (All (λ e. e.net ≡ flow e.cell)) (edges_in r) → (c : Cell) → Contains (cells_in r) c
      → entry_in s c ≡ entry_in r c -ℤ flow c
  pub cells : SameCells r s

-- where there is one
abbrev pub BothHaveTakenNets : Option Register → Option Register → Type 0
BothHaveTakenNets None None = Unit {0}
BothHaveTakenNets None (Some s) = ⊥
BothHaveTakenNets (Some r) None = ⊥
BothHaveTakenNets (Some r) (Some s) = HasTakenNets r s

-- ---- after

-- each entry has changed by so much
pub record Changes (by : Cell → ℤ) (r s : Register) : Type 0 where
  pub cells : SameCells r s
  pub entries : (c : Cell) → Contains (cells_in r) c → entry_in s c ≡ entry_in r c +ℤ by c

-- a register has, where there is one
abbrev pub BothChange : (Cell → ℤ) → Option Register → Option Register → Type 0
BothChange by None None = Unit {0}
BothChange by None (Some s) = ⊥
BothChange by (Some r) None = ⊥
BothChange by (Some r) (Some s) = Changes by r s

-- what comes into a register cell of the next coarser level through the child faces of its coarse-fine edges, in a step of level l
-- with masses m and these fluxes; nothing below level 0
abbrev pub gained : Problem → ℕ → Masses → Fluxes → Cell → ℤ
gained p zero m e c = pos 0
gained p (suc l) m e c = net (child_flows p l m e) c

-- what is taken from a register cell of level l: its net plain flow through its coarse-fine edges
abbrev pub taken : Problem → ℕ → Masses → Masses → Masses → Cell → ℤ
taken p l m old fine c = neg_ℤ (net (edge_flows p l m old fine) c)
