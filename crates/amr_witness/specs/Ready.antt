-- What a step of levels needs of their masses: it keeps sums and products within the integers of code.
use Rattle.std.specs.Prelude.{◌≡◌, ℕ, ◌+◌, ◌*◌, ◌^◌, ◌<◌, ◌≤◌, ℤ, pos, negsuc, neg_ℤ, ◌≤ℤ◌, ◌<ℤ◌, List, length}
use Rattle.std.specs.declared.option.Option.TheVariants.{Some}
use Rattle.std.specs.BTreeMap.{BTreeMap}
use Rattle.amr_box.specs.declared.Cell.{Cell}
use Rattle.amr_box.specs.declared.Face.{Face}
use Rattle.amr_box.specs.declared.Axis.TheVariants.{X, Y}
use Rattle.amr_def.specs.declared.problem.Problem.{Problem}
use Rattle.amr_def.specs.Domain.{columns, rows}
use Rattle.amr_def.specs.State.{Masses}
use Rattle.amr_def.specs.Value.{value_at}
use Rattle.amr_def.proofs.LevelLists.{Nested, Synced}
use Rattle.amr_def.proofs.Greatest.{AllUpTo, OldUpTo, rise}
use Rattle.amr_witness.specs.Maps.{masses_of}

-- levels from l on, the coarsest first, above one that held `old`: nested and synced, and with room for
-- as much as a step may raise their masses
pub record AreReadyToStep (p : Problem) (l : ℕ) (ms : List Masses) (old : Masses) : Type 0 where
  pub bound : ℕ
  pub least : 2 ^ 30 ≤ bound
  pub room : bound + rise (length ms) l < 2 ^ 31
  pub nested : Nested p l ms
  pub synced : Synced ms
  pub masses : AllUpTo l ms bound
  pub olds : OldUpTo l old bound

pub record HasSmallValues (p : Problem) (l : ℕ) (m old : Masses) : Type 0 where
  pub at : (c : Cell) → value_at p l m old c < 2 ^ 31

-- a cell of a domain, or at most one beyond its end
pub record IsNearby (c : Cell) : Type 0 where
  pub west : negsuc 0 ≤ℤ c.x
  pub east : c.x ≤ℤ pos 4096
  pub south : negsuc 0 ≤ℤ c.y
  pub north : c.y ≤ℤ pos 4096

-- a face of a cell of the domain
pub record IsFace (p : Problem) (l : ℕ) (f : Face) : Type 0 where
  pub west : pos 0 ≤ℤ f.x
  pub south : pos 0 ≤ℤ f.y
  pub east : f.x ≤ℤ pos (columns p l)
  pub north : f.y ≤ℤ pos (rows p l)
  pub row : f.axis ≡ X → f.y <ℤ pos (rows p l)
  pub column : f.axis ≡ Y → f.x <ℤ pos (columns p l)

-- what flows in a step of n levels through a face of the coarsest is at most this
abbrev pub flux_bound : ℕ → ℕ
flux_bound n = 4 ^ n * 2 ^ 40

abbrev pub IsWithin : ℕ → ℤ → Type 0
IsWithin b z = (neg_ℤ (pos b) ≤ℤ z) × (z ≤ℤ pos b)

-- a map has these masses
pub record HasMasses (m : BTreeMap Cell ℕ) (masses : Masses) : Type 0 where
  pub at : (c : Cell) → masses_of m c ≡ masses c

pub record HasSmallMasses (m : Masses) : Type 0 where
  pub at : (c : Cell) (v : ℕ) → m c ≡ Some v → v < 2 ^ 31
