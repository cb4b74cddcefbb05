-- How lots get the values of their outer ghost cells: worked out before their step, or by the next coarser level, which is lent to them.
use Rattle.std.specs.Prelude.{◌≡◌, ℕ, ⊤}
use denote.Ref.{Bor}
use Rattle.std.specs.Arc.{arc_value}
use Rattle.std.specs.declared.option.Option.{Option}
use Rattle.std.specs.declared.option.Option.TheVariants.{None, Some}
use Rattle.std.specs.declared.sync.Arc.{Arc}
use Rattle.std.specs.Option.{option_copied}
use Rattle.std.specs.Global.{Box, Global}
use Rattle.amr_def.specs.State.{Masses}
use Rattle.amr_def.specs.declared.problem.Problem.{Problem}
use Rattle.amr_patch.specs.declared.levels.Level.{Level}
use Rattle.amr_ghost.specs.Outer.{HasOuterPlaces, lent}
use Rattle.amr_ghost.specs.declared.outer.OuterGhosts.{OuterGhosts}
use Rattle.amr_lots.specs.FrameValues.{HasValuesBy, HasValuesOrLevel, with_outer}
use Rattle.amr_lots.specs.declared.lot.Lot.{Lot}

-- a share of the next coarser level, where there is one
abbrev pub IsSharedOf : Option (Bor Level) → Option (Bor (Arc Level Global)) → Type 0
IsSharedOf old None = ⊤
IsSharedOf old (Some a) = option_copied old ≡ Some (arc_value a.now)

-- a lot with other outer ghost cells
abbrev pub lot_with_outer : OuterGhosts → Lot → Lot
lot_with_outer outer x = record x { workspace = with_outer outer x.workspace }

-- all but those is as before
abbrev pub KeepsAllButOuter : Lot → Lot → Type 0
KeepsAllButOuter a b = b ≡ lot_with_outer b.workspace.outer a

-- a lot to which this level was lent, or none, and all else stayed
pub record IsLent (k : Option Level) (a b : Box Lot) : Type 0 where
  pub spans : b.value.workspace.outer.spans ≡ a.value.workspace.outer.spans
  pub values : b.value.workspace.outer.values ≡ a.value.workspace.outer.values
  pub others : KeepsAllButOuter a.value b.value
  pub level : lent b.value.workspace.outer.coarser ≡ k

-- as much of that as is true whatever is lent
pub record KeepsAllButLent (a b : Box Lot) : Type 0 where
  pub spans : b.value.workspace.outer.spans ≡ a.value.workspace.outer.spans
  pub values : b.value.workspace.outer.values ≡ a.value.workspace.outer.values
  pub others : KeepsAllButOuter a.value b.value

-- a lot whose values were worked out, where the next coarser level had the masses `old`
pub record HasFound (p : Problem) (l : ℕ) (old : Masses) (a b : Box Lot) : Type 0 where
  pub spans : b.value.workspace.outer.spans ≡ a.value.workspace.outer.spans
  pub coarser : b.value.workspace.outer.coarser ≡ a.value.workspace.outer.coarser
  pub places : HasOuterPlaces b.value.workspace.outer
  pub values : HasValuesBy p l old b.value.workspace.outer
  pub others : KeepsAllButOuter a.value b.value

-- a lot that has these values, or a level by which it can find them
pub record IsReadied (p : Problem) (l : ℕ) (old : Masses) (a b : Box Lot) : Type 0 where
  pub spans : b.value.workspace.outer.spans ≡ a.value.workspace.outer.spans
  pub places : HasOuterPlaces a.value.workspace.outer → HasOuterPlaces b.value.workspace.outer
  pub values : HasValuesOrLevel p l old b.value.workspace.outer
  pub others : KeepsAllButOuter a.value b.value
