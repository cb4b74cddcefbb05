-- What fills the frames of a lot's patches, and what the frames have then.
use Rattle.std.specs.Prelude.{◌≡◌, ℕ, ◌≤◌, List}
use Rattle.std.specs.declared.option.Option.{Option}
use Rattle.std.specs.declared.option.Option.TheVariants.{None, Some}
use Rattle.std.specs.declared.sync.Arc.{Arc}
use Rattle.std.specs.Arc.{arc_value}
use Rattle.std.specs.Global.{Global}
use Rattle.std.specs.List.{All}
use Rattle.amr_def.specs.declared.problem.Problem.{Problem}
use Rattle.amr_def.specs.Domain.{domain}
use Rattle.amr_def.specs.State.{Masses}
use Rattle.amr_def.specs.Value.{value_at}
use Rattle.amr_patch.specs.declared.levels.Level.{Level}
use Rattle.amr_patch.specs.declared.patches.Patch.{Patch}
use Rattle.amr_ghost.specs.Frames.{is_of_level, old_masses}
use Rattle.amr_ghost.specs.Messages.{HasFilled, IsFrameCopy, IsMessageTo}
use Rattle.amr_ghost.specs.Outer.{AreOuterBeside, AreOuterFor, HasNoMass, HasOuterPlaces, IsOuterSpan, lent}
use Rattle.amr_ghost.specs.declared.outer.OuterGhosts.{OuterGhosts}
use Rattle.amr_lots.specs.declared.lot.Workspace.{Workspace}

-- ---- outer ghost cells

-- these are the values of outer ghost cells of level l, where the next coarser level had the masses `old`, whatever masses the level has
abbrev pub HasValuesBy : Problem → ℕ → Masses → OuterGhosts → Type 0
HasValuesBy p l old x = (m : Masses) → All (HasNoMass (domain p l) m) x.spans.items → AreOuterFor (value_at p l m old) (is_of_level p l m) x

abbrev pub FollowFrom : Problem → ℕ → Masses → OuterGhosts → Option (Arc Level Global) → Type 0
FollowFrom p l old x None = HasValuesBy p l old x
FollowFrom p l old x (Some level) = old_masses (Some (arc_value level)) ≡ old

-- they are there, or can be found by the coarser level that was lent
abbrev pub HasValuesOrLevel : Problem → ℕ → Masses → OuterGhosts → Type 0
HasValuesOrLevel p l old x = FollowFrom p l old x x.coarser

-- the values of outer ghost cells, some of which may have been found by what was lent
pub record HasFoundOuter (p : Problem) (l : ℕ) (a b : OuterGhosts) : Type 0 where
  pub spans : b.spans ≡ a.spans
  pub coarser : b.coarser ≡ a.coarser
  pub places : HasOuterPlaces b
  pub values : (old : Masses) → HasValuesOrLevel p l old a → HasValuesBy p l old b

-- ---- frames

-- the frames of patches can be filled by what a workspace has
pub record CanFill (p : Problem) (l : ℕ) (qs : List Patch) (s : Workspace) : Type 0 where
  pub level : l ≤ 4
  pub spans : All (IsOuterSpan (domain p l)) s.outer.spans.items
  pub outer : AreOuterBeside qs s.outer
  pub copies : All (IsFrameCopy qs) s.copies.items
  pub messages : All (IsMessageTo qs) s.inbox.items

-- they were, by these outer values, by copies within the lot and by messages
abbrev pub AreFilled : Workspace → OuterGhosts → List Patch → List Patch → Type 0
AreFilled s outer qs fs = HasFilled outer s.copies.items s.inbox.items qs fs

-- a workspace with other outer ghost cells
abbrev pub with_outer : OuterGhosts → Workspace → Workspace
with_outer outer s = record s { outer = outer }
