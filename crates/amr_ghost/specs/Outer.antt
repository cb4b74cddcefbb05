-- Ghost cells that get no mass of a patch of the level: they lie over the next coarser level, or outside the domain. The values that are
-- worked out for them, and the patches that are given these.
use Rattle.std.specs.Prelude.{◌≡◌, ℕ, ◌+◌, ◌<◌, ◌≤◌, Bool, false, true, ⊤, pos, ◌+ℤ◌, length, slice_index, slice_index_or, drop, List, [], ◌∷◌, IsTrue}
use Rattle.std.specs.declared.option.Option.{Option}
use Rattle.std.specs.declared.option.Option.TheVariants.{None, Some}
use Rattle.std.specs.declared.sync.Arc.{Arc}
use Rattle.std.specs.Arc.{arc_value}
use Rattle.std.specs.Global.{Global}
use Rattle.std.specs.List.{All, AllZip}
use Rattle.amr_box.specs.declared.Cell.{Cell}
use Rattle.amr_box.specs.Cells.{along}
use Rattle.amr_def.specs.Domain.{Domain, home_cell, in_domain, is_inside}
use Rattle.amr_def.specs.State.{Masses}
use Rattle.amr_patch.specs.declared.levels.Level.{Level}
use Rattle.amr_patch.specs.declared.patches.Patch.{Patch}
use Rattle.amr_patch.specs.Places.{in_frame}
use Rattle.amr_patch.specs.Patches.{box}
use Rattle.amr_ghost.specs.Strips.{HasRoom, step}
use Rattle.amr_ghost.specs.Frames.{is_beside}
use Rattle.amr_ghost.specs.GhostCells.{AreGiven, HasGhosts, KeepsCells, KeepsGhosts, size_along}
use Rattle.amr_ghost.specs.declared.sides.Strip.{Strip}
use Rattle.amr_ghost.specs.declared.sources.Source.{Source}
use Rattle.amr_ghost.specs.declared.sources.Source.TheVariants.{Beside, Coarser, Outside}
use Rattle.amr_ghost.specs.declared.sources.GhostSpan.{GhostSpan}
use Rattle.amr_ghost.specs.declared.outer.OuterGhosts.{OuterGhosts}

-- ---- where their values come from. It goes by the domain alone.

-- the cells of a strip stand for cells of the domain, from h on
pub record StandForInner (d : Domain) (s : Strip) (h : Cell) : Type 0 where
  pub home : h ≡ home_cell d s.from
  pub room : HasRoom h
  pub inside : in_domain d h ≡ true

-- from outside of a side of the domain, or from the coarser level
abbrev pub IsOuterSource : Domain → Strip → Source → Type 0
IsOuterSource d s Outside = in_domain d (home_cell d s.from) ≡ false
IsOuterSource d s (Beside j h) = ⊥
IsOuterSource d s (Coarser h) = StandForInner d s h

-- ghost cells in rows or columns of the domain, and where they get their values from
pub record IsOuterSpan (d : Domain) (s : GhostSpan) : Type 0 where
  pub some : 0 < s.strip.count
  pub small : s.strip.count ≤ 8192
  pub inside : (k : ℕ) → k < s.strip.count → IsTrue (is_inside (size_along s.strip.axis d) (along s.strip.axis s.strip.from +ℤ pos k))
  pub source : IsOuterSource d s.strip s.source

-- they stand for no cell that has one of the masses m
abbrev pub HasNoMass : Domain → Masses → GhostSpan → Type 0
HasNoMass d m s = (k : ℕ) → k < s.strip.count → m (home_cell d (step s.strip.axis s.strip.from k)) ≡ None

-- ---- their values

-- the level that is lent, if one is
abbrev pub lent : Option (Arc Level Global) → Option Level
lent None = None
lent (Some x) = Some (arc_value x)

-- how many values spans take
abbrev pub value_count : List GhostSpan → ℕ
value_count [] = 0
value_count (s ∷ ss) = s.strip.count + value_count ss

-- there is a place for each value
abbrev pub HasOuterPlaces : OuterGhosts → Type 0
HasOuterPlaces x = length x.values.items ≡ value_count x.spans.items

-- these are the values V of the ghost cells of spans, one span after another, and none of those has the mark M
abbrev pub AreOuterValuesFor : (Cell → ℕ) → (Cell → Bool) → List GhostSpan → List ℕ → Type 0
AreOuterValuesFor V M [] values = ⊤
AreOuterValuesFor V M (s ∷ ss) values =
    AreGiven V M s.strip.axis s.strip.from s.strip.count (λ k. slice_index values k) false × AreOuterValuesFor V M ss (drop s.strip.count values)

abbrev pub AreOuterFor : (Cell → ℕ) → (Cell → Bool) → OuterGhosts → Type 0
AreOuterFor V M x = AreOuterValuesFor V M x.spans.items x.values.items

-- ---- the patches that get them

-- ghost cells beside one of these patches
pub record IsSpanBeside (rs : List Patch) (s : GhostSpan) : Type 0 where
  pub there : s.patch < length rs
  pub some : 0 < s.strip.count
  pub small : s.strip.count ≤ 8192
  pub room : HasRoom s.strip.from
  pub ghosts : (q : Patch) (k : ℕ) → k < s.strip.count → IsTrue (in_frame (box (slice_index_or rs s.patch q)) (step s.strip.axis s.strip.from k))
  pub beside : (q : Patch) (k : ℕ) → k < s.strip.count → IsTrue (is_beside (box (slice_index_or rs s.patch q)) (step s.strip.axis s.strip.from k))

-- all are, and there is a place for each value
abbrev pub AreOuterBeside : List Patch → OuterGhosts → Type 0
AreOuterBeside rs x = All (IsSpanBeside rs) x.spans.items × HasOuterPlaces x

-- the ghost cells of a span have the value V and the mark M of their cell
abbrev pub HasOuter : (Cell → ℕ) → (Cell → Bool) → List Patch → GhostSpan → Type 0
HasOuter V M fs s = (q : Patch) → HasGhosts V M (slice_index_or fs s.patch q) s.strip.axis s.strip.from s.strip.count

-- the patches rs became fs where the ghost cells of spans were given values
pub record HasOuterGiven (spans : List GhostSpan) (values : List ℕ) (rs fs : List Patch) : Type 0 where
  pub kept : AllZip KeepsCells rs fs
  pub ghosts : (V : Cell → ℕ) (M : Cell → Bool) → AreOuterValuesFor V M spans values → AllZip (KeepsGhosts V M) rs fs
  pub set : (V : Cell → ℕ) (M : Cell → Bool) → AreOuterValuesFor V M spans values → All (HasOuter V M fs) spans
