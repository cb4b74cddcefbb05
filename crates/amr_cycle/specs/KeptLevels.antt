-- What the steps of levels keep from one to the next.
use Rattle.std.specs.Prelude.{◌≡◌, ℕ, ◌+◌, ◌<◌, List, length, map, slice_index_or, is_some, IfSome}
use Rattle.amr_box.specs.declared.Cell.{Cell}
use Rattle.amr_box.specs.Cells.{in_boxes}
use Rattle.amr_def.specs.declared.problem.Problem.{Problem}
use Rattle.amr_def.specs.State.{Level, Masses, no_level}
use Rattle.amr_patch.specs.declared.levels.Level.{Level as Held}
use Rattle.amr_patch.specs.Levels.{level_of, patches_of}
use Rattle.amr_patch.specs.Patches.{box}
use Rattle.amr_register.specs.Fields.{HasEdgesOf, IsRegisterOf}
use Rattle.amr_advance.specs.KeptLayouts.{IsKeptOf}
use Rattle.amr_cycle.specs.declared.kept.Kept.{Kept}
use Rattle.amr_cycle.specs.declared.kept.KeptCoarser.{KeptCoarser}
use Rattle.amr_cycle.specs.declared.kept.KeptLevel.{KeptLevel}

-- it holds level k as it is before its step, and the register over k beside the finer level `fine`, with edges of k's patches
pub record IsCoarserOf (p : Problem) (l : ℕ) (k fine : Level) (b : KeptCoarser) : Type 0 where
  pub before : level_of b.before ≡ k
  pub finer : (c : Cell) → is_some (fine.masses c) ≡ in_boxes b.finer.items c
  pub register : IsRegisterOf p l k.masses fine.masses b.register
  pub edges : HasEdgesOf (map box (patches_of b.before)) b.register

-- it held one of the problem's levels l
pub record IsKeptCoarser (p : Problem) (l : ℕ) (b : KeptCoarser) : Type 0 where
  pub level : Level
  pub fine : Level
  pub below : IsCoarserOf p l level fine b

-- a level has the boxes of another one, its patches have theirs, and so it has the same cells
pub record HasBoxesOf (k level : Held) : Type 0 where
  pub boxes : (level_of k).boxes ≡ (level_of level).boxes
  pub patches : map box (patches_of k) ≡ map box (patches_of level)
  pub cells : (c : Cell) → is_some ((level_of level).masses c) ≡ is_some ((level_of k).masses c)

-- it was made over these boxes
pub record IsOnSameBoxes (b : KeptCoarser) (level next : Held) : Type 0 where
  pub before : HasBoxesOf b.before level
  pub finer : (c : Cell) → is_some ((level_of next).masses c) ≡ in_boxes b.finer.items c

-- What a level keeps is of this problem. What it keeps of masses, where it keeps any, is of these: `own` its own ones, `old` those of the next
-- coarser level.
pub record IsKeptBeside (p : Problem) (l : ℕ) (own old : Masses) (k : KeptLevel) : Type 0 where
  pub layout : IfSome k.layout (IsKeptOf p l own old)
  pub below : IfSome k.below (IsKeptCoarser p l)

-- the same beside some masses of the next coarser level: another step may have changed them since
abbrev pub IsKeptLevel : Problem → ℕ → Masses → KeptLevel → Type 0
IsKeptLevel p l own k = (old : Masses) × IsKeptBeside p l own old k

-- that of the levels from l on is of these ones, where there are more of no masses
abbrev pub AreKept : Problem → ℕ → List Level → List KeptLevel → Type 0
AreKept p l levels ks = (k : ℕ) (d : KeptLevel) → k < length ks → IsKeptLevel p (l + k) (slice_index_or levels k no_level).masses (slice_index_or ks k d)

-- what a run keeps is of this problem and of these levels
pub record IsKeptFor (p : Problem) (levels : List Level) (k : Kept) : Type 0 where
  pub levels_kept : IfSome k.levels (λ ks. AreKept p 0 levels ks.items)
