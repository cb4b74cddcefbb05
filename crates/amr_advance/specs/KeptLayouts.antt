-- A level's layout that is kept from step to step.
use Rattle.std.specs.Prelude.{◌≡◌, ℕ, ◌+◌, ◌*◌, ◌<◌, ◌^◌, true, false, List, [], length, map, is_some, IfSome}
use Rattle.std.specs.declared.option.Option.{Option}
use Rattle.std.specs.declared.option.Option.TheVariants.{None, Some}
use Rattle.amr_box.specs.declared.Cell.{Cell}
use Rattle.amr_box.specs.Cells.{in_boxes}
use Rattle.amr_def.specs.declared.problem.Problem.{Problem}
use Rattle.amr_def.specs.State.{Masses}
use Rattle.amr_patch.specs.Patches.{box}
use Rattle.amr_layout.specs.Grounds.{has_open_side}
use Rattle.amr_layout.specs.Surroundings.{Around}
use Rattle.amr_advance.specs.declared.kept_layout.KeptLayout.{KeptLayout}
use Rattle.amr_advance.specs.declared.kept_layout.Stale.{Stale}
use Rattle.amr_advance.specs.Lots.{AreLots, AreLotsOf, is_one, totals_of}

-- it was made for the boxes of this level and for its register cells, and where a side of the domain is open for the boxes of the
-- next finer level. Its lots are those of the level's patches. There are fewer than 2^32 words.
pub record IsLaidOut (s : Around) (k : KeptLayout) : Type 0 where
  pub level : k.level ≡ s.level
  pub boxes : k.boxes.items ≡ map box s.patches
  pub cells : k.cells.items ≡ s.cells
  pub finer : has_open_side s.problem ≡ true → (c : Cell) → is_some (s.finer c) ≡ in_boxes k.finer.items c
  pub few : 2 + 2 * length s.cells < 2 ^ 32
  pub lots : AreLots s k.lots

-- it was made for all of a level of this problem
pub record IsKeptLayout (p : Problem) (k : KeptLayout) : Type 0 where
  pub made_for : Around
  pub of_problem : made_for.problem ≡ p
  pub unfilled : made_for.filled ≡ false
  pub all : made_for.whole ≡ made_for.patches
  pub laid_out : IsLaidOut made_for k

-- it was made for this level, and what it keeps of masses is of these: `own` those of the level, `old` those of the next coarser one
pub record ServesLevel (s : Around) (own old : Masses) (k : KeptLayout) : Type 0 where
  pub laid_out : IsLaidOut s k
  pub masses : AreLotsOf s.problem s.level own old k.lots

-- ---- one that is kept, of whatever boxes

-- it is of this problem, and what it keeps of masses is of these of level l and of the next coarser one
pub record IsKeptOf (p : Problem) (l : ℕ) (own old : Masses) (k : KeptLayout) : Type 0 where
  pub layout : IsKeptLayout p k
  pub masses : AreLotsOf p l own old k.lots

-- what was kept of a level is kept of it still, where the level's masses have changed so
abbrev pub StaysKept : (Masses → Masses) → Option KeptLayout → Option KeptLayout → Type 0
StaysKept change a b = (p : Problem) (l : ℕ) (own old : Masses) → IfSome a (IsKeptOf p l own old) → IfSome b (IsKeptOf p l (change own) old)

-- and where stale masses were forgotten, of whatever masses came in their place: `own_now` of the level, `old_now` of the next coarser one
abbrev pub Forgets : Stale → Option KeptLayout → Option KeptLayout → Type 0
Forgets stale a b = (p : Problem) (l : ℕ) (own old own_now old_now : Masses) → (stale.own ≡ false → own_now ≡ own) → (stale.coarser ≡ false → old_now ≡ old)
    → IfSome a (IsKeptOf p l own old) → IfSome b (IsKeptOf p l own_now old_now)

-- ---- its totals

-- what flowed to each of its words in the last step
abbrev pub totals_kept : KeptLayout → List ℕ
totals_kept k = totals_of k.lots

-- none where no layout is kept
abbrev pub totals_in : Option KeptLayout → List ℕ
totals_in None = []
totals_in (Some k) = totals_kept k

-- the lot that is all of its level, where that is so, is there
abbrev pub HasFirstTotals : KeptLayout → Type 0
HasFirstTotals k = is_one k.lots ≡ true → 0 < length k.lots.lots.items
