-- How a level is cut into runs of patches, and what is made for each.
use Rattle.std.specs.Prelude.{◌≡◌, ℕ, ◌+◌, ◌-◌, ◌*◌, ◌^◌, ◌<◌, ◌≤◌, List, drop, length, map, min}
use Rattle.std.specs.List.{All, AllZip}
use Rattle.amr_def.specs.Domain.{domain}
use Rattle.amr_ghost.specs.Frames.{AreInDomain}
use Rattle.amr_ghost.specs.declared.parts.FrameParts.{FrameParts}
use Rattle.amr_layout.specs.declared.FlowTo.{FlowTo}
use Rattle.amr_layout.specs.declared.PatchLayout.{PatchLayout}
use Rattle.amr_layout.specs.declared.level_flows.LevelFlows.{LevelFlows}
use Rattle.amr_layout.specs.declared.adds.Surroundings.{Surroundings}
use Rattle.amr_layout.specs.LevelFlowLists.{AreFlowsOf}
use Rattle.amr_layout.specs.Arounds.{all_places_read, all_puts}
use Rattle.amr_layout.specs.Places.{HasMask}
use Rattle.amr_layout.specs.Surroundings.{Around, domain_around}
use Rattle.amr_lots.specs.declared.lot.Workspace.{Workspace}
use Rattle.amr_lots.specs.Runs.{run}
use Rattle.amr_lots.specs.Works.{places_read}
use Rattle.amr_patch.specs.Gaps.{HasStarts}
use Rattle.amr_patch.specs.Orders.{IsOrderOf}
use Rattle.amr_patch.specs.Patches.{ArePatchesApart}
use Rattle.amr_advance.specs.Lots.{HasLayoutsOf, HasWordsOf, ServesRun}

-- the patches of a level in their order, with the places where rows of them start
pub record IsSurroundings (s : Surroundings) : Type 0 where
  pub level : s.level ≤ 4
  pub order : IsOrderOf s.order s.patches.now
  pub apart : ArePatchesApart s.patches.now
  pub starts : HasStarts s.patches.now s.starts.now
  pub inside : AreInDomain (domain s.problem.now s.level) s.patches.now

-- the flows of a level to so many words as it has
pub record AreLevelFlows (s : Around) (v : LevelFlows) : Type 0 where
  pub flows : AreFlowsOf s v
  pub words : All (λ (x : FlowTo). x.word < 2 + 2 * length s.cells) v.flows.items

-- runs of so many patches each, with the flows of the level, and parts of a plan of its frames for as many runs
pub record IsCut (s : Around) (each runs : ℕ) (flows : LevelFlows) (parts : FrameParts) : Type 0 where
  pub short : each ≤ 2 ^ 26
  pub many : runs ≤ 2 ^ 26
  pub tight : runs * each < length s.patches + each
  pub small : length s.patches ≤ 2 ^ 26
  pub few : length s.cells ≤ 2 ^ 30
  pub flows_are : AreLevelFlows s flows
  pub copies : length parts.copies.items ≡ runs * runs
  pub outer : length parts.outer.items ≡ runs

-- run k has so many of all patches
pub record IsRunOf (each k n all : ℕ) : Type 0 where
  pub within : k * each ≤ all
  pub count : n ≡ min each (all - k * each)

-- layouts of the patches from this number on, where groups of so many are apart. What stands in the list before them is not told.
pub record AreLayoutsFrom (s : Around) (each from : ℕ) (ts : List PatchLayout) : Type 0 where
  pub count : length ts ≡ length s.patches
  pub puts : drop from (map (λ (t : PatchLayout). t.puts.items) ts) ≡ drop from (all_puts s each)
  pub borders : drop from (map (λ (t : PatchLayout). t.border.items) ts) ≡ drop from (all_places_read s each)
  pub masks : AllZip (HasMask (domain_around s) s.patches each) (drop from s.patches) (drop from ts)
  pub few : length (places_read (drop from ts)) < 2 ^ 32

-- layouts of the patches of run k
pub record AreLayoutsOfRun (s : Around) (each k : ℕ) (ts : List PatchLayout) : Type 0 where
  pub puts : map (λ (t : PatchLayout). t.puts.items) ts ≡ run each k (all_puts s each)
  pub borders : map (λ (t : PatchLayout). t.border.items) ts ≡ run each k (all_places_read s each)
  pub masks : AllZip (HasMask (domain_around s) s.patches each) (run each k s.patches) ts
  pub few : length (places_read ts) < 2 ^ 32

-- a workspace of run k
pub record IsWorkspaceOf (s : Around) (each k runs : ℕ) (parts : FrameParts) (x : Workspace) : Type 0 where
  pub serves : ServesRun s each k runs parts x
  pub words : HasWordsOf s each k x
  pub layouts : HasLayoutsOf s each k x

-- a workspace of the lot that is all of its level
pub record IsWholeWorkspace (s : Around) (each : ℕ) (parts : FrameParts) (x : Workspace) : Type 0 where
  pub serves : ServesRun s each 0 1 parts x
  pub flows : AreFlowsOf s x.flows
  pub words : All (λ (y : FlowTo). y.word < 2 + 2 * length s.cells) x.flows.flows.items
  pub totals : length x.totals.items ≡ 2 + 2 * length s.cells
