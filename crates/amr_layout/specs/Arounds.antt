-- What lies around a level as calls are handed it, and what its patches have of a layout, patch by patch.
use Rattle.std.specs.Prelude.{◌≡◌, ℕ, ◌+◌, ◌*◌, ◌^◌, ◌<◌, ◌≤◌, List, length, map}
use Rattle.std.specs.Fork.{slice_chunk}
use Rattle.std.specs.List.{All, AllZip}
use Rattle.std.specs.Option.{option_copied}
use Rattle.amr_box.specs.declared.Face.{Face}
use Rattle.amr_def.specs.Domain.{domain}
use Rattle.amr_faces.specs.Faces.{IsInDomain}
use Rattle.amr_patch.specs.Gaps.{HasStarts}
use Rattle.amr_patch.specs.declared.gaps.Starts.{Starts}
use Rattle.amr_patch.specs.declared.lookup.Order.{Order}
use Rattle.amr_patch.specs.declared.patches.Patch.{Patch}
use Rattle.amr_patch.specs.Orders.{IsOrderOf}
use Rattle.amr_patch.specs.Patches.{ArePatchesApart, box}
use Rattle.amr_layout.specs.declared.PatchLayout.{PatchLayout}
use Rattle.amr_layout.specs.declared.PutAt.{PutAt}
use Rattle.amr_layout.specs.declared.adds.Surroundings.{Surroundings}
use Rattle.amr_layout.specs.declared.level_flows.LevelFlows.{LevelFlows}
use Rattle.amr_layout.specs.Adds.{AreInOrder, HasCellsBeyond}
use Rattle.amr_layout.specs.LevelFlowLists.{AreFlowsOfRun}
use Rattle.amr_layout.specs.Places.{HasMask, level_borders, level_places, puts_of}
use Rattle.amr_layout.specs.Surroundings.{Around, domain_around, finer_masses}

abbrev pub around_of : Surroundings → Around
around_of s = record {
  problem = s.problem.now;
  level = s.level;
  patches = s.patches.now;
  whole = s.whole.now.value.items;
  filled = s.filled;
  cells = s.cells.now;
  finer = finer_masses (option_copied s.finer);
}

-- all patches of the level are worked on
abbrev pub AreAll : Surroundings → Type 0
AreAll s = s.whole.now.value.items ≡ s.patches.now

-- ---- of all patches, in groups of so many

-- their border faces
abbrev pub all_borders : Around → ℕ → List Face
all_borders s each = level_borders (domain_around s) s.patches each s.patches

-- what each puts
abbrev pub all_puts : Around → ℕ → List (List PutAt)
all_puts s each = map (λ q. puts_of (domain_around s) s.patches each (box q)) s.patches

-- the places that each reads
abbrev pub all_places_read : Around → ℕ → List (List ℕ)
all_places_read s each = level_places (domain_around s) s.patches each

-- each has a mask that tells the border faces which it reads
abbrev pub HaveMasks : Around → ℕ → List PatchLayout → Type 0
HaveMasks s each = AllZip (HasMask (domain_around s) s.patches each) s.patches

-- ---- flows to words

-- the patch that has a cell can be found among patches: no cell is in two of them, and they stand in this order and start here
pub record CanLookUp (order : Order) (ps : List Patch) (starts : Starts) : Type 0 where
  pub order_of : IsOrderOf order ps
  pub apart : ArePatchesApart ps
  pub has_starts : HasStarts ps starts

-- so it can among those of a level, and the number of a register cell among these
pub record CanSearch (s : Surroundings) : Type 0 where
  pub level : s.level ≤ 4
  pub patches : CanLookUp s.order s.patches.now s.starts.now
  pub ordered : AreInOrder s.cells.now
  pub few : length s.cells.now ≤ 2 ^ 30
  pub whole : AreAll s

-- what a search for the flows of a run of patches stands on
abbrev pub MayFindFlows : Surroundings → List Patch → Type 0
MayFindFlows s run =
    CanSearch s
    × All (λ q. IsInDomain (domain s.problem.now s.level) (box q)) run
    × All (λ q. HasCellsBeyond (around_of s) (box q)) run

-- their words are of the ledger or of the register cells
abbrev pub HasWordsFor : Surroundings → LevelFlows → Type 0
HasWordsFor s v = All (λ x. x.word < 2 + 2 * length s.cells.now) v.flows.items

-- they are those of run n of the level's patches, in runs of so many
abbrev pub AreFlowsOfChunk : Around → ℕ → ℕ → LevelFlows → Type 0
AreFlowsOfChunk s size n = AreFlowsOfRun s (slice_chunk s.patches size n)
