-- The flows of a level's patches to words in one list, patch by patch.
use Rattle.std.specs.Prelude.{◌≡◌, ℕ, ◌+◌, ◌-◌, ◌<◌, ◌≤◌, List, length, map, take, drop, slice_index}
use Rattle.std.specs.List.{flat_map, range_with_len}
use Rattle.amr_patch.specs.declared.patches.Patch.{Patch}
use Rattle.amr_patch.specs.Patches.{box}
use Rattle.amr_layout.specs.declared.FlowTo.{FlowTo}
use Rattle.amr_layout.specs.declared.level_flows.LevelFlows.{LevelFlows}
use Rattle.amr_layout.specs.Adds.{flows_of}
use Rattle.amr_layout.specs.Surroundings.{Around}

-- the flows of these patches of the level, patch by patch
unfoldable pub level_flows : Around → List Patch → List FlowTo
level_flows s qs = flat_map (λ q. flows_of s (box q)) qs

-- how many the first i of them have
abbrev pub flows_in_first : Around → List Patch → ℕ → ℕ
flows_in_first s qs i = length (level_flows s (take i qs))

-- the list has the flows of these patches, and the bounds say how many stand before those of each, and last how many there are
pub record AreFlowsOfRun (s : Around) (qs : List Patch) (v : LevelFlows) : Type 0 where
  pub flows : v.flows.items ≡ level_flows s qs
  pub bounds : v.bounds.items ≡ map (flows_in_first s qs) (range_with_len 0 (length qs + 1))

-- of all patches of the level
abbrev pub AreFlowsOf : Around → LevelFlows → Type 0
AreFlowsOf s v = AreFlowsOfRun s s.patches v

-- ---- the part of a patch

-- the flows between bound i and the next one
abbrev pub flows_at : LevelFlows → ℕ → List FlowTo
flows_at v i = take (slice_index v.bounds.items (i + 1) - slice_index v.bounds.items i) (drop (slice_index v.bounds.items i) v.flows.items)

-- the flows of the patches with these numbers, patch by patch
abbrev pub picked_flows : LevelFlows → List ℕ → List FlowTo
picked_flows v ns = flat_map (flows_at v) ns

-- how many the first i of them have
abbrev pub picked_in_first : LevelFlows → List ℕ → ℕ → ℕ
picked_in_first v ns i = length (picked_flows v (take i ns))

-- the list has just these, with their bounds
pub record AreFlowsPicked (v : LevelFlows) (ns : List ℕ) (w : LevelFlows) : Type 0 where
  pub flows : w.flows.items ≡ picked_flows v ns
  pub bounds : w.bounds.items ≡ map (picked_in_first v ns) (range_with_len 0 (length ns + 1))

-- there are such bounds, one after the other, within the list
pub record HasFlowsAt (v : LevelFlows) (i : ℕ) : Type 0 where
  pub there : i + 1 < length v.bounds.items
  pub order : slice_index v.bounds.items i ≤ slice_index v.bounds.items (i + 1)
  pub within : slice_index v.bounds.items (i + 1) ≤ length v.flows.items

-- the flows of the first so many patches, a list for each
abbrev pub flow_lists : LevelFlows → ℕ → List (List FlowTo)
flow_lists v n = map (flows_at v) (range_with_len 0 n)
