-- All flows of a level go to words of the ledger and of its register cells.
use Rattle.std.proofs.Common.{◌+◌, ◌*◌, ◌<◌, ◌≤◌, List, length, get_or, sym, subst, arith}
use Rattle.std.specs.Prelude.{Err, IfOk, Ok, Result}
use Rattle.std.specs.List.{All}
use Rattle.amr_patch.specs.declared.patches.Patch.{Patch}
use Rattle.amr_patch.specs.Gaps.{HasStarts}
use Rattle.amr_patch.specs.Orders.{IsOrderOf}
use Rattle.amr_patch.specs.Patches.{ArePatchesApart, box}
use Rattle.amr_layout.specs.declared.FlowTo.{FlowTo}
use Rattle.amr_layout.specs.declared.adds.Surroundings.{Surroundings}
use Rattle.amr_layout.specs.declared.level_flows.LevelFlows.{LevelFlows}
use Rattle.amr_layout.specs.Adds.{AreInOrder, HasCellsBeyond, HasRegisterCells, flows_of}
use Rattle.amr_layout.specs.Arounds.{CanSearch, HasWordsFor, around_of, AreAll}
use Rattle.amr_layout.specs.LevelFlowLists.{AreFlowsOf, level_flows}
use Rattle.amr_layout.specs.Surroundings.{Around}
use Rattle.amr_layout.proofs.Counts.{cells_few}
use Rattle.amr_layout.proofs.Planned.{all_parts, flow_words}

words_of : (s : Around) (qs : List Patch) → AreInOrder s.cells → All (λ q. HasCellsBeyond s (box q)) qs → All (λ (x : FlowTo). x.word < 2 + 2 * length s.cells) (level_flows s qs)
unfolding level_flows
words_of s qs ordered there = all_parts (λ (q : Patch). flows_of s (box q)) (λ x. x.word < 2 + 2 * length s.cells) qs (λ k d lt. flow_words s (box (get_or qs k d)) ordered (there k d lt))

pub level_words : {E : Type 0} (s : Surroundings) (r : Result LevelFlows E) → HasRegisterCells (around_of s) → IfOk r (AreFlowsOf (around_of s)) → IfOk r (HasWordsFor s)
level_words s (Ok v) cells h = subst (All (λ (x : FlowTo). x.word < 2 + 2 * length s.cells.now)) (sym h.flows) (words_of (around_of s) s.patches.now cells.ordered cells.each)
level_words s (Err e) cells h = tt

-- a level's patches can be searched
pub searches : (s : Surroundings) → s.level ≤ 4 → IsOrderOf s.order s.patches.now → ArePatchesApart s.patches.now → HasStarts s.patches.now s.starts.now → HasRegisterCells (around_of s) → AreAll s → CanSearch s
searches s level order apart starts cells all = record {
  level = level;
  patches = record { order_of = order; apart = apart; has_starts = starts };
  ordered = cells.ordered;
  few = omega (arith, cells_few (around_of s) level cells);
  whole = all;
}
