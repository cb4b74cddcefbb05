use Rattle.std.proofs.Common.{◌≡◌, ◌≤◌, ℕ, ◌<◌, length}
use Rattle.std.specs.Prelude.{slice_index_or, vec_capacity}
use Rattle.amr_flux.specs.declared.fluxes.PatchSides.{PatchSides}
use Rattle.amr_layout.specs.declared.PatchLayout.{PatchLayout}
use Rattle.amr_layout.specs.LevelFlowLists.{flows_at}
use Rattle.amr_lots.specs.Lots.{LieOn}
use Rattle.amr_patch.specs.declared.patches.Patch.{Patch}
use Rattle.amr_patch.specs.Patches.{box}
use Rattle.amr_advance.specs.Lots.{PutsLieOn}
use Rattle.amr_advance.proofs.workspaces.sides_of_run.Given as goal

-- the patches so far have their sides
abbrev pub invariant-loop-k : goal.invariant-loop-k
invariant-loop-k l = record {
  count : length l.sides.items ≡ l.k;
  room : length l.patches ≤ vec_capacity l.sides;
  flows : (j : ℕ) (d : PatchSides) → j < l.k → (q : Patch) → LieOn (slice_index_or l.sides.items j d) (box (slice_index_or l.patches j q)) (flows_at l.flows j);
  puts : (j : ℕ) (d : PatchSides) → j < l.k → (q : Patch) (t : PatchLayout) → j < length l.layouts → PutsLieOn (slice_index_or l.sides.items j d) (box (slice_index_or l.patches j q)) (slice_index_or l.layouts j t).puts.items;
}
