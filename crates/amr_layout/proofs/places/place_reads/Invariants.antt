use Rattle.std.proofs.Common.{◌≡◌, ℕ, ◌*◌, ◌<◌, ◌≤◌, length, map, take}
use Rattle.std.specs.Prelude.{slice_index_or}
use Rattle.amr_patch.specs.declared.patches.Patch.{Patch}
use Rattle.amr_layout.specs.declared.PatchLayout.{PatchLayout}
use Rattle.std.specs.List.{range_with_len}
use Rattle.amr_def.specs.Domain.{domain_of}
use Rattle.amr_patch.specs.Patches.{box}
use Rattle.amr_phase.specs.Plans.{total}
use Rattle.amr_patch.specs.Gaps.{IsGap}
use Rattle.amr_layout.specs.Surroundings.{edge_count}
use Rattle.amr_layout.specs.Places.{ArePut, HasMask, border_places, level_borders}
use Rattle.amr_layout.proofs.places.place_reads.Given as goal

-- the border faces of the first patches have their places
abbrev pub invariant-loop-i : goal.invariant-loop-i
invariant-loop-i l = record {
  count : 2 * l.places.count ≤ total (λ q. edge_count (box q)) (take l.i l.patches);
  gap : IsGap l.patches l.places.near.gap;
  put : ArePut (domain_of l.dom) l.patches (level_borders (domain_of l.dom) l.patches l.each (take l.i l.patches)) l.places.count l.places.lists.items;
  borders : map (λ t. t.border.items) l.reads.items ≡ map (border_places (domain_of l.dom) l.patches l.each) (range_with_len 0 l.i);
  read_count : length l.reads.items ≡ l.i;
  masks : (k : ℕ) (q : Patch) (t : PatchLayout) → k < l.i → HasMask (domain_of l.dom) l.patches l.each (slice_index_or l.patches k q) (slice_index_or l.reads.items k t);
}
