-- The patches of the level over which a register was made, and their places.
use Rattle.std.proofs.Common.{ℕ, ◌<◌, List, length, map, arith}
use Rattle.std.specs.Prelude.{slice_index_or}
use Rattle.amr_patch.specs.declared.patches.Patch.{Patch}
use Rattle.amr_patch.specs.Patches.{ArePatchesApart, box}
use Rattle.amr_patch.proofs.Lookups.{one_patch}
use Rattle.amr_register.specs.declared.register.Register.{Register}
use Rattle.amr_register.specs.EdgeCells.{edge_at}
use Rattle.amr_register.specs.Fields.{HasEdgesOf, IsBoxAt, edges_in}
use Rattle.amr_register.proofs.NetLists.{boxes_count, list_in_box}

-- each box is that of the patch at its place, since no cell is in two of them
pub box_at : (r : Register) (qs : List Patch) (k : ℕ) (q : Patch) → HasEdgesOf (map box qs) r → ArePatchesApart qs → k < length qs → IsBoxAt k (box (slice_index_or qs k q)) r
box_at r qs k q h apart lt =
    let xs = edges_in r in
    let count = boxes_count qs xs h.lists in
    record {
      inside = omega (arith, lt, count);
      cells = list_in_box qs xs k q h.lists lt;
      others = λ w e inside held.
          let there : w.list < length qs = omega (arith, inside.list, count) in
          one_patch qs (edge_at xs w e).cell w.list k q apart there lt (list_in_box qs xs w.list q h.lists there w.at e inside.at) held;
    }
