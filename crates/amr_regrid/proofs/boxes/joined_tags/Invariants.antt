use Rattle.std.proofs.Common.{◌≡◌, map, take}
use Rattle.std.specs.List.{list_any}
use Rattle.amr_box.specs.declared.Cell.{Cell}
use Rattle.amr_cluster.specs.Grown.{IsOverDomain}
use Rattle.amr_def.specs.Domain.{domain}
use Rattle.amr_def.specs.Tags.{is_tagged}
use Rattle.amr_patch.specs.Meshes.{state_of}
use Rattle.amr_regrid.specs.Outlines.{mesh_outline}
use Rattle.amr_tags.specs.TagSets.{has}
use Rattle.amr_regrid.proofs.boxes.joined_tags.Given as goal

abbrev pub invariant-loop-k : goal.invariant-loop-k
invariant-loop-k l = record {
  over : IsOverDomain (domain l.p l.l) l.joined;
  cells : (c : Cell) → has l.joined c ≡ list_any (λ s. is_tagged l.p s l.l c) (take l.k (map state_of l.fn.meshes));
  outlines : map mesh_outline l.meshes ≡ map mesh_outline l.fn.meshes;
}
