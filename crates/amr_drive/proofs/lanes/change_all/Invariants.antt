use Rattle.std.proofs.Common.{◌≡◌}
use Rattle.std.specs.Prelude.{slice_index_or}
use Rattle.amr_patch.specs.declared.meshes.Mesh.{Mesh}
use Rattle.amr_drive.specs.declared.lanes.Lane.{Lane}
use Rattle.amr_drive.proofs.Written.{WrittenTo}
use Rattle.amr_drive.proofs.lanes.change_all.Given as goal

abbrev pub invariant-loop-k : goal.invariant-loop-k
invariant-loop-k l = record {
  out : WrittenTo (λ j d mesh. (e : Lane) → mesh ≡ (slice_index_or l.fn.lanes j e).mesh) l.fn.meshes l.meshes l.k;
  into : WrittenTo (λ j e lane. (d : Mesh) → lane ≡ record (slice_index_or l.fn.lanes j e) { mesh = slice_index_or l.fn.meshes j d }) l.fn.lanes l.lanes l.k;
}
