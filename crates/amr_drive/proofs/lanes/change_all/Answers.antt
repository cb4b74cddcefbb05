use Rattle.std.proofs.Common.{◌≡◌, ◌∙◌, ℕ, ap, arith}
use Rattle.std.specs.Prelude.{slice_index_or}
use Rattle.amr_patch.specs.declared.meshes.Mesh.{Mesh}
use Rattle.amr_drive.specs.declared.lanes.Lane.{Lane}
use Rattle.amr_drive.proofs.Written.{none_written, one_written, still_there}
use Rattle.amr_drive.proofs.lanes.change_all.Goals as goal

pub loop-k-init : goal.loop-k-init
loop-k-init c = record {
  out = none_written (λ j d mesh. (e : Lane) → mesh ≡ (slice_index_or c.args.lanes.now j e).mesh) c.args.meshes.now;
  into = none_written (λ j e lane. (d : Mesh) → lane ≡ record (slice_index_or c.args.lanes.now j e) { mesh = slice_index_or c.args.meshes.now j d }) c.args.lanes.now;
}

pub loop-k-preserved : goal.loop-k-preserved
loop-k-preserved c =
    let olds = c.args.meshes.now in
    let before = c.args.lanes.now in
    let k = c.loop-k.k in
    let inv = c.loop-k.invariant in
    let out = λ (j : ℕ) (d mesh : Mesh). (e : Lane) → mesh ≡ (slice_index_or before j e).mesh in
    let into = λ (j : ℕ) (e lane : Lane). (d : Mesh) → lane ≡ record (slice_index_or before j e) { mesh = slice_index_or olds j d } in
    let mesh_was = still_there out olds c.loop-k.meshes k c.index-meshes-k.result (omega arith) inv.out in
    let lane_was = still_there into before c.loop-k.lanes k c.index-lanes-k.result (omega arith) inv.into in
    record {
      out = one_written out olds c.loop-k.meshes k c.change.new.mesh (omega arith) (λ d e. c.change.ensures.mesh ∙ ap (λ (lane : Lane). lane.mesh) (lane_was e)) inv.out;
      into = one_written into before c.loop-k.lanes k c.change.new.lane (omega arith)
          (λ e d. c.change.ensures.lane ∙ (λ i. record (lane_was e i) { mesh = mesh_was d i })) inv.into;
    }

pub returns : goal.returns
returns c = record { out = λ k d e lt. c.loop-k.invariant.out.done k d (omega (arith, lt)) e; into = λ k d e lt. c.loop-k.invariant.into.done k e (omega (arith, lt)) d }
