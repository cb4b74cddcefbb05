use Rattle.std.proofs.Common.{◌≡◌, ◌+◌, ℕ, Option, Some, refl, sym, ap, ◌∙◌}
use Rattle.std.proofs.lemmas.Result.{IfOk-weaker}
use Rattle.amr_patch.specs.declared.meshes.Mesh.{Mesh}
use Rattle.amr_patch.specs.Meshes.{state_of}
use Rattle.amr_store.proofs.Joins.{shut_stays}
use Rattle.amr_store.specs.Stands.{counted_in, is_shut}
use Rattle.amr_checkpoint.proofs.Folded.{counted_still, fails_by_call, fails_not, next_read, where_ok}
use Rattle.amr_checkpoint.proofs.latest.read_record.Goals as goal

pub returns-in-Err-clause-same : goal.returns-in-Err-clause-same
returns-in-Err-clause-same g c = record { same = c.in-Err.ensures.same; slots = c.in-Err.ensures.slots }

pub returns-in-Err-clause-reason : goal.returns-in-Err-clause-reason
returns-in-Err-clause-reason g c =
    fails_by_call _ (g.D.Disk.faults c.args.disk.now) (g.D.Disk.faults c.delta_at.new.disk) c.in-Err.fault c.fault_of_call.result c.fault_of_call.ensures c.in-Err.ensures.reason (c.in-Err.ensures.shuts.refused ∙ c.requires.opened.unshut)

pub returns-clause-read : goal.returns-clause-read
returns-clause-read g c held before on is =
    next_read c.args.p.now (state_of c.args.old.now) held c.args.store.now (g.D.Disk.seen c.args.disk.now) before c.args.number c.deref.result.now c.sequence_at-sequence.result c.decode_record.result on is c.requires.to
    (λ image told. ap Some c.deref.ensures.value ∙ c.in-Ok.ensures.record c.requires.opened.unshut image told)
    (c.sequence_at-sequence.ensures ∙ counted_still c.args.store.now c.delta_at.new.self c.args.number (record { same = c.in-Ok.ensures.same; slots = c.in-Ok.ensures.slots })) c.decode_record.ensures.read

pub returns-clause-sequence : goal.returns-clause-sequence
returns-clause-sequence g c =
    let stays = counted_still c.args.store.now c.delta_at.new.self c.args.number (record { same = c.in-Ok.ensures.same; slots = c.in-Ok.ensures.slots }) in
    IfOk-weaker c.decode_record.result (λ (m : Mesh). c.sequence_at-sequence.result ≡ Some ((state_of m).step + 1)) (λ (m : Mesh). counted_in c.args.store.now c.args.number ≡ Some ((state_of m).step + 1))
    (λ m h. sym (c.sequence_at-sequence.ensures ∙ stays) ∙ h) c.decode_record.ensures.sequence

pub returns-clause-same : goal.returns-clause-same
returns-clause-same g c = record { same = c.in-Ok.ensures.same; slots = c.in-Ok.ensures.slots }

pub returns-clause-opened : goal.returns-clause-opened
returns-clause-opened g c =
    where_ok c.decode_record.result _ (record { ready = c.in-Ok.ensures.ready; unshut = shut_stays (is_shut c.args.store.now) (is_shut c.delta_at.new.self) c.in-Ok.ensures.shuts.shut c.requires.opened.unshut })

pub returns-clause-reason : goal.returns-clause-reason
returns-clause-reason g c =
    fails_not (g.D.Disk.faults c.args.disk.now) (g.D.Disk.faults c.delta_at.new.disk) c.decode_record.result (c.in-Ok.ensures.reason.no_fault refl) c.decode_record.ensures.no_disk_fault
