use Rattle.std.proofs.Common.{◌≡◌, refl, sym, ◌∙◌, ap, Err}
use Rattle.amr_store.proofs.Runs.{weaker}
use Rattle.amr_store.specs.declared.store.Store.{Store}
use Rattle.amr_store.specs.Stored as store
use Rattle.amr_checkpoint.specs.Contents.{room_for}
use Rattle.amr_checkpoint.specs.Made.{deltas_made, version_made}
use Rattle.amr_checkpoint.specs.declared.faults.CheckpointFault.TheVariants.{DiskFault, NoMemory}
use Rattle.amr_checkpoint.proofs.Causes.{disk_fault_of, no_memory_of, other_fault_of}
use Rattle.amr_checkpoint.proofs.Puts.{created_whole, creation_made, creation_stop, store_made}
use Rattle.amr_checkpoint.proofs.Readings.{empty_of}
use Rattle.amr_checkpoint.proofs.checkpoint.make_store.Goals as goal

pub create-requires-clause-empty : goal.create-requires-clause-empty
create-requires-clause-empty g c s seen = empty_of (store.stored s) (c.requires.empty s seen)

pub returns-in-Ok-clause-store : goal.returns-in-Ok-clause-store
returns-in-Ok-clause-store g c = record {
  store_is = store_made c.in-Ok.store c.args.bytes.now c.args.p.now (version_made c.args.deltas) (deltas_made c.args.deltas) (room_for (version_made c.args.deltas) c.args.p.now) c.requires.accepted refl c.in-Ok.ensures.store;
  none = c.in-Ok.ensures.last;
}

pub returns-in-Ok-clause-holds : goal.returns-in-Ok-clause-holds
returns-in-Ok-clause-holds g c t seen = creation_made t c.args.bytes.now c.args.p.now c.args.deltas c.requires.accepted (c.in-Ok.ensures.made t seen)

pub returns-in-Ok-clause-told : goal.returns-in-Ok-clause-told
returns-in-Ok-clause-told g c s seen =
    let made = created_whole c.args.deltas (g.D.Disk.seen c.args.disk.now) (g.D.Disk.seen c.create.new.disk) c.args.bytes.now c.args.p.now c.in-Ok.ensures.seen s seen in
    (made.0, made.1)

pub returns-in-Ok-clause-made : goal.returns-in-Ok-clause-made
returns-in-Ok-clause-made g c s seen =
    created_whole c.args.deltas (g.D.Disk.seen c.args.disk.now) (g.D.Disk.seen c.create.new.disk) c.args.bytes.now c.args.p.now c.in-Ok.ensures.seen s seen

pub returns-in-Ok-clause-stops : goal.returns-in-Ok-clause-stops
returns-in-Ok-clause-stops g c s seen =
    weaker g.D.Disk.moment g.D.Disk.leaves c.args.disk.now c.create.new.disk _ _
    (λ image either. creation_stop image c.args.bytes.now c.args.p.now c.args.deltas c.requires.accepted either) (c.in-Ok.ensures.stops s seen)

pub returns-in-Err-clause-stops : goal.returns-in-Err-clause-stops
returns-in-Err-clause-stops g c s seen =
    weaker g.D.Disk.moment g.D.Disk.leaves c.args.disk.now c.create.new.disk _ _
    (λ image either. creation_stop image c.args.bytes.now c.args.p.now c.args.deltas c.requires.accepted either) (c.in-Err.ensures.stops s seen)

pub returns-in-Err-clause-memory : goal.returns-in-Err-clause-memory
returns-in-Err-clause-memory g c is =
    let fault : c.fault_of_call.result ≡ NoMemory = cc in
    c.in-Err.ensures.memory (no_memory_of Store c.in-Err.fault (sym c.fault_of_call.ensures ∙ fault))

pub returns-in-Err-clause-disk_fault : goal.returns-in-Err-clause-disk_fault
returns-in-Err-clause-disk_fault g c is =
    let fault : c.fault_of_call.result ≡ DiskFault = cc in
    c.in-Err.ensures.reason.failed (disk_fault_of Store c.in-Err.fault (sym c.fault_of_call.ensures ∙ fault) c.in-Err.ensures.unshut)

pub returns-in-Ok-clause-no_disk_fault : goal.returns-in-Ok-clause-no_disk_fault
returns-in-Ok-clause-no_disk_fault g c other = c.in-Ok.ensures.reason.no_fault refl

pub returns-in-Err-clause-no_disk_fault : goal.returns-in-Err-clause-no_disk_fault
returns-in-Err-clause-no_disk_fault g c other =
    c.in-Err.ensures.reason.no_fault (other_fault_of Store c.in-Err.fault (λ fault. other (ap Err (c.fault_of_call.ensures ∙ fault))))
