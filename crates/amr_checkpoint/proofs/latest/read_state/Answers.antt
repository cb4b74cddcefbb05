use Rattle.std.proofs.Common.{length, ◌≡◌, ◌+◌, ◌≤◌, Some, refl, sym, ap, subst, ◌∙◌, arith}
use Rattle.amr_patch.specs.Meshes.{state_of}
use Rattle.amr_store.proofs.Readings.{reads_on}
use Rattle.amr_store.specs.Stands.{chain_in, counted_in, last_in}
use Rattle.amr_checkpoint.proofs.Folded.{all_applied, applied_on, chain_still, counted_still, fails_from, fails_not, first_applied, first_unread, reads_none, stays_on, stays_same, still_held, unapplied}
use Rattle.amr_checkpoint.proofs.latest.read_state.Goals as goal

-- ---- the whole state

pub returns-in-Err-clause-read : goal.returns-in-Err-clause-read
returns-in-Err-clause-read g c held entry on latest payload =
    first_unread held c.args.p.now entry c.args.store.now c.args.bytes.now c.sequence_at-sequence.result c.version.result c.in-Err.fault on.shows latest payload c.sequence_at-sequence.ensures c.version.ensures c.in-Err.ensures.read

pub returns-in-Err-clause-same : goal.returns-in-Err-clause-same
returns-in-Err-clause-same g c = stays_same c.args.store.now

pub returns-in-Err-clause-reads : goal.returns-in-Err-clause-reads
returns-in-Err-clause-reads g c = reads_none g.D.Disk.seen g.D.Disk.moment g.D.Disk.leaves c.args.disk.now

pub returns-in-Err-clause-reason : goal.returns-in-Err-clause-reason
returns-in-Err-clause-reason g c = fails_not (g.D.Disk.faults c.args.disk.now) (g.D.Disk.faults c.args.disk.now) _ refl c.in-Err.ensures.no_disk_fault

pub loop-before-init : goal.loop-before-init
loop-before-init g c = record {
  mesh_is = c.in-Ok.ensures.mesh;
  sequence = sym c.sequence_at-sequence.ensures ∙ c.in-Ok.ensures.sequence;
  same = stays_same c.args.store.now;
  opened = c.requires.opened;
  reads = reads_none g.D.Disk.seen g.D.Disk.moment g.D.Disk.leaves c.args.disk.now;
  no_fault = refl;
  so_far = λ held entry on latest payload. first_applied held c.args.p.now entry c.args.store.now c.args.bytes.now c.sequence_at-sequence.result c.version.result c.in-Ok.mesh on.shows latest payload c.sequence_at-sequence.ensures c.version.ensures
      c.in-Ok.ensures.read;
}

-- ---- a record

pub read_record-requires-clause-to : goal.read_record-requires-clause-to
read_record-requires-clause-to g c = omega (arith, c.loop-before-test.true, c.chain-before-end.ensures.number, chain_still c.args.store.now c.loop-before.store c.loop-before.invariant.same)

pub loop-before-preserved : goal.loop-before-preserved
loop-before-preserved g c =
    let so_far = c.loop-before.invariant in
    let next = c.in-Ok-read_record.ensures in
    record {
      mesh_is = next.mesh;
      sequence = sym (counted_still c.args.store.now c.loop-before.store (c.loop-before.before + 1) so_far.same) ∙ next.sequence;
      same = stays_on c.args.store.now c.loop-before.store c.read_record.new.store so_far.same next.same;
      opened = next.opened;
      reads = reads_on g.D.Disk.seen g.D.Disk.moment g.D.Disk.leaves c.args.disk.now c.loop-before.disk c.read_record.new.disk so_far.reads next.reads;
      no_fault = next.reason.no_fault (λ is. cc) ∙ so_far.no_fault;
      so_far = λ held entry on latest payload.
          let here = still_held (g.D.Disk.seen c.args.disk.now) (g.D.Disk.seen c.loop-before.disk) c.args.store.now c.loop-before.store held so_far.same so_far.reads.same on in
          applied_on held c.args.p.now c.loop-before.before c.loop-before.mesh c.in-Ok-read_record.next (so_far.so_far held entry on latest payload) (next.read held c.loop-before.before here refl);
    }

pub returns-in-Err-read_record-clause-read : goal.returns-in-Err-read_record-clause-read
returns-in-Err-read_record-clause-read g c held entry on latest payload =
    let so_far = c.loop-before.invariant in
    let here = still_held (g.D.Disk.seen c.args.disk.now) (g.D.Disk.seen c.loop-before.disk) c.args.store.now c.loop-before.store held so_far.same so_far.reads.same on in
    unapplied held c.args.p.now c.loop-before.before (c.loop-before.before + 1) c.loop-before.mesh c.in-Err-read_record.fault (so_far.so_far held entry on latest payload) (c.in-Err-read_record.ensures.read held c.loop-before.before here refl)

pub returns-in-Err-read_record-clause-same : goal.returns-in-Err-read_record-clause-same
returns-in-Err-read_record-clause-same g c = stays_on c.args.store.now c.loop-before.store c.read_record.new.store c.loop-before.invariant.same c.in-Err-read_record.ensures.same

pub returns-in-Err-read_record-clause-reads : goal.returns-in-Err-read_record-clause-reads
returns-in-Err-read_record-clause-reads g c =
    reads_on g.D.Disk.seen g.D.Disk.moment g.D.Disk.leaves c.args.disk.now c.loop-before.disk c.read_record.new.disk c.loop-before.invariant.reads c.in-Err-read_record.ensures.reads

pub returns-in-Err-read_record-clause-reason : goal.returns-in-Err-read_record-clause-reason
returns-in-Err-read_record-clause-reason g c = fails_from _ _ _ _ c.loop-before.invariant.no_fault c.in-Err-read_record.ensures.reason

-- ---- all of them

pub returns-clause-read : goal.returns-clause-read
returns-clause-read g c held entry on latest payload =
    let last : c.loop-before.before ≡ c.chain-before-end.result = omega (arith, c.loop-before-test.false, c.loop-before.auto.before-end) in
    let all : length held.records ≡ c.loop-before.before = omega (arith, last, c.chain-before-end.ensures.number, on.shows.chain) in
    all_applied held c.args.p.now c.loop-before.before (c.loop-before.before + 1) c.loop-before.mesh all (c.loop-before.invariant.so_far held entry on latest payload)

pub returns-clause-last : goal.returns-clause-last
returns-clause-last g c =
    let last : c.loop-before.before ≡ chain_in c.args.store.now = omega (arith, c.loop-before-test.false, c.loop-before.auto.before-end, c.chain-before-end.ensures.number) in
    ap (counted_in c.args.store.now) (sym last) ∙ c.loop-before.invariant.sequence

pub returns-clause-reason : goal.returns-clause-reason
returns-clause-reason g c = fails_not (g.D.Disk.faults c.args.disk.now) (g.D.Disk.faults c.loop-before.disk) _ c.loop-before.invariant.no_fault tt
