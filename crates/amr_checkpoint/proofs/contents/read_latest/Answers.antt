use Rattle.std.proofs.Common.{◌≡◌, ◌+◌, List, Option, Some, None, Ok, Err, refl, sym, ap, subst, ◌∙◌}
use Rattle.amr_patch.specs.Meshes.{state_of}
use Rattle.amr_store.specs.Shown.{latest_in}
use Rattle.amr_store.specs.Stands.{is_shut, last_in, problem_in}
use Rattle.amr_store.proofs.Joins.{shut_stays}
use Rattle.amr_store.proofs.Readings.{reads_on, reads_settled}
use Rattle.amr_checkpoint.specs.declared.latest.StateFault.{StateFault}
use Rattle.amr_checkpoint.specs.declared.latest.StateFault.TheVariants.{Damaged as damaged, Refused}
use Rattle.amr_checkpoint.specs.Checkpoints.{content_at_mesh}
use Rattle.amr_checkpoint.specs.Contents.{Fresh, latest_read}
use Rattle.amr_checkpoint.specs.Reads.{IsHeldOn, ReadsLatest}
use Rattle.amr_checkpoint.proofs.Folded.{entry_of, last_still, no_entry_of, not_some, still_held, store_stays}
use Rattle.amr_checkpoint.proofs.contents.read_latest.Goals as goal

pub read_state-requires : goal.read_state-requires
read_state-requires g c = record {
  opened = record {
    ready = c.in-Ok-Some.ensures.ready;
    unshut = shut_stays (is_shut c.args.store) (is_shut c.latest.new.self) c.in-Ok-Some.ensures.shuts.shut c.requires.store.unshut;
  };
}

-- ---- a state

pub returns-in-Ok-clause-read : goal.returns-in-Ok-clause-read
returns-in-Ok-clause-read g c s held seen is shows =
    let p = c.args.problem in
    let latest = rw c.in-Ok-Some.field-0-is at c.in-Ok-Some.ensures.latest in
    let e = entry_of held.latest c.deref.result.now (ap Some c.deref.ensures.value ∙ latest c.requires.store.unshut s seen ∙ ap latest_in is) in
    let on : IsHeldOn (g.D.Disk.seen c.args.disk.now) c.args.store held = record { image = s; told = seen; is = is; shows = shows } in
    let here = still_held (g.D.Disk.seen c.args.disk.now) (g.D.Disk.seen c.latest.new.disk) c.args.store c.latest.new.self held (record { same = c.in-Ok-Some.ensures.same; slots = c.in-Ok-Some.ensures.slots }) c.in-Ok-Some.ensures.reads.same on in
    ap (λ (b : List _). content_at_mesh b p c.in-Ok.mesh) (c.in-Ok.ensures.same.same.problem ∙ here.shows.problem) ∙ sym (c.in-Ok.ensures.read held e.0 here e.1 e.2)

pub returns-in-Ok-clause-usable : goal.returns-in-Ok-clause-usable
returns-in-Ok-clause-usable g c = record {
  past = record {
    store_is = store_stays c.latest.new.self c.read_state.new.store c.args.problem (store_stays c.args.store c.latest.new.self c.args.problem c.requires.store c.in-Ok-Some.ensures.same
        (shut_stays (is_shut c.args.store) (is_shut c.latest.new.self) c.in-Ok-Some.ensures.shuts.shut c.requires.store.unshut)) c.in-Ok.ensures.same.same c.in-Ok.ensures.opened.unshut;
    last = last_still c.latest.new.self c.read_state.new.store c.in-Ok.ensures.same ∙ c.in-Ok.ensures.last;
  };
  mesh_is = c.in-Ok.ensures.mesh;
}

pub returns-in-Ok-clause-settled : goal.returns-in-Ok-clause-settled
returns-in-Ok-clause-settled g c = c.in-Ok.ensures.opened.ready.settled c.in-Ok.ensures.opened.unshut

pub returns-in-Ok-clause-reads : goal.returns-in-Ok-clause-reads
returns-in-Ok-clause-reads g c = reads_on g.D.Disk.seen g.D.Disk.moment g.D.Disk.leaves c.args.disk.now c.latest.new.disk c.read_state.new.disk c.in-Ok-Some.ensures.reads c.in-Ok.ensures.reads

-- ---- a part is damaged

pub returns-in-Err-Damaged-clause-read : goal.returns-in-Err-Damaged-clause-read
returns-in-Err-Damaged-clause-read g c s held seen is shows =
    let p = c.args.problem in
    let latest = rw c.in-Ok-Some.field-0-is at c.in-Ok-Some.ensures.latest in
    let e = entry_of held.latest c.deref.result.now (ap Some c.deref.ensures.value ∙ latest c.requires.store.unshut s seen ∙ ap latest_in is) in
    let on : IsHeldOn (g.D.Disk.seen c.args.disk.now) c.args.store held = record { image = s; told = seen; is = is; shows = shows } in
    let here = still_held (g.D.Disk.seen c.args.disk.now) (g.D.Disk.seen c.latest.new.disk) c.args.store c.latest.new.self held (record { same = c.in-Ok-Some.ensures.same; slots = c.in-Ok-Some.ensures.slots }) c.in-Ok-Some.ensures.reads.same on in
    sym (subst (λ (f : StateFault). ReadsLatest (latest_read held p held.latest) held.problem p (Err f)) c.in-Err-Damaged.field-0-is (c.in-Err-Damaged.ensures.read held e.0 here e.1 e.2))

pub returns-in-Err-Damaged-clause-settled : goal.returns-in-Err-Damaged-clause-settled
returns-in-Err-Damaged-clause-settled g c =
    reads_settled g.D.Disk.seen g.D.Disk.moment g.D.Disk.leaves c.args.disk.now c.read_state.new.disk
    (reads_on g.D.Disk.seen g.D.Disk.moment g.D.Disk.leaves c.args.disk.now c.latest.new.disk c.read_state.new.disk c.in-Ok-Some.ensures.reads c.in-Err-Damaged.ensures.reads) (c.requires.ready.settled c.requires.store.unshut)

pub returns-in-Err-Damaged-clause-reads : goal.returns-in-Err-Damaged-clause-reads
returns-in-Err-Damaged-clause-reads g c = reads_on g.D.Disk.seen g.D.Disk.moment g.D.Disk.leaves c.args.disk.now c.latest.new.disk c.read_state.new.disk c.in-Ok-Some.ensures.reads c.in-Err-Damaged.ensures.reads

-- ---- a call was refused

pub returns-in-Ok-Some-clause-settled : goal.returns-in-Ok-Some-clause-settled
returns-in-Ok-Some-clause-settled g c =
    reads_settled g.D.Disk.seen g.D.Disk.moment g.D.Disk.leaves c.args.disk.now c.read_state.new.disk
    (reads_on g.D.Disk.seen g.D.Disk.moment g.D.Disk.leaves c.args.disk.now c.latest.new.disk c.read_state.new.disk c.in-Ok-Some.ensures.reads c.in-Err-Refused.ensures.reads) (c.requires.ready.settled c.requires.store.unshut)

pub returns-in-Ok-Some-clause-reads : goal.returns-in-Ok-Some-clause-reads
returns-in-Ok-Some-clause-reads g c = reads_on g.D.Disk.seen g.D.Disk.moment g.D.Disk.leaves c.args.disk.now c.latest.new.disk c.read_state.new.disk c.in-Ok-Some.ensures.reads c.in-Err-Refused.ensures.reads

pub returns-clause-settled : goal.returns-clause-settled
returns-clause-settled g c = reads_settled g.D.Disk.seen g.D.Disk.moment g.D.Disk.leaves c.args.disk.now c.latest.new.disk c.in-Err.ensures.reads (c.requires.ready.settled c.requires.store.unshut)

-- ---- no state yet

pub returns-in-Ok-None-clause-read : goal.returns-in-Ok-None-clause-read
returns-in-Ok-None-clause-read g c s held seen is shows =
    let p = c.args.problem in
    let latest = rw c.in-Ok-None.field-0-is at c.in-Ok-None.ensures.latest in
    let none = no_entry_of held.latest (latest c.requires.store.unshut s seen ∙ ap latest_in is) in
    ap (λ (b : List _). Fresh b p) (c.in-Ok-None.ensures.same.problem ∙ shows.problem) ∙ sym (ap (latest_read held p) none)

pub returns-in-Ok-None-clause-usable : goal.returns-in-Ok-None-clause-usable
returns-in-Ok-None-clause-usable g c =
    let none = rw c.in-Ok-None.field-0-is at c.in-Ok-None.ensures.none in
    record {
      store_is = store_stays c.args.store c.latest.new.self c.args.problem c.requires.store c.in-Ok-None.ensures.same (shut_stays (is_shut c.args.store) (is_shut c.latest.new.self) c.in-Ok-None.ensures.shuts.shut c.requires.store.unshut);
      none = c.in-Ok-None.ensures.last ∙ not_some (last_in c.args.store) none;
    }

pub returns-in-Ok-None-clause-settled : goal.returns-in-Ok-None-clause-settled
returns-in-Ok-None-clause-settled g c = reads_settled g.D.Disk.seen g.D.Disk.moment g.D.Disk.leaves c.args.disk.now c.latest.new.disk c.in-Ok-None.ensures.reads (c.requires.ready.settled c.requires.store.unshut)
