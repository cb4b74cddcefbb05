use Rattle.std.proofs.Common.{◌≡◌, ◌≢◌, ◌<◌, ◌≤◌, ◌+◌, ◌^◌, ℕ, List, Some, IfSome, true, false, length, ap, refl, Err, sym, subst, ◌∙◌, arith}
use Rattle.std.proofs.lemmas.Bool.{and_parts, ltb-true}
use Rattle.std.specs.Prelude.{nat_lt, is_some}
use Rattle.amr_patch.specs.Meshes.{state_of}
use Rattle.amr_payload.specs.Delta.{delta_bytes, delta_size}
use Rattle.amr_store.proofs.Runs.{weaker}
use Rattle.amr_store.specs.Stands.{chain_in, deltas_in, last_in, problem_in, record_image, version_in}
use Rattle.amr_store.specs.Stored as store
use Rattle.amr_checkpoint.specs.Checkpoints.{content_at_mesh}
use Rattle.amr_checkpoint.specs.Contents.{room_for}
use Rattle.amr_checkpoint.proofs.Puts.{delta_front, is_put, is_refused, is_untouched, put_held, record_made, record_put, record_stop, store_after, told_by, version_stays}
use Rattle.amr_checkpoint.proofs.checkpoint.put_record.Goals as goal

pub returns-in-Err-clause-put : goal.returns-in-Err-clause-put
returns-in-Err-clause-put g c =
    is_untouched g.D.Disk.seen g.D.Disk.moment g.D.Disk.leaves g.D.Disk.faults (problem_in c.args.store) c.args.p.now (state_of c.args.mesh.now) c.args.disk.now (c.requires.ready.settled c.requires.store.unshut)

pub put_record-requires-clause-room : goal.put_record-requires-clause-room
put_record-requires-clause-room g c = ltb-true (chain_in c.args.store) (deltas_in c.args.store) (and_parts (is_some (last_in c.args.store)) (nat_lt (chain_in c.args.store) (deltas_in c.args.store)) c.requires.takes).1

pub put_record-requires-clause-stands : goal.put_record-requires-clause-stands
put_record-requires-clause-stands g c =
    let old = state_of c.args.old.now in
    let q = c.from.result + 1 in
    let is_old : q ≡ old.step + 1 = ap (λ n. n + 1) (c.from.ensures ∙ c.step.ensures) in
    let small : q < 2 ^ 64 = omega (arith, c.from.ensures) in
    let last = c.requires.latest.last in
    let older = c.requires.latest.older.step in
    let text = c.deref.ensures.value ∙ c.in-Ok.ensures.bytes in
    record {
      some = ap is_some last;
      above = subst (λ (o : _). IfSome o (λ l. l < c.from-2.result + 1)) (sym last) (omega (arith, c.from-2.ensures, c.step-2.ensures, older));
      begins = ap store.front_in text ∙ delta_front old (state_of c.args.mesh.now) q small ∙ ap (λ n. Some n) is_old ∙ sym last;
    }

pub put_record-requires-clause-fits : goal.put_record-requires-clause-fits
put_record-requires-clause-fits g c =
    subst (λ n. length c.deref.result.now ≤ n) (sym (c.requires.store.room ∙ ap (λ v. room_for v c.args.p.now) c.requires.latest.version))
    (subst (λ (b : List ℕ). length b ≤ delta_size c.args.p.now) (sym c.deref.ensures.value) c.in-Ok.ensures.fits)

pub returns-in-Ok-put_record-clause-store : goal.returns-in-Ok-put_record-clause-store
returns-in-Ok-put_record-clause-store g c = record {
  past = record {
    store_is = store_after c.args.store c.put_record.new.self c.args.p.now c.requires.store c.in-Ok-put_record.ensures.same c.in-Ok-put_record.ensures.shuts.shut;
    last = c.in-Ok-put_record.ensures.last ∙ ap (λ n. Some (n + 1)) (c.from-2.ensures ∙ c.step-2.ensures);
  };
  version = version_stays (version_in c.args.store) (version_in c.put_record.new.self) (λ one. let clash : 1 ≡ 3 = sym one ∙ c.requires.latest.version in absurd (cc)) c.in-Ok-put_record.ensures.same.version;
  problem = c.in-Ok-put_record.ensures.same.problem;
  deltas = c.in-Ok-put_record.ensures.same.deltas;
  chain_is = c.in-Ok-put_record.ensures.chain;
}

pub returns-in-Ok-put_record-clause-put : goal.returns-in-Ok-put_record-clause-put
returns-in-Ok-put_record-clause-put g c =
    let old = state_of c.args.old.now in
    let s = state_of c.args.mesh.now in
    let sequence_is : c.from-2.result + 1 ≡ s.step + 1 = ap (λ n. n + 1) (c.from-2.ensures ∙ c.step-2.ensures) in
    let text_is = c.deref.ensures.value ∙ c.in-Ok.ensures.bytes ∙ ap (λ n. delta_bytes old (n + 1) s) (c.from.ensures ∙ c.step.ensures) in
    let bytes = problem_in c.args.store in
    let sequence = c.from-2.result + 1 in
    let text = c.deref.result.now in
    let done = c.in-Ok-put_record.ensures in
    let latest = c.requires.latest in
    is_put g.D.Disk.seen g.D.Disk.moment g.D.Disk.leaves g.D.Disk.faults bytes c.args.p.now s c.args.disk.now c.put_record.new.disk
    (λ t seen. put_held (content_at_mesh bytes c.args.p.now c.args.mesh.now) (record_image c.args.store sequence text) (λ st. store.with_record st sequence text) (g.D.Disk.seen c.args.disk.now) (g.D.Disk.seen c.put_record.new.disk) t done.seen
    (done.put c.requires.store.unshut)
    (λ i u told is. record_made c.args.store (store.stored i) u text c.args.p.now old s sequence (c.requires.held i told) latest.sound c.requires.sound latest.older sequence_is text_is is) seen)
    (told_by (record_image c.args.store sequence text) (g.D.Disk.seen c.args.disk.now) (g.D.Disk.seen c.put_record.new.disk) done.seen)
    (λ deltas i seen. record_put deltas c.args.store (g.D.Disk.seen c.args.disk.now) (g.D.Disk.seen c.put_record.new.disk) c.args.p.now old s text sequence (c.requires.ready.stands c.requires.store.unshut) c.requires.takes c.requires.held sequence_is text_is done.seen i seen)
    (λ i content seen h. weaker g.D.Disk.moment g.D.Disk.leaves c.args.disk.now c.put_record.new.disk _ _
    (λ image either. record_stop c.args.store i image text c.args.p.now old s content sequence (c.requires.held i seen) latest.sound c.requires.sound latest.older h sequence_is text_is either)
    (done.stops c.requires.store.unshut i seen))
    (done.reason.no_fault refl)

pub returns-in-Err-put_record-clause-put : goal.returns-in-Err-put_record-clause-put
returns-in-Err-put_record-clause-put g c =
    let old = state_of c.args.old.now in
    let s = state_of c.args.mesh.now in
    let sequence_is : c.from-2.result + 1 ≡ s.step + 1 = ap (λ n. n + 1) (c.from-2.ensures ∙ c.step-2.ensures) in
    let text_is = c.deref.ensures.value ∙ c.in-Ok.ensures.bytes ∙ ap (λ n. delta_bytes old (n + 1) s) (c.from.ensures ∙ c.step.ensures) in
    let sequence = c.from-2.result + 1 in
    let text = c.deref.result.now in
    let done = c.in-Err-put_record.ensures in
    let latest = c.requires.latest in
    is_refused g.D.Disk.seen g.D.Disk.moment g.D.Disk.leaves g.D.Disk.faults (problem_in c.args.store) c.args.p.now s Unit c.args.disk.now c.put_record.new.disk c.in-Err-put_record.fault c.fault_of_call.result c.fault_of_call.ensures
    (λ by. let clash : true ≡ false = sym by ∙ done.memory in absurd (cc)) done.reason (done.shuts.refused ∙ c.requires.store.unshut)
    (λ i content seen h. weaker g.D.Disk.moment g.D.Disk.leaves c.args.disk.now c.put_record.new.disk _ _
    (λ image either. record_stop c.args.store i image text c.args.p.now old s content sequence (c.requires.held i seen) latest.sound c.requires.sound latest.older h sequence_is text_is either)
    (done.stops c.requires.store.unshut i seen))
