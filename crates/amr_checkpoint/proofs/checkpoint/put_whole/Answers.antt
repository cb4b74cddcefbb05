use Rattle.std.proofs.Common.{◌≡◌, ◌≢◌, ◌<◌, ◌≤◌, ◌+◌, ℕ, List, Some, IfSome, true, false, length, ap, refl, Err, sym, subst, ◌∙◌}
use Rattle.std.specs.Int.{w32}
use Rattle.amr_patch.specs.Meshes.{state_of}
use Rattle.amr_payload.specs.Payload.{payload, slot_size}
use Rattle.amr_store.proofs.Runs.{weaker}
use Rattle.amr_store.specs.declared.store.Store.{Store}
use Rattle.amr_store.specs.Layout.{end_of}
use Rattle.amr_store.specs.Renewed.{renewed_image}
use Rattle.amr_store.specs.Stands.{last_in, problem_in, put_image, slot_size_in, version_in}
use Rattle.amr_store.specs.Stored as store
use Rattle.amr_store.proofs.Openings.{shows_of}
use Rattle.amr_checkpoint.specs.Checkpoints.{content_at_mesh}
use Rattle.amr_checkpoint.specs.Contents.{room_for}
use Rattle.amr_checkpoint.proofs.Puts.{enough_room, is_put, is_refused, is_untouched, no_chain, put_held, put_made, put_stop, renewal_made, renewal_stop, renewed_whole, store_after, store_made, told_by, version_renewed, version_stays, whole_put}
use Rattle.amr_checkpoint.proofs.checkpoint.put_whole.Goals as goal

pub returns-in-Err-clause-put : goal.returns-in-Err-clause-put
returns-in-Err-clause-put g c =
    is_untouched g.D.Disk.seen g.D.Disk.moment g.D.Disk.leaves g.D.Disk.faults (problem_in c.args.store) c.args.p.now (state_of c.args.mesh.now) c.args.disk.now (c.requires.ready.settled c.requires.store.unshut)

-- ---- a store of version 1

pub renew-requires-clause-above : goal.renew-requires-clause-above
renew-requires-clause-above g c = subst (λ n. IfSome (last_in c.args.store) (λ last. last < n + 1)) (sym (c.from-sequence.ensures ∙ c.step.ensures)) c.requires.above

pub renew-requires-clause-fits : goal.renew-requires-clause-fits
renew-requires-clause-fits g c =
    subst (λ n. length c.deref.result.now ≤ n) (sym c.room.ensures.value) (subst (λ (b : List ℕ). length b ≤ slot_size w32 c.args.p.now) (sym c.deref.ensures.value) c.in-Ok.ensures.fits)

pub returns-in-Ok-renew-clause-store : goal.returns-in-Ok-renew-clause-store
returns-in-Ok-renew-clause-store g c =
    let one = sym c.version-must_renew.ensures ∙ c.if-must_renew.true in
    let of = c.in-Ok-renew.ensures.store in
    record {
      past = record {
        store_is = store_made c.in-Ok-renew.renewed (problem_in c.args.store) c.args.p.now 2 0 c.room.result c.requires.store.accepted c.room.ensures.value of;
        last = c.in-Ok-renew.ensures.last ∙ ap (λ n. Some (n + 1)) (c.from-sequence.ensures ∙ c.step.ensures);
      };
      version = version_renewed (version_in c.args.store) (version_in c.in-Ok-renew.renewed) one of.version_is;
      problem = of.problem_is;
      deltas = of.deltas_is ∙ sym (c.requires.deltas (λ three. let clash : 1 ≡ 3 = sym one ∙ three in absurd (cc)));
      chain_is = no_chain c.in-Ok-renew.renewed of.deltas_is;
    }

pub returns-in-Ok-renew-clause-put : goal.returns-in-Ok-renew-clause-put
returns-in-Ok-renew-clause-put g c =
    let s = state_of c.args.mesh.now in
    let one = sym c.version-must_renew.ensures ∙ c.if-must_renew.true in
    let sequence_is : c.from-sequence.result + 1 ≡ s.step + 1 = ap (λ n. n + 1) (c.from-sequence.ensures ∙ c.step.ensures) in
    let payload_is = c.deref.ensures.value ∙ c.in-Ok.ensures.bytes in
    let bytes = problem_in c.args.store in
    is_put g.D.Disk.seen g.D.Disk.moment g.D.Disk.leaves g.D.Disk.faults bytes c.args.p.now s c.args.disk.now c.renew.new.disk
    (λ t seen. renewal_made t bytes c.deref.result.now c.args.p.now s c.room.result (c.from-sequence.result + 1) c.requires.store.accepted c.requires.sound c.room.ensures.value sequence_is payload_is (c.in-Ok-renew.ensures.renewed t seen))
    (told_by (renewed_image (end_of (length bytes) (slot_size_in c.args.store)) bytes c.room.result (c.from-sequence.result + 1) c.deref.result.now) (g.D.Disk.seen c.args.disk.now) (g.D.Disk.seen c.renew.new.disk) c.in-Ok-renew.ensures.seen)
    (λ deltas i seen. renewed_whole deltas c.args.store (g.D.Disk.seen c.args.disk.now) (g.D.Disk.seen c.renew.new.disk) c.args.p.now s c.deref.result.now c.room.result (c.from-sequence.result + 1)
    (c.requires.ready.stands c.requires.store.unshut) c.requires.no_record one c.room.ensures.value sequence_is payload_is c.in-Ok-renew.ensures.seen i seen)
    (λ i content seen h. weaker g.D.Disk.moment g.D.Disk.leaves c.args.disk.now c.renew.new.disk _ _
    (λ image either. renewal_stop i image bytes c.deref.result.now c.args.p.now s content c.room.result (c.from-sequence.result + 1) c.requires.store.accepted c.requires.sound h c.room.ensures.value sequence_is payload_is either)
    (c.in-Ok-renew.ensures.stops c.requires.store.unshut i seen))
    (c.in-Ok-renew.ensures.reason.no_fault refl)

pub returns-then-must_renew-clause-put : goal.returns-then-must_renew-clause-put
returns-then-must_renew-clause-put g c =
    let s = state_of c.args.mesh.now in
    let sequence_is : c.from-sequence.result + 1 ≡ s.step + 1 = ap (λ n. n + 1) (c.from-sequence.ensures ∙ c.step.ensures) in
    let payload_is = c.deref.ensures.value ∙ c.in-Ok.ensures.bytes in
    let bytes = problem_in c.args.store in
    is_refused g.D.Disk.seen g.D.Disk.moment g.D.Disk.leaves g.D.Disk.faults bytes c.args.p.now s Store c.args.disk.now c.renew.new.disk c.in-Err-renew.fault c.fault_of_call.result c.fault_of_call.ensures
    c.in-Err-renew.ensures.memory c.in-Err-renew.ensures.reason (c.in-Err-renew.ensures.shuts ∙ c.requires.store.unshut)
    (λ i content seen h. weaker g.D.Disk.moment g.D.Disk.leaves c.args.disk.now c.renew.new.disk _ _
    (λ image either. renewal_stop i image bytes c.deref.result.now c.args.p.now s content c.room.result (c.from-sequence.result + 1) c.requires.store.accepted c.requires.sound h c.room.ensures.value sequence_is payload_is either)
    (c.in-Err-renew.ensures.stops c.requires.store.unshut i seen))

-- ---- one of version 2 or 3

pub put-requires-clause-above : goal.put-requires-clause-above
put-requires-clause-above g c = subst (λ n. IfSome (last_in c.args.store) (λ last. last < n + 1)) (sym (c.from-sequence.ensures ∙ c.step.ensures)) c.requires.above

pub put-requires-clause-fits : goal.put-requires-clause-fits
put-requires-clause-fits g c =
    subst (λ n. length c.deref-else-must_renew.result.now ≤ n) (sym c.requires.store.room)
    (subst (λ (b : List ℕ). length b ≤ room_for (version_in c.args.store) c.args.p.now) (sym (c.deref-else-must_renew.ensures.value ∙ c.in-Ok.ensures.bytes))
    (enough_room (version_in c.args.store) c.args.p.now (state_of c.args.mesh.now) (λ one. c.if-must_renew.false (c.version-must_renew.ensures ∙ one)) c.requires.sound))

pub returns-in-Ok-put-clause-store : goal.returns-in-Ok-put-clause-store
returns-in-Ok-put-clause-store g c = record {
  past = record {
    store_is = store_after c.args.store c.put.new.self c.args.p.now c.requires.store c.in-Ok-put.ensures.same c.in-Ok-put.ensures.shuts.shut;
    last = c.in-Ok-put.ensures.last ∙ ap (λ n. Some (n + 1)) (c.from-sequence.ensures ∙ c.step.ensures);
  };
  version = version_stays (version_in c.args.store) (version_in c.put.new.self) (λ one. c.if-must_renew.false (c.version-must_renew.ensures ∙ one)) c.in-Ok-put.ensures.same.version;
  problem = c.in-Ok-put.ensures.same.problem;
  deltas = c.in-Ok-put.ensures.same.deltas;
  chain_is = c.in-Ok-put.ensures.chain;
}

pub returns-in-Ok-put-clause-put : goal.returns-in-Ok-put-clause-put
returns-in-Ok-put-clause-put g c =
    let s = state_of c.args.mesh.now in
    let second : version_in c.args.store ≢ 1 = λ one. c.if-must_renew.false (c.version-must_renew.ensures ∙ one) in
    let sequence_is : c.from-sequence.result + 1 ≡ s.step + 1 = ap (λ n. n + 1) (c.from-sequence.ensures ∙ c.step.ensures) in
    let payload_is = c.deref-else-must_renew.ensures.value ∙ c.in-Ok.ensures.bytes in
    let bytes = problem_in c.args.store in
    let sequence = c.from-sequence.result + 1 in
    let text = c.deref-else-must_renew.result.now in
    let stands = c.requires.ready.stands c.requires.store.unshut in
    is_put g.D.Disk.seen g.D.Disk.moment g.D.Disk.leaves g.D.Disk.faults bytes c.args.p.now s c.args.disk.now c.put.new.disk
    (λ t seen. put_held (content_at_mesh bytes c.args.p.now c.args.mesh.now) (put_image c.args.store sequence text) (λ st. store.with_latest st sequence text) (g.D.Disk.seen c.args.disk.now) (g.D.Disk.seen c.put.new.disk) t c.in-Ok-put.ensures.seen
    (c.in-Ok-put.ensures.put c.requires.store.unshut)
    (λ i u told is. put_made c.args.store (store.stored i) u text c.args.p.now s sequence (shows_of c.args.store i (stands i told)) c.requires.store second c.requires.sound sequence_is payload_is is) seen)
    (told_by (put_image c.args.store sequence text) (g.D.Disk.seen c.args.disk.now) (g.D.Disk.seen c.put.new.disk) c.in-Ok-put.ensures.seen)
    (λ deltas i seen. whole_put deltas c.args.store (g.D.Disk.seen c.args.disk.now) (g.D.Disk.seen c.put.new.disk) c.args.p.now s text sequence stands c.requires.no_record second sequence_is payload_is c.in-Ok-put.ensures.seen i seen)
    (λ i content seen h. weaker g.D.Disk.moment g.D.Disk.leaves c.args.disk.now c.put.new.disk _ _
    (λ image either. put_stop c.args.store i image text c.args.p.now s content sequence (stands i seen) c.requires.store second c.requires.sound h sequence_is payload_is either)
    (c.in-Ok-put.ensures.stops c.requires.store.unshut i seen))
    (c.in-Ok-put.ensures.reason.no_fault refl)

pub returns-clause-put : goal.returns-clause-put
returns-clause-put g c =
    let s = state_of c.args.mesh.now in
    let second : version_in c.args.store ≢ 1 = λ one. c.if-must_renew.false (c.version-must_renew.ensures ∙ one) in
    let sequence_is : c.from-sequence.result + 1 ≡ s.step + 1 = ap (λ n. n + 1) (c.from-sequence.ensures ∙ c.step.ensures) in
    let payload_is = c.deref-else-must_renew.ensures.value ∙ c.in-Ok.ensures.bytes in
    let sequence = c.from-sequence.result + 1 in
    let text = c.deref-else-must_renew.result.now in
    let stands = c.requires.ready.stands c.requires.store.unshut in
    is_refused g.D.Disk.seen g.D.Disk.moment g.D.Disk.leaves g.D.Disk.faults (problem_in c.args.store) c.args.p.now s Unit c.args.disk.now c.put.new.disk c.in-Err-put.fault c.fault_of_call-in-Err-put.result c.fault_of_call-in-Err-put.ensures
    (λ by. let clash : true ≡ false = sym by ∙ c.in-Err-put.ensures.memory in absurd (cc)) c.in-Err-put.ensures.reason (c.in-Err-put.ensures.shuts.refused ∙ c.requires.store.unshut)
    (λ i content seen h. weaker g.D.Disk.moment g.D.Disk.leaves c.args.disk.now c.put.new.disk _ _
    (λ image either. put_stop c.args.store i image text c.args.p.now s content sequence (stands i seen) c.requires.store second c.requires.sound h sequence_is payload_is either)
    (c.in-Err-put.ensures.stops c.requires.store.unshut i seen))
