use Rattle.std.proofs.Common.{◌≡◌, ◌∙◌, sym, length, arith}
use Rattle.amr_disk.specs.Image.{Torn, written_at}
use Rattle.std.specs.Prelude.{option_map}
use Rattle.std.proofs.lemmas.Result.{on_ok_weaker}
use Rattle.amr_store.proofs.Creation.{first_kept}
use Rattle.amr_store.proofs.Creation3.{gates_seen, gates_all, laid_3_of}
use Rattle.amr_store.proofs.Calls.{mapped_some}
use Rattle.amr_store.proofs.Runs.{only_at, writes, writes_on, syncs, weaker}
use Rattle.amr_store.specs.Created.{IsShutFirst, laid_image_3}
use Rattle.amr_store.specs.Table.{slot_count}
use Rattle.amr_store.proofs.create3.lay.Goals as goal

pub loop-k-init : goal.loop-k-init
loop-k-init g c = record {
  seen = c.in_ok-write_at.ensures.seen;
  faults = c.in_ok-write_at.ensures.no_fault;
  stops = λ s is.
      let m = g.D.Disk.moment in
      let l = g.D.Disk.leaves in
      let n = length c.args.head.now in
      weaker m l c.args.disk.now c.write_at.new.self (Torn 1 n s) (λ i. IsShutFirst s → IsShutFirst i) (λ i torn shut. first_kept s i 1 n (omega arith) shut torn)
      (writes m l c.args.disk.now c.write_at.new.self 1 n s (only_at m l c.args.disk.now _ s is c.requires.settled) c.write_at.ensures.images);
}

pub loop-k-preserved : goal.loop-k-preserved
loop-k-preserved g c = record {
  seen = gates_seen c.loop-k.k c.lead_length-lead.result c.args.slot_size c.gate_at.result (written_at 1 c.args.head.now) _ _ _ (omega arith) c.gate_at.ensures.place c.loop-k.invariant.seen c.in_ok-write_at-2.ensures.seen;
  faults = c.in_ok-write_at-2.ensures.no_fault ∙ c.loop-k.invariant.faults;
  stops = λ s is.
      writes_on g.D.Disk.moment g.D.Disk.leaves c.args.disk.now c.loop-k.disk c.write_at-in-loop-k.new.self c.gate_at.result 1 (λ i. IsShutFirst s → IsShutFirst i) (λ i. IsShutFirst s → IsShutFirst i) (c.loop-k.invariant.stops s is) c.write_at-in-loop-k.ensures.images
      (λ d i keeps torn shut. first_kept d i c.gate_at.result 1 (omega (arith, c.gate_at.ensures.place)) (keeps shut) torn);
}

pub returns-clause-seen : goal.returns-clause-seen
returns-clause-seen g c =
    let seen = g.D.Disk.seen in
    let count : c.loop-k.k ≡ slot_count c.args.deltas = omega (arith, c.loop-k.auto.k-end, c.loop-k-test.false) in
    let all : seen c.loop-k.disk ≡ option_map (laid_image_3 c.args.deltas c.args.problem.now c.args.slot_size) (seen c.args.disk.now) =
    gates_all c.loop-k.k c.args.deltas c.lead_length-lead.result c.args.slot_size c.args.head.now c.args.problem.now (seen c.args.disk.now) (seen c.loop-k.disk) count c.lead_length-lead.ensures.length c.requires.head c.loop-k.invariant.seen in
    on_ok_weaker c.sync.result (λ durable. c.sync.ensures.seen ∙ all) c.sync.ensures.durable

pub returns-clause-laid : goal.returns-clause-laid
returns-clause-laid g c =
    let seen = g.D.Disk.seen in
    let count : c.loop-k.k ≡ slot_count c.args.deltas = omega (arith, c.loop-k.auto.k-end, c.loop-k-test.false) in
    let all : seen c.loop-k.disk ≡ option_map (laid_image_3 c.args.deltas c.args.problem.now c.args.slot_size) (seen c.args.disk.now) =
    gates_all c.loop-k.k c.args.deltas c.lead_length-lead.result c.args.slot_size c.args.head.now c.args.problem.now (seen c.args.disk.now) (seen c.loop-k.disk) count c.lead_length-lead.ensures.length c.requires.head c.loop-k.invariant.seen in
    on_ok_weaker c.sync.result (λ durable t is.
    let from = mapped_some (laid_image_3 c.args.deltas c.args.problem.now c.args.slot_size) (seen c.args.disk.now) t (sym (c.sync.ensures.seen ∙ all) ∙ is) in
    laid_3_of c.args.deltas from.0 t c.args.problem.now c.args.slot_size c.requires.some c.requires.text c.requires.size from.2) c.sync.ensures.durable

pub returns-clause-stops : goal.returns-clause-stops
returns-clause-stops g c s is = syncs g.D.Disk.moment g.D.Disk.leaves c.args.disk.now c.loop-k.disk c.sync.new.self (λ i. IsShutFirst s → IsShutFirst i) (c.loop-k.invariant.stops s is) c.sync.ensures.images.passes
