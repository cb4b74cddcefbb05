use Rattle.std.proofs.Common.{arith, ◌∙◌, sym}
use Rattle.std.proofs.lemmas.Bool.{lt-ltb, le-ltb}
use Rattle.amr_disk.proofs.Logs.{call_is, log_sync, replayed_sync, size_after_sync, reach_after_sync}
use Rattle.amr_disk.specs.Memory.{limits_of}
use Rattle.amr_disk.proofs.memory.MemDisk.note_sync.Goals as goal

pub returns-then-len-self-clause-taken : goal.returns-then-len-self-clause-taken
returns-then-len-self-clause-taken c = sym (call_is (limits_of c.args.self.now) c.args.self.now.steps.items c.args.self.now.written.items c.len.result (c.len.ensures ∙ c.args.self.now.steps.ok.0) ∙ le-ltb _ _ c.if-len-self.true)

pub invariant_of-self : goal.invariant_of-self
invariant_of-self c = record {
  replayed = replayed_sync c.args.self.now.made.items c.args.self.now.bytes.items c.args.self.now.steps.items c.keep.new.steps.items c.args.self.now.written.items c.args.self.now.replayed c.keep.ensures.items;
  whole = size_after_sync c.args.self.now.steps.items c.keep.new.steps.items c.keep.ensures.items ∙ c.args.self.now.whole;
  within = reach_after_sync c.args.self.now.steps.items c.keep.new.steps.items c.args.self.now.capacity c.keep.ensures.items c.args.self.now.within;
  made_fits = c.args.self.now.made_fits;
  bytes_fit = c.args.self.now.bytes_fit;
  made_room = c.args.self.now.made_room;
  bytes_room = c.args.self.now.bytes_room;
  written_room = c.args.self.now.written_room;
  steps_room = omega (arith, c.args.self.now.steps_room, c.keep.ensures.room);
}

pub returns-clause-taken : goal.returns-clause-taken
returns-clause-taken c = sym (call_is (limits_of c.args.self.now) c.args.self.now.steps.items c.args.self.now.written.items c.len.result (c.len.ensures ∙ c.args.self.now.steps.ok.0) ∙ lt-ltb _ _ c.if-len-self.false)

pub returns-clause-log : goal.returns-clause-log
returns-clause-log c = log_sync c.args.self.now.steps.items c.keep.new.steps.items c.args.self.now.written.items c.keep.ensures.items
