use Rattle.std.proofs.Common.{◌≡◌, ◌∙◌, ap, rules, arith, length}
use Rattle.amr_disk.specs.Memory.{made_of, calls_in}
use Rattle.amr_disk.proofs.Replays.{possible, ended}
use Rattle.amr_disk.proofs.memory.MemDisk.leave.Goals as goal

pub invariant_of-result : goal.invariant_of-result
invariant_of-result c =
    let same : length c.refill-2.new.buffer.items ≡ length c.loop-step.bytes.items = ap length (c.refill-2.ensures.items ∙ c.deref-2.ensures.value) in
    record {
      replayed = search rules;
      whole = search rules;
      within = search rules;
      made_fits = omega arith;
      bytes_fit = omega arith;
      made_room = omega arith;
      bytes_room = omega arith;
      written_room = omega arith;
      steps_room = omega arith;
    }

pub returns-clause-possible : goal.returns-clause-possible
returns-clause-possible c =
    possible c.args.mode (made_of c.args.self) (calls_in c.args.self) c.loop-step.bytes.items
    (ended c.args.mode c.args.self c.loop-step.made c.loop-step.bytes c.loop-step.start c.loop-step.step-index c.loop-step.invariant (omega arith))
