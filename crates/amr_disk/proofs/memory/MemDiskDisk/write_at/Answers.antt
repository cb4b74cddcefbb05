use Rattle.std.proofs.Common.{◌∙◌}
use Rattle.amr_disk.specs.Memory.{limits_of, made_of, calls_in}
use Rattle.amr_disk.specs.Replay.{passes_write}
use Rattle.amr_disk.proofs.memory.MemDiskDisk.write_at.Goals as goal

pub returns-then-refused-clause-images : goal.returns-then-refused-clause-images
returns-then-refused-clause-images c =
    let mid = c.refuses-refused.new.self in
    passes_write (limits_of mid) (made_of c.args.self.now) (made_of c.fault.new.self) (calls_in c.args.self.now) (calls_in mid) (calls_in c.fault.new.self) c.args.at c.args.bytes.now
    (c.fault.ensures.made ∙ c.note-taken.ensures.made ∙ c.refuses-refused.ensures.made) c.refuses-refused.ensures.calls (c.fault.ensures.calls ∙ c.note-taken.ensures.log)

pub returns-clause-images : goal.returns-clause-images
returns-clause-images c =
    let mid = c.refuses-refused.new.self in
    passes_write (limits_of mid) (made_of c.args.self.now) (made_of c.note-taken.new.self) (calls_in c.args.self.now) (calls_in mid) (calls_in c.note-taken.new.self) c.args.at c.args.bytes.now
    (c.note-taken.ensures.made ∙ c.refuses-refused.ensures.made) c.refuses-refused.ensures.calls c.note-taken.ensures.log
