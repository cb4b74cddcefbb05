use Rattle.std.proofs.Common.{◌∙◌, ap, List, [], ◌∷◌, ◌++◌}
use Rattle.amr_disk.specs.Calls.{Call, Synced}
use Rattle.amr_disk.specs.Memory.{made_of, calls_in}
use Rattle.amr_disk.specs.Replay.{rests_sync, durable_sync}
use Rattle.amr_disk.proofs.memory.MemDiskDisk.sync.Goals as goal

pub returns-clause-durable : goal.returns-clause-durable
returns-clause-durable c image left =
    let later = c.note_sync.new.self in
    durable_sync (made_of c.args.self.now) (made_of later) c.args.self.now.bytes.items (calls_in c.args.self.now) (calls_in later) image c.args.self.now.replayed
    (c.note_sync.ensures.made ∙ c.refuses.ensures.made) (c.if-not-note_sync.ensures.log ∙ ap (λ (l : List Call). l ++ Synced ∷ []) c.refuses.ensures.calls) left

pub returns-clause-images : goal.returns-clause-images
returns-clause-images c =
    let later = c.note_sync.new.self in
    rests_sync (made_of c.args.self.now) (made_of later) c.args.self.now.bytes.items (calls_in c.args.self.now) (calls_in later) c.args.self.now.replayed
    (c.note_sync.ensures.made ∙ c.refuses.ensures.made) (c.if-not-note_sync.ensures.log ∙ ap (λ (l : List Call). l ++ Synced ∷ []) c.refuses.ensures.calls)
