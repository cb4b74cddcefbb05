use Rattle.std.proofs.Common.{ap, ◌+◌}
use Rattle.amr_store.proofs.Entries.{record_within}
use Rattle.amr_store.proofs.store.Store.sequence_at.Goals as goal

pub slot-requires : goal.slot-requires
slot-requires c = record { within = record_within c.args.self.now _ c.args.number c.requires.counts (ap (λ n. n + c.args.number) c.latest_slot.ensures.slot) }
