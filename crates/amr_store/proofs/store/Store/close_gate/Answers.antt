use Rattle.std.proofs.Common.{inl}
use Rattle.amr_store.proofs.store.Store.close_gate.Goals as goal

pub close-requires-clause-next : goal.close-requires-clause-next
close-requires-clause-next g c = inl c.next-which.ensures.slot
