use Rattle.std.proofs.Common.{◌≡◌, ℕ, ◌<◌, ◌≤◌, length, slice_index_or}
use Rattle.amr_ghost.specs.Messages.{HasPacked}
use Rattle.amr_ghost.specs.declared.messages.Message.{Message}
use Rattle.amr_ghost.proofs.messages.pack_messages.Given as goal

-- the messages so far are packed, and the others as they were
abbrev pub invariant-loop-k : goal.invariant-loop-k
invariant-loop-k l = record {
  count : length l.messages ≡ length l.initial.messages;
  done : (j : ℕ) (x : Message) → j < l.k → HasPacked l.fn.patches (slice_index_or l.initial.messages j x) (slice_index_or l.messages j x);
  rest : (j : ℕ) (x : Message) → l.k ≤ j → slice_index_or l.messages j x ≡ slice_index_or l.initial.messages j x;
}
