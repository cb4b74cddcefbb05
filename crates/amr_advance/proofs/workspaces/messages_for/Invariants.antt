use Rattle.std.proofs.Common.{◌≤◌}
use Rattle.std.specs.Prelude.{vec_capacity}
use Rattle.amr_advance.proofs.MadeMessages.{AreMadeFor}
use Rattle.amr_advance.proofs.workspaces.messages_for.Given as goal

-- the first lists have their messages
abbrev pub invariant-loop-t : goal.invariant-loop-t
invariant-loop-t l = record {
  room : l.count ≤ vec_capacity l.messages;
  made : AreMadeFor l.lists l.first l.stride l.own l.t l.messages.items;
}
