use Rattle.std.proofs.Common.{◌≡◌, ◌≤◌, ◌+◌, ◌*◌, ◌^◌}
use Rattle.amr_def.specs.Ledger.{sum_to}
use Rattle.amr_payload.specs.Payload.{level_cells}
use Rattle.amr_codec.proofs.sizes.room.Given as goal

-- the levels before l are counted
abbrev pub invariant-loop-l : goal.invariant-loop-l
invariant-loop-l l = record {
  counted : l.size ≡ l.fixed + 24 * (l.p.steps + 1) + sum_to (λ k. 4 + (l.each + 4) * level_cells l.p k) l.l;
  small : l.size ≤ 200000 + 2 ^ 30 * l.l;
}
