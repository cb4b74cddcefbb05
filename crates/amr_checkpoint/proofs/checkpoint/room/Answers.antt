use Rattle.std.proofs.Common.{◌≤◌, ◌^◌, sym, subst}
use Rattle.amr_checkpoint.proofs.Puts.{room_small}
use Rattle.amr_checkpoint.proofs.checkpoint.room.Goals as goal

pub returns-clause-small : goal.returns-clause-small
returns-clause-small c = subst (λ n. n ≤ 2 ^ 40) (sym c.slot_size2.ensures) (room_small c.args.p.now)
