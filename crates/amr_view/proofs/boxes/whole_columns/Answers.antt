use Rattle.std.proofs.Common.{◌+◌, ◌/◌, ◌^◌, arith}
use Rattle.std.proofs.lemmas.Nat.{shl_whole}
use Rattle.amr_view.proofs.WidenedRows.{power_some, quotient_small, round_down, round_up, up_to_room}
use Rattle.amr_view.proofs.boxes.whole_columns.Goals as goal

pub returns-clause-first : goal.returns-clause-first
returns-clause-first c = shl_whole (c.args.low / 2 ^ c.args.l) 12 c.args.l 32 (quotient_small c.args.l c.args.low 4096 c.requires.low) (omega (arith, c.requires.fine))

pub returns-clause-after : goal.returns-clause-after
returns-clause-after c =
    let few = quotient_small c.args.l c.args.high 4096 c.requires.high in
    shl_whole (c.args.high / 2 ^ c.args.l + 1) 13 c.args.l 32 (omega (arith, few)) (omega (arith, c.requires.fine))

pub returns-clause-west : goal.returns-clause-west
returns-clause-west c = let is = returns-clause-first c in omega (arith, is, round_down (2 ^ c.args.l) c.args.low (power_some c.args.l))

pub returns-clause-east : goal.returns-clause-east
returns-clause-east c = let is = returns-clause-after c in omega (arith, is, round_up (2 ^ c.args.l) c.args.high (power_some c.args.l))

pub returns-clause-room : goal.returns-clause-room
returns-clause-room c = let is = returns-clause-after c in omega (arith, is, up_to_room c.args.l c.args.high c.requires.fine c.requires.high)
