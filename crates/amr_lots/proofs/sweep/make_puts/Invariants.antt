use Rattle.std.proofs.Common.{length, take}
use Rattle.amr_board.specs.BoardOf.{IsSeatOf, view}
use Rattle.amr_board.specs.Posts.{HasPosted}
use Rattle.amr_lots.specs.Works.{puts_listed}
use Rattle.amr_lots.proofs.sweep.make_puts.Given as goal

-- the puts of the patches before this one are made
abbrev pub invariant-loop-k : goal.invariant-loop-k
invariant-loop-k l = IsSeatOf l.board l.seat × HasPosted (view l.initial.seat) (view l.seat) (length (puts_listed (take l.k l.layouts))) 0
