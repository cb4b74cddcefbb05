use Rattle.amr_board.specs.BoardOf.{IsSeatOf, view}
use Rattle.amr_board.specs.Posts.{HasPosted}
use Rattle.amr_lots.proofs.sweep.make_adds.Given as goal

-- the adds before this one are made
abbrev pub invariant-loop-at : goal.invariant-loop-at
invariant-loop-at l = IsSeatOf l.board l.seat × HasPosted (view l.initial.seat) (view l.seat) 0 l.at
