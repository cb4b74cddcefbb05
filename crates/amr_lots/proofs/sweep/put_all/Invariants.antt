use Rattle.amr_board.specs.BoardOf.{IsSeatOf, view}
use Rattle.amr_board.specs.Posts.{HasPosted}
use Rattle.amr_lots.proofs.sweep.put_all.Given as goal

-- the puts before this one are made
abbrev pub invariant-loop-put : goal.invariant-loop-put
invariant-loop-put l = IsSeatOf l.board l.seat × HasPosted (view l.initial.seat) (view l.seat) l.put-index 0
