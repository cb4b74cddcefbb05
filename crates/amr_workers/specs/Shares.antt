-- Seats of a board that are lent to kept workers.
use Rattle.std.specs.Prelude.{ℕ, ◌+◌, ◌/◌, ◌^◌, ◌≤◌}
use Rattle.amr_board.specs.BoardOf.{BoardOf, view}
use Rattle.amr_workers.specs.declared.shares.Shares.{Shares}
use Rattle.amr_workers.specs.Orders.{MayDraw}

module _ {P : Type 0} where
  -- what the three have of the board's share
  abbrev pub whole : Shares P → ℕ
  whole seats = (view seats.first).share + (view seats.second).share + (view seats.third).share

  -- tasks of this board may be drawn with each, and they are enough to lend one to each of so many workers
  pub record MayLend (board : BoardOf P) (workers : ℕ) (seats : Shares P) : Type 0 where
    pub first : MayDraw board seats.first
    pub second : MayDraw board seats.second
    pub third : MayDraw board seats.third
    pub first_share : 2 ^ ((workers + 2) / 3) ≤ (view seats.first).share
    pub second_share : 2 ^ ((workers + 1) / 3) ≤ (view seats.second).share
    pub third_share : 2 ^ (workers / 3) ≤ (view seats.third).share
