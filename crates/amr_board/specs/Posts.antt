-- What a seat does while it holds a task: it makes posts one by one, and looks.
use Rattle.std.specs.Prelude.{ℕ, ◌+◌, ◌≡◌, slice_set, Contains}
use Rattle.amr_board.specs.declared.view.View.{View}
use Rattle.amr_board.specs.Views.{current}

module _ {P : Type 0} where
  -- From v to w so many puts and adds of the task that the seat holds were made, and all else stays
  pub record HasPosted (v w : View P) (puts adds : ℕ) : Type 0 where
    pub tasks : w.tasks ≡ slice_set v.tasks 0 (record (current v) { puts = (current v).puts + puts; adds = (current v).adds + adds })
    pub spent : w.spent ≡ v.spent
    pub plan : w.plan ≡ v.plan
    pub pieces : w.pieces ≡ v.pieces
    pub past : w.past ≡ v.past
    pub share : w.share ≡ v.share
    pub look : w.look ≡ v.look
    pub known : (place : ℕ) → Contains v.known place → Contains w.known place
    pub made : w.made ≡ v.made + (puts + adds)

  -- From v to w the seat looked so many times, and did nothing else
  pub record HasLooked (v w : View P) (looks : ℕ) : Type 0 where
    pub tasks : w.tasks ≡ v.tasks
    pub spent : w.spent ≡ v.spent
    pub plan : w.plan ≡ v.plan
    pub pieces : w.pieces ≡ v.pieces
    pub past : w.past ≡ v.past
    pub share : w.share ≡ v.share
    pub none : looks ≡ 0 → w.look ≡ v.look
    pub number : w.look.number ≡ v.look.number + looks
    pub known : (place : ℕ) → Contains v.known place → Contains w.known place
    pub made : w.made ≡ v.made + looks
