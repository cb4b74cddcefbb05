-- What a seat does while it reads the borders of a lot: it looks, and does nothing else.
use Rattle.std.specs.Prelude.{◌≡◌, ◌<◌, ℕ, List, Contains}
use Rattle.amr_board.specs.declared.view.View.{View}
use Rattle.amr_board.specs.Posts.{HasLooked}

module _ {P : Type 0} where
  -- some looks were made
  pub record HasLookedOnly (v w : View P) : Type 0 where
    pub looks : ℕ
    pub looked : HasLooked v w looks

  -- the last look was made since, at one of these places, and found nothing
  pub record HasLookedInVain (places : List ℕ) (v w : View P) : Type 0 where
    pub since : v.look.number < w.look.number
    pub place : Contains places w.look.place
    pub nothing : w.look.found ≡ 0
