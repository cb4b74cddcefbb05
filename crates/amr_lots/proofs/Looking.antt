-- Looks that go on.
use Rattle.std.proofs.Common.{◌≡◌, ℕ, ◌+◌, List, arith}
use Rattle.std.specs.List.{Contains}
use Rattle.amr_board.specs.declared.view.View.{View}
use Rattle.amr_board.specs.Views.{looked}
use Rattle.amr_board.proofs.Posts.{looked_none, looked_on, looked_once}
use Rattle.amr_lots.specs.Looks.{HasLookedInVain, HasLookedOnly}

module _ {P : Type 0} where
  pub no_look : (v : View P) → HasLookedOnly v v
  no_look v = record { looks = 0; looked = looked_none v }

  -- one look more
  pub look_more : (v w u : View P) (place found : ℕ) → HasLookedOnly v w → u ≡ looked w place found → HasLookedOnly v u
  look_more v w u place found h e = record { looks = h.looks + 1; looked = rw e (looked_on v w (looked w place found) h.looks 1 h.looked (looked_once w place found)) }

  -- more of them
  pub looks_on : (v w u : View P) → HasLookedOnly v w → HasLookedOnly w u → HasLookedOnly v u
  looks_on v w u h k = record { looks = h.looks + k.looks; looked = looked_on v w u h.looks k.looks h.looked k.looked }

  -- in vain at one of some places after others were made
  pub vain_on : (some all : List ℕ) (v w u : View P) → HasLookedOnly v w → ((place : ℕ) → Contains some place → Contains all place) → HasLookedInVain some w u → HasLookedInVain all v u
  vain_on some all v w u h within k = record {
    since = omega (arith, k.since, h.looked.number);
    place = within u.look.place k.place;
    nothing = k.nothing;
  }
