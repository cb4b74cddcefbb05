-- A call of a seat as one step of the board: what it needs, and the words, slots and views that it leaves.
use Rattle.std.specs.Prelude.{ℕ, ◌+◌, ◌≡◌, ◌<◌, false, true, List, ◌∷◌, ◌++◌, [], length, slice_index, slice_set, Option, Some}
use mathlib.Core.Option as lookup
use lib.ListN.{get_elem?}
use Rattle.atomic_table.specs.Table.{State}
use Rattle.amr_phase.specs.declared.machine.Event.{Event}
use Rattle.amr_phase.specs.Plans.{PlanOf, puts_of, adds_of}
use Rattle.amr_board.specs.declared.view.Deed.{Deed}
use Rattle.amr_board.specs.declared.view.Deed.TheVariants.{Draw, Take, Put, Add, Face, Give}
use Rattle.amr_board.specs.declared.view.View.{View}
use Rattle.amr_board.specs.Views.{current, IsHolding, HoldsNone, IsNextPut, IsNextAdd, after_draw, taking, put_done, add_done, looked, giving}
use Rattle.amr_board.specs.Core.{IsCoreOf}

module _ {P : Type 0} where
  -- the seat's view is this one, and it was not joined into another
  abbrev pub IsSeen : State (Option P) (View P) → ℕ → View P → Type 0
  IsSeen s seat v = (get_elem? s.views seat ≡ lookup.some v) × (v.spent ≡ false)

  -- a piece may be given back: all posts of the task are made, and its piece may become this one
  pub record MayGive (becomes : P → P → Type 0) (v : View P) (piece : P) : Type 0 where
    pub holding : IsHolding v (current v).task true
    pub puts : (current v).puts ≡ length (puts_of v.plan (current v).task)
    pub adds : (current v).adds ≡ length (adds_of v.plan (current v).task)
    pub becomes_it : (p : P) → get_elem? v.pieces (current v).task ≡ lookup.some p → becomes p piece

  module _ (becomes : P → P → Type 0) (s : State (Option P) (View P)) (seat : ℕ) (v : View P) where
    -- The seat with this view may do the deed, and the state t is what it leaves
    abbrev pub Leaves : Deed → State (Option P) (View P) → Type 0
    Leaves Draw t =
        HoldsNone v
        × (v.past ≡ false)
        × (t ≡ record {
          words = slice_set s.words 0 (slice_index s.words 0 + 1);
          homes = s.homes;
          views = slice_set s.views seat (after_draw v (slice_index s.words 0));
        })
    Leaves Take t =
        IsHolding v (current v).task false
        × (t ≡ record { words = s.words; homes = slice_set s.homes (current v).task lookup.none; views = slice_set s.views seat (taking v) })
    Leaves Put t =
        (place : ℕ) × (amount : ℕ) × IsNextPut v place amount
        × (t ≡ record { words = slice_set s.words (1 + place) (amount + 1); homes = s.homes; views = slice_set s.views seat (put_done v place) })
    Leaves Add t =
        (word : ℕ) × (amount : ℕ) × IsNextAdd v word amount
        × (t ≡ record {
          words = slice_set s.words (1 + v.plan.places + word) (slice_index s.words (1 + v.plan.places + word) + amount);
          homes = s.homes;
          views = slice_set s.views seat (add_done v);
        })
    Leaves (Face place) t =
        (place < v.plan.places) × (t ≡ record {
          words = s.words;
          homes = s.homes;
          views = slice_set s.views seat (looked v place (slice_index s.words (1 + place)));
        })
    Leaves Give t =
        (piece : P) × MayGive becomes v piece
        × (t ≡ record { words = s.words; homes = slice_set s.homes (current v).task (lookup.some (Some piece)); views = slice_set s.views seat (giving v) })

  -- whatever the events were, this one comes after them and no other
  abbrev pub GrowsBy : PlanOf → State (Option P) (View P) → State (Option P) (View P) → Event → Type 0
  GrowsBy plan s t event = (events : List Event) → IsCoreOf plan s events → IsCoreOf plan t (events ++ event ∷ [])

  -- whatever the events were, they stay
  abbrev pub HasNoEvent : PlanOf → State (Option P) (View P) → State (Option P) (View P) → Type 0
  HasNoEvent plan s t = (events : List Event) → IsCoreOf plan s events → IsCoreOf plan t events
