-- Seats of which one draws and the other is lent.
use Rattle.std.proofs.Common.{◌≡◌, ℕ, ◌+◌, ◌<◌, cond, true, false, List, [], ◌∷◌, ◌++◌, length, get_or, refl, sym, ap, ◌∙◌, subst, arith}
use Rattle.std.specs.Prelude.{Option}
use Rattle.atomic_table.specs.declared.shared.Seat.{Seat}
use Rattle.amr_board.specs.declared.view.Progress.{Progress}
use Rattle.amr_board.specs.declared.view.View.{View}
use Rattle.amr_board.specs.BoardOf.{BoardOf, IsSeatOf, view}
use Rattle.amr_board.specs.Views.{HoldsNone, IsHolding, current, drawn, gone, no_progress, keeps_half, other_half, joined}
use Rattle.amr_workers.specs.Orders.{MayDraw, HasDrawn, HasDrawnOne}

pub first_given : (xs ys : List Progress) → (get_or xs 0 no_progress).given ≡ true → (get_or ys 0 no_progress).given ≡ true → (get_or (xs ++ ys) 0 no_progress).given ≡ true
first_given [] ys a b = b
first_given (x ∷ xs) ys a b = a

module _ {P : Type 0} (board : BoardOf P) (seat : Seat (Option P) (View P)) where
  pub other_may : (other : Seat (Option P) (View P)) → IsSeatOf board other → view other ≡ other_half (view seat) → MayDraw board seat → MayDraw board other
  other_may other of_board is may =
      record { seat_of = of_board; none = subst (λ (v : View P). HoldsNone v) (sym is) refl; here = ap (λ (v : View P). v.past) is ∙ may.here }

  pub half_may : (half : Seat (Option P) (View P)) → IsSeatOf board half → view half ≡ keeps_half (view seat) → MayDraw board seat → MayDraw board half
  half_may half of_board is may =
      record { seat_of = of_board; none = subst (λ (v : View P). HoldsNone v) (sym is) may.none; here = ap (λ (v : View P). v.past) is ∙ may.here }

-- what came back is with the rest
pub both_drawn : {P : Type 0} (board : BoardOf P) (rest lent shares : ℕ) (all back last : Seat (Option P) (View P)) → lent + rest ≡ shares
    → HasDrawn board rest all → HasDrawn board lent back → IsSeatOf board last → view last ≡ joined (view all) (view back) → HasDrawn board shares last
both_drawn board rest lent shares all back last sum drawn drawn' of_board whole =
    record {
      seat_of = of_board;
      none = subst (λ (v : View _). HoldsNone v) (sym whole) (first_given (view all).tasks (view back).tasks drawn.none drawn'.none);
      past = ap (λ (v : View _). v.past) whole ∙ ap (λ b. cond b true (view back).past) drawn.past;
      share = (let a : (view last).share ≡ (view all).share + (view back).share = ap (λ (v : View _). v.share) whole in let b = drawn.share in let c = drawn'.share in omega arith);
    }

-- a seat that found no task left
pub gone_drawn : {P : Type 0} (board : BoardOf P) (seat last : Seat (Option P) (View P)) → MayDraw board seat → IsSeatOf board last → view last ≡ gone (view seat) → HasDrawn board (view seat).share last
gone_drawn board seat last may of_board is =
    record {
      seat_of = of_board;
      none = subst (λ (v : View _). HoldsNone v) (sym is) may.none;
      past = ap (λ (v : View _). v.past) is;
      share = ap (λ (v : View _). v.share) is;
    }

-- and one that drew a task
pub drawn_one : {P : Type 0} (board : BoardOf P) (seat last : Seat (Option P) (View P)) (task : ℕ) → MayDraw board seat → IsSeatOf board last → task < length board.plan.tasks → view last ≡ drawn (view seat) task → HasDrawnOne board task last
drawn_one board seat last task may of_board below is =
    record {
      seat_of = of_board;
      holding = subst (λ (v : View _). IsHolding v task false) (sym is) (record { held = omega arith; is_task = refl; ungiven = refl; is_taken = refl });
      unposted = (ap (λ (v : View _). (current v).puts) is, ap (λ (v : View _). (current v).adds) is);
      here = ap (λ (v : View _). v.past) is ∙ may.here;
      below = below;
    }
