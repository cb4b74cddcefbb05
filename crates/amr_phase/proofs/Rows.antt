-- Worked examples, by computation.
use Rattle.std.proofs.Common.{◌≡◌, ℕ, ◌^◌, ◌-◌, true, false, [], ◌∷◌, Some, None, refl}
use Rattle.std.specs.Prelude.{slice_index}
use Rattle.amr_phase.specs.declared.machine.Event.TheVariants.{Draw, Take, Put, Add, Give}
use Rattle.amr_phase.specs.Plans.{PlanOf, is_plan}
use Rattle.amr_phase.specs.Machine.{CoreOf, fresh, after, next_of, is_complete}
use Rattle.amr_phase.specs.Laws.{place_of}

-- two tasks that add these amounts to word 0
abbrev adding : ℕ → ℕ → PlanOf
adding m n =
    record { places = 0; words = 1; tasks = record { puts = []; adds = record { at = 0; amount = m } ∷ [] } ∷ record { puts = []; adds = record { at = 0; amount = n } ∷ [] } ∷ [] }

-- two tasks that put 0 and 9 at these places, and add 3 and 5 to word 0
abbrev putting : ℕ → ℕ → PlanOf
putting p q =
    record {
      places = 2;
      words = 1;
      tasks = record { puts = record { at = p; amount = 0 } ∷ []; adds = record { at = 0; amount = 3 } ∷ [] } ∷ record { puts = record { at = q; amount = 9 } ∷ []; adds = record { at = 0; amount = 5 } ∷ [] } ∷ [];
    }

sums_reach_the_limit : is_plan (adding (2 ^ 62) (2 ^ 62)) ≡ false
sums_reach_the_limit = refl

sums_stay_below : is_plan (adding (2 ^ 62) (2 ^ 62 - 1)) ≡ true
sums_stay_below = refl

two_puts_at_one_place : is_plan (putting 1 1) ≡ false
two_puts_at_one_place = refl

puts_apart : is_plan (putting 0 1) ≡ true
puts_apart = refl

take_before_draw : next_of (fresh (putting 0 1) 2) (Take 0) ≡ None
take_before_draw = refl

-- worker 1 draws first, and worker 0 posts first
abbrev halfway : CoreOf
halfway = after (fresh (putting 0 1) 2) (Draw 1 ∷ Draw 0 ∷ Take 0 ∷ Take 0 ∷ Put 0 ∷ Take 1 ∷ Add 1 ∷ [])

place_is_empty : place_of halfway 0 ≡ None
place_is_empty = refl

other_place_is_filled : place_of halfway 1 ≡ Some 9
other_place_is_filled = refl

sum_so_far : slice_index halfway.totals 0 ≡ 3
sum_so_far = refl

abbrev ended : CoreOf
ended = after halfway (Put 1 ∷ Give 1 ∷ Add 0 ∷ Give 0 ∷ Draw 0 ∷ Draw 1 ∷ [])

ends_complete : is_complete ended ≡ true
ends_complete = refl

sum_at_the_end : slice_index ended.totals 0 ≡ 8
sum_at_the_end = refl

first_place_at_the_end : place_of ended 0 ≡ Some 0
first_place_at_the_end = refl
