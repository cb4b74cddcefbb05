-- What each kind of step tells its seat: of the step, the seat before, the number found and the seat after.
use Rattle.std.specs.Prelude.{ℕ, ◌-◌, ◌≡◌, ◌<◌, ◌≤◌, ◌⊎◌, ◌∷◌, length, Contains, Option, Some}
use mathlib.Core.Option as lookup
use lib.ListN.{get_elem?}
use Rattle.atomic_table.specs.Table.{Step, Me, rest}
use Rattle.amr_phase.specs.Plans.{planned_face}
use Rattle.amr_board.specs.declared.view.View.{View}
use Rattle.amr_board.specs.Views.{current, after_draw, taking, put_done, add_done, looked, giving}

module _ {P : Type 0} where
  module _ {S : Type 0} where
    abbrev pub Draws : Step S → Me S (View P) → ℕ → Me S (View P) → Type 0
    Draws s m n w = (w ≡ (after_draw m.0 n, m.1)) × (length w.0.tasks ≤ length m.0.plan.tasks)

    abbrev pub Puts : Step S → Me S (View P) → ℕ → Me S (View P) → Type 0
    Puts s m n w = w ≡ (put_done m.0 (s.word - 1), m.1)

    -- the word found is empty or as planned, and not empty where the seat knew the put
    abbrev pub Faces : Step S → Me S (View P) → ℕ → Me S (View P) → Type 0
    Faces s m n w =
        (w ≡ (looked m.0 (s.word - 1) n, m.1))
        × ((n ≡ 0) ⊎ (n ≡ planned_face m.0.plan (s.word - 1)))
        × (Contains m.0.known (s.word - 1) → 0 < n)

    abbrev pub Adds : Step S → Me S (View P) → ℕ → Me S (View P) → Type 0
    Adds s m n w = w ≡ (add_done m.0, m.1)

    abbrev pub Gives : Step S → Me S (View P) → ℕ → Me S (View P) → Type 0
    Gives s m n w = w ≡ (giving m.0, rest m.1)

  -- the task's slot is out with the seat, and holds the piece that was handed in
  abbrev pub Takes : Step (Option P) → Me (Option P) (View P) → ℕ → Me (Option P) (View P) → Type 0
  Takes s m n w = (p : P) × (get_elem? m.0.pieces (current m.0).task ≡ lookup.some p) × (w ≡ (taking m.0, ((current m.0).task, Some p) ∷ m.1))
