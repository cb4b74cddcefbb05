-- What the pieces of a phase mean. (profile)
use Rattle.std.specs.Prelude.{ℕ, ◌≡◌, List, map}
use mathlib.Core.Option as lookup
use lib.ListN.{get_elem?}
use Rattle.amr_phase.specs.declared.plan.Post.{Post}
use Rattle.amr_phase.specs.Plans.{PlanOf}

-- the plan of the pieces, piece i being task i
abbrev pub plan_of : {P : Type 0} → (P → List Post) → (P → List Post) → ℕ → ℕ → List P → PlanOf
plan_of puts adds places words pieces = record { places = places; words = words; tasks = map (λ p. record { puts = puts p; adds = adds p }) pieces }

-- piece i has the task number i
abbrev pub AreNumbered : {P : Type 0} → (P → ℕ) → List P → Type 0
AreNumbered {P} task pieces = (i : ℕ) (p : P) → get_elem? pieces i ≡ lookup.some p → task p ≡ i
