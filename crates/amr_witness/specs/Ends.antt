-- The ends of the axes of level 0, and what flows through them.
use Rattle.std.specs.Prelude.{ℕ, ◌+◌, ℤ, pos}
use Rattle.amr_box.specs.declared.Axis.{Axis}
use Rattle.amr_box.specs.declared.Axis.TheVariants.{X, Y}
use Rattle.amr_box.specs.declared.Face.{Face}
use Rattle.amr_def.specs.declared.problem.Problem.{Problem}
use Rattle.amr_def.specs.declared.problem.Sides.{Sides}
use Rattle.amr_def.specs.Domain.{columns, rows}
use Rattle.amr_def.specs.Flux.{Fluxes, face}
use Rattle.amr_def.specs.Ledger.{sum_to}

abbrev pub sides_of : Problem → Axis → Sides
sides_of p X = p.x_sides
sides_of p Y = p.y_sides

-- how many cells lie along an axis
abbrev pub along : Problem → Axis → ℕ
along p X = columns p 0
along p Y = rows p 0

-- how many faces lie at an end of an axis
abbrev pub across : Problem → Axis → ℕ
across p X = rows p 0
across p Y = columns p 0

-- the face before place `at` along an axis, in row k (on x) or in column k (on y)
abbrev pub end_face : Axis → ℕ → ℕ → Face
end_face X at k = face X (pos at) (pos k)
end_face Y at k = face Y (pos k) (pos at)

-- what of the fluxes through the low end and through the high end counts, all in all
abbrev pub through_axis : Problem → Axis → (ℤ → ℕ) → (ℤ → ℕ) → Fluxes → ℕ
through_axis p axis low high e = sum_to (λ k. low (e (end_face axis 0 k)) + high (e (end_face axis (along p axis) k))) (across p axis)
