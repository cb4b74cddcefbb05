-- What a trial prints: one line on its last state and the plot of it. (profile)
use Rattle.std.specs.Prelude.{ℕ, List, [], ◌∷◌, map, length, codes, decimal, sum}
use Rattle.sha2.specs.Sha256.{sha256}
use Rattle.hex.specs.Hex.{encode_lower}
use Rattle.amr_def.specs.declared.problem.Problem.{Problem}
use Rattle.amr_def.specs.Facts.{row_at}
use Rattle.amr_def.specs.Plot.{line, spaced, plot}
use Rattle.amr_def.specs.Run.{run}
use Rattle.amr_def.specs.State.{State}

-- how many boxes all levels have
abbrev pub box_count : State → ℕ
box_count s = sum (map (λ k. length k.boxes) s.levels)

-- the line on a state, by the row of its last step, with the SHA-256 of its plot in hexadecimal digits
unfoldable pub summary : ℕ → ℕ → Problem → State → List ℕ
summary number size p s = line (spaced (
    codes "trial" ∷ decimal number ∷ decimal size
    ∷ codes "step" ∷ decimal s.step
    ∷ codes "levels" ∷ decimal (length s.levels)
    ∷ codes "boxes" ∷ decimal (box_count s)
    ∷ codes "mass" ∷ decimal (row_at s s.step).mass
    ∷ codes "sha256" ∷ encode_lower (sha256 (plot p s))
    ∷ []))

-- the line of a trial, by the problem that its text is: the one on its state after 16 steps
abbrev pub summary_line : ℕ → ℕ → Problem → List ℕ
summary_line number size p = summary number size p (run p 16)
