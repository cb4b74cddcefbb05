-- The line of a trial as the fragments that are put.
use Rattle.std.proofs.Common.{◌≡◌, ℕ, List, [], ◌∷◌, ◌++◌, length, sym, ap, ◌∙◌, append_assoc}
use Rattle.std.specs.Prelude.{codes, decimal}
use Rattle.sha2.specs.Sha256.{sha256}
use Rattle.hex.specs.Hex.{encode_lower}
use Rattle.amr_def.specs.declared.problem.Problem.{Problem}
use Rattle.amr_def.specs.Facts.{row_at}
use Rattle.amr_def.specs.Plot.{plot}
use Rattle.amr_def.specs.State.{State}
use Rattle.amr_trial.specs.Summary.{box_count, summary}

-- the line in fragments: number, size, step, levels, boxes, mass and digest
abbrev pub line_parts : ℕ → ℕ → ℕ → ℕ → ℕ → ℕ → List ℕ → List ℕ → List ℕ
line_parts number size step levels boxes mass digest end =
    codes "trial " ++ (decimal number ++ (codes " " ++ (decimal size ++ (codes " step " ++ (decimal step ++ (codes " levels " ++ (decimal levels ++ (codes " boxes " ++ (decimal boxes ++ (codes " mass " ++ (decimal mass ++ (codes " sha256 " ++ (digest ++ end)))))))))))))

-- the words of a line, and what follows them
words_then : (a b c d e f g end : List ℕ) → (codes "trial " ++ (a ++ (codes " " ++ (b ++ (codes " step " ++ (c ++ (codes " levels " ++ (d ++ (codes " boxes " ++ (e ++ (codes " mass " ++ (f ++ (codes " sha256 " ++ (g ++ [])))))))))))))) ++ end
    ≡ codes "trial " ++ (a ++ (codes " " ++ (b ++ (codes " step " ++ (c ++ (codes " levels " ++ (d ++ (codes " boxes " ++ (e ++ (codes " mass " ++ (f ++ (codes " sha256 " ++ (g ++ end)))))))))))))
words_then a b c d e f g end =
    ap (λ (l : List ℕ). codes "trial " ++ l) (append_assoc a _ end
    ∙ ap (λ (l : List ℕ). a ++ (codes " " ++ l)) (append_assoc b _ end
    ∙ ap (λ (l : List ℕ). b ++ (codes " step " ++ l)) (append_assoc c _ end
    ∙ ap (λ (l : List ℕ). c ++ (codes " levels " ++ l)) (append_assoc d _ end
    ∙ ap (λ (l : List ℕ). d ++ (codes " boxes " ++ l)) (append_assoc e _ end
    ∙ ap (λ (l : List ℕ). e ++ (codes " mass " ++ l)) (append_assoc f _ end
    ∙ ap (λ (l : List ℕ). f ++ (codes " sha256 " ++ l)) (append_assoc g [] end)))))))

pub line_in_parts : (number size : ℕ) (p : Problem) (s : State) → line_parts number size s.step (length s.levels) (box_count s) (row_at s s.step).mass (encode_lower (sha256 (plot p s))) (10 ∷ []) ≡ summary number size p s
unfolding summary
line_in_parts number size p s = sym (words_then (decimal number) (decimal size) (decimal s.step) (decimal (length s.levels)) (decimal (box_count s)) (decimal (row_at s s.step).mass) (encode_lower (sha256 (plot p s))) (10 ∷ []))
