-- A row of masses, as the words that are put.
use Rattle.std.proofs.Common.{◌≡◌, ◌∙◌, ℕ, ◌+◌, ◌-◌, ◌<◌, ◌≤◌, ℤ, pos, ◌+ℤ◌, List, [], ◌∷◌, ◌++◌, length, take, drop, sym, ap, arith}
use Rattle.std.specs.Prelude.{slice_index}
use Rattle.std.proofs.lemmas.List.{get_or-drop, get_or-take, length-drop, length-take}
use Rattle.amr_box.specs.Cells.{Extent, cell, width}
use Rattle.amr_def.specs.Plot.{line, mass_line}
use Rattle.amr_def.specs.State.{State}
use Rattle.amr_def.specs.View.{finest_mass, finest_masses}
use Rattle.amr_plot.specs.Texts.{masses_text, texts, word}
use Rattle.amr_plot.proofs.Putting.{texts_same}
use Rattle.amr_plot.proofs.Words.{spaced_words}

module _ (s : State) (l : ℕ) (b : Extent) (row : ℕ) where
  abbrev mass : ℕ → ℕ
  mass k = finest_mass s l (cell (b.lo.x +ℤ pos k) (b.lo.y +ℤ pos row))

  line_is : (masses : List ℕ) → length masses ≡ width b → 0 < width b → ((k : ℕ) → k < length masses → slice_index masses k ≡ mass k) → masses_text 0 masses ++ 10 ∷ [] ≡ mass_line (finest_masses s l) b row
  unfolding mass_line
  line_is masses count some are =
      let same : masses_text 0 masses ≡ texts (λ k. word k (mass k)) (length masses) =
      texts_same (λ k. word (0 + k) (slice_index masses k)) (λ k. word k (mass k)) (length masses) (λ k below. let e : 0 + k ≡ k = omega arith in (λ i. word (e i) (are k below i))) in
      ap line (same ∙ ap (texts (λ k. word k (mass k))) count ∙ sym (spaced_words mass (width b) some))

  -- part of a list of masses, from a place on
  pub part_is : (masses : List ℕ) (from w : ℕ) (y : ℤ) → w ≡ width b → 0 < width b → from + w ≤ length masses → ((k : ℕ) → k < width b → slice_index masses (from + k) ≡ finest_mass s l (cell (b.lo.x +ℤ pos k) y)) → y ≡ b.lo.y +ℤ pos row
      → masses_text 0 (take (from + w - from) (drop from masses)) ++ 10 ∷ [] ≡ mass_line (finest_masses s l) b row
  part_is masses from w y wide some within are at =
      let n : ℕ = from + w - from in
      let count : length (take n (drop from masses)) ≡ width b = omega (arith, length-take n (drop from masses), length-drop from masses, within, wide) in
      line_is (take n (drop from masses)) count some
      (λ k lt. get_or-take n (drop from masses) k 0 (omega (arith, lt, count, wide)) ∙ get_or-drop from masses k 0 ∙ are k (omega (arith, lt, count)) ∙ ap (λ (z : ℤ). finest_mass s l (cell (b.lo.x +ℤ pos k) z)) at)
