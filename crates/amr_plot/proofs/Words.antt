-- The row of masses of a box, as the words that are put.
use Rattle.std.proofs.Common.{◌≡◌, ℕ, zero, suc, ◌+◌, ◌<◌, Bool, false, cond, List, [], ◌∷◌, ◌++◌, length, map, refl, sym, ap, ◌∙◌, arith}
use Rattle.std.specs.Prelude.{codes, decimal, slice_index, ◌==◌}
use Rattle.std.specs.List.{flat_map, range_with_len}
use Rattle.std.proofs.lemmas.Bool.Decides.{nat_tests}
use Rattle.std.proofs.lemmas.List.Concat.{flat_map-cons}
use Rattle.amr_box.specs.Cells.{Extent, width}
use Rattle.amr_def.specs.Plot.{line, mass_line, spaced}
use Rattle.amr_patch.specs.declared.levels.Level.{Level}
use Rattle.amr_patch.specs.Levels.{level_of}
use Rattle.amr_plot.specs.Texts.{masses_text, texts, word}
use Rattle.amr_patch.specs.BoxRows.{mass_in}
use Rattle.amr_plot.specs.Rows.{row_word}
use Rattle.amr_plot.proofs.Putting.{texts_front, texts_same}

words_texts : (f : ℕ → List ℕ) (a n : ℕ) → flat_map (λ w. 32 ∷ w) (map f (range_with_len a n)) ≡ texts (λ i. 32 ∷ f (a + i)) n
words_texts f a zero = refl
words_texts f a (suc n) =
    let here : a ≡ a + 0 = omega arith in
    flat_map-cons (λ (w : List ℕ). 32 ∷ w) (f a) (map f (range_with_len (a + 1) n))
    ∙ (λ i. (32 ∷ f (here i)) ++ words_texts f (a + 1) n i)
    ∙ ap (λ (l : List ℕ). (32 ∷ f (a + 0)) ++ l) (texts_same _ _ n (λ i below. let e : a + 1 + i ≡ a + suc i = omega arith in ap (λ k. 32 ∷ f k) e))
    ∙ sym (texts_front (λ i. 32 ∷ f (a + i)) n)

pub none_before : (v : ℕ) → decimal v ≡ word 0 v
none_before v = refl

not_first : (i : ℕ) → (suc i == 0) ≡ false
not_first i = grind (arith, nat_tests)

pub space_before : (i v : ℕ) → 32 ∷ decimal v ≡ word (suc i) v
space_before i v = ap (λ (t : Bool). cond t [] (codes " ") ++ decimal v) (sym (not_first i))

-- numbers with one space between
pub spaced_words : (v : ℕ → ℕ) (n : ℕ) → 0 < n → spaced (map (λ i. decimal (v i)) (range_with_len 0 n)) ≡ texts (λ x. word x (v x)) n
spaced_words v zero h = absurd (omega arith)
spaced_words v (suc n) h =
    ap (λ (l : List ℕ). decimal (v 0) ++ l) (words_texts (λ i. decimal (v i)) 1 n ∙ texts_same (λ i. 32 ∷ decimal (v (1 + i))) (λ i. word (suc i) (v (suc i))) n (λ i below. let e : 1 + i ≡ suc i = omega arith in ap (λ k. 32 ∷ decimal (v k)) e ∙ space_before i (v (suc i))))
    ∙ ap (λ (l : List ℕ). l ++ texts (λ i. word (suc i) (v (suc i))) n) (none_before (v 0))
    ∙ sym (texts_front (λ x. word x (v x)) n)

-- a row of masses
pub row_is : (level : Level) (b : Extent) (row : ℕ) → 0 < width b → texts (row_word level b row) (width b) ++ 10 ∷ [] ≡ mass_line (level_of level).masses b row
unfolding mass_line
row_is level b row some = ap line (sym (spaced_words (mass_in level b row) (width b) some))

-- some of its masses
pub some_masses : (level : Level) (b : Extent) (row first : ℕ) (masses : List ℕ) → ((k : ℕ) → k < length masses → slice_index masses k ≡ mass_in level b row (first + k)) → masses_text first masses ≡ texts (λ k. row_word level b row (first + k)) (length masses)
some_masses level b row first masses are = texts_same _ _ (length masses) (λ k below. ap (word (first + k)) (are k below))
