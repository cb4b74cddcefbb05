-- The texts of boxes, cut into parts.
use Rattle.std.proofs.Common.{◌≡◌, ◌∙◌, ℕ, zero, suc, ◌+◌, ◌<◌, ◌==◌, Bool, false, cond, List, [], ◌∷◌, ◌++◌, refl, sym, ap, append_assoc, arith}
use Rattle.std.proofs.lemmas.Bool.Decides.{nat_tests}
use Rattle.std.specs.List.{flat_map, range_with_len}
use Rattle.amr_box.specs.Cells.{Extent}
use Rattle.amr_def.specs.Plot.{mass_line, names_species, species_line}
use Rattle.amr_def.specs.State.{Masses, no_masses}
use Rattle.std.specs.Prelude.{slice_index_or}
use Rattle.amr_patch.proofs.BoxEntries.{no_box}
use Rattle.amr_plot.specs.BoxParts.{part_text, some_rows}
use Rattle.amr_plot.specs.declared.layer.Layer.{Layer}
use Rattle.amr_plot.specs.declared.parts.Part.{Part}
use Rattle.amr_plot.specs.declared.parts.Part.TheVariants.{Line, Rows}
use Rattle.amr_plot.specs.Layers.{layer_masses}
use Rattle.amr_plot.proofs.Putting.{range_texts, texts_more, texts_of_range}
use Rattle.amr_plot.proofs.TextLaws.{one_more}

abbrev pub no_part : Part
no_part = Line no_box

first_rows : (f : ℕ → List ℕ) (a n : ℕ) → flat_map f (range_with_len 0 a) ++ flat_map f (range_with_len a n) ≡ flat_map f (range_with_len 0 (a + n))
first_rows f a n = (λ i. texts_of_range f a i ++ range_texts f a n i) ∙ sym (texts_more f a n) ∙ sym (texts_of_range f (a + n))

module _ (k : Layer) (b : Extent) (s : ℕ) where
  abbrev masses : Masses
  masses = slice_index_or (layer_masses k) s no_masses

  -- the first n rows with what stands before them, once there is one
  abbrev pub first_text : ℕ → List ℕ
  first_text n = cond (n == 0) [] (some_rows k b s 0 n)

  next_row : (a n : ℕ) → first_text a ++ some_rows k b s a (suc n) ≡ some_rows k b s 0 (a + suc n)
  unfolding some_rows
  next_row zero n = let e : suc n ≡ 0 + suc n = omega arith in ap (some_rows k b s 0) e
  next_row (suc a) n =
      let f : ℕ → List ℕ = mass_line masses b in
      let line = species_line (names_species k.problem.now) s in
      let no : (suc a == 0) ≡ false = grind (arith, nat_tests) in
      (λ i. cond (no i) [] (some_rows k b s 0 (suc a)) ++ (cond (no i) line [] ++ flat_map f (range_with_len (suc a) (suc n))))
      ∙ append_assoc line (flat_map f (range_with_len 0 (suc a))) (flat_map f (range_with_len (suc a) (suc n)))
      ∙ ap (λ (l : List ℕ). line ++ l) (first_rows f (suc a) (suc n))

  none_yet : (a n : ℕ) → first_text (a + suc n) ≡ some_rows k b s 0 (a + suc n)
  none_yet a n = let no : (a + suc n == 0) ≡ false = grind (arith, nat_tests) in ap (λ (t : Bool). cond t [] (some_rows k b s 0 (a + suc n))) no

  pub rows_put : (old now new : List Part) (first n : ℕ) → flat_map (part_text k) now ≡ flat_map (part_text k) old ++ first_text first → new ≡ now ++ Rows b s first (suc n) ∷ []
      → flat_map (part_text k) new ≡ flat_map (part_text k) old ++ first_text (first + suc n)
  rows_put old now new first n so_far is =
      let rest = some_rows k b s first (suc n) in
      ap (flat_map (part_text k)) is ∙ one_more (part_text k) now (Rows b s first (suc n)) ∙ ap (λ (l : List ℕ). l ++ rest) so_far
      ∙ append_assoc (flat_map (part_text k) old) (first_text first) rest
      ∙ ap (λ (l : List ℕ). flat_map (part_text k) old ++ l) (next_row first n ∙ sym (none_yet first n))

  pub rows_put_some : (old now new : List Part) (first count : ℕ) → 0 < count → flat_map (part_text k) now ≡ flat_map (part_text k) old ++ first_text first
      → new ≡ now ++ Rows b s first count ∷ [] → flat_map (part_text k) new ≡ flat_map (part_text k) old ++ first_text (first + count)
  rows_put_some old now new first zero some so_far is = absurd (omega arith)
  rows_put_some old now new first (suc n) some so_far is = rows_put old now new first n so_far is

  pub some_put : (n : ℕ) → 0 < n → first_text n ≡ some_rows k b s 0 n
  some_put zero some = absurd (omega arith)
  some_put (suc n) some = let no : (suc n == 0) ≡ false = grind (arith, nat_tests) in ap (λ (t : Bool). cond t [] (some_rows k b s 0 (suc n))) no
