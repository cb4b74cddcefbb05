-- The text of a box, by its line and the rows of each species in turn.
use Rattle.std.proofs.Common.{◌≡◌, ℕ, ◌++◌, Bool, List, length, get_or, map, ◌+◌, ◌<◌, append_assoc, append-nil, refl, subst, sym, ap, ◌∙◌}
use Rattle.std.proofs.lemmas.List.{length-map}
use Rattle.amr_box.specs.Cells.{Extent, height}
use Rattle.amr_causes.specs.Bytes.{IsPrefix}
use Rattle.amr_causes.proofs.ByteLaws.{prefix_after}
use Rattle.amr_def.specs.Plot.{box_line, box_text, names_species, rows_text}
use Rattle.amr_def.specs.State as defined
use Rattle.amr_patch.specs.Meshes.{state_of}
use Rattle.amr_plot.specs.BoxParts.{some_rows}
use Rattle.amr_plot.specs.declared.layer.Layer.{Layer}
use Rattle.amr_plot.specs.Layers.{layer_masses}
use Rattle.amr_plot.specs.Texts.{texts}
use Rattle.amr_plot.proofs.Putting.{numbered_from_zero, texts_next, texts_prefix, texts_same}

module _ (k : Layer) (b : Extent) where
  abbrev named : Bool
  named = names_species k.problem.now

  -- the rows of species s, all of them
  pub all_rows : (s : ℕ) → some_rows k b s 0 (height b) ≡ rows_text named b s (get_or (layer_masses k) s defined.no_masses)
  unfolding some_rows rows_text
  all_rows s = refl

  pub layer_count : length (layer_masses k) ≡ length k.meshes.now
  layer_count =
      length-map _ (λ (j : defined.Level). j.masses) ∙ length-map _ (λ (t : defined.State). defined.level_at t k.l) ∙ length-map k.meshes.now state_of

  -- the line, and the first n species
  abbrev pub first_species : ℕ → List ℕ
  first_species n = box_line b ++ texts (λ s. some_rows k b s 0 (height b)) n

  pub box_is : first_species (length k.meshes.now) ≡ box_text named (layer_masses k) b
  unfolding box_text
  box_is =
      ap (λ (l : List ℕ). box_line b ++ l)
      (ap (texts (λ s. some_rows k b s 0 (height b))) (sym layer_count)
      ∙ texts_same _ _ (length (layer_masses k)) (λ s below. all_rows s)
      ∙ sym (numbered_from_zero (rows_text named b) defined.no_masses (layer_masses k)))

  pub next_species : (s : ℕ) → first_species (s + 1) ≡ first_species s ++ some_rows k b s 0 (height b)
  next_species s =
      let f : ℕ → List ℕ = λ s. some_rows k b s 0 (height b) in
      ap (λ (l : List ℕ). box_line b ++ l) (texts_next f s) ∙ sym (append_assoc (box_line b) (texts f s) (f s))

  pub species_within : (s : ℕ) → s < length k.meshes.now → IsPrefix (first_species s ++ some_rows k b s 0 (height b)) (box_text named (layer_masses k) b)
  species_within s below =
      let f : ℕ → List ℕ = λ s. some_rows k b s 0 (height b) in
      let n = length k.meshes.now in
      let one : IsPrefix (box_line b ++ (texts f s ++ f s)) (first_species n) = prefix_after (box_line b) (texts f s ++ f s) (texts f n) (texts_prefix f s n below) in
      subst (λ (l : List ℕ). IsPrefix l (box_text named (layer_masses k) b)) (sym (append_assoc (box_line b) (texts f s) (f s)))
      (subst (λ (l : List ℕ). IsPrefix (box_line b ++ (texts f s ++ f s)) l) box_is one)

  pub no_species : box_line b ≡ first_species 0
  no_species = sym (append-nil (box_line b))
