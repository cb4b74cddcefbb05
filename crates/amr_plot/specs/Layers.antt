-- The levels of all species at one number.
use Rattle.std.specs.Prelude.{◌≡◌, ℕ, ◌<◌, false, List, length, map, slice_index_or, IsTrue}
use Rattle.std.specs.List.{All, flat_map}
use Rattle.amr_box.specs.declared.Cell.{Cell}
use Rattle.amr_box.specs.Cells.{Extent, IsNear, holds, in_boxes}
use Rattle.amr_def.specs.declared.problem.Problem.{Problem}
use Rattle.amr_def.specs.Plot.{box_text, names_species}
use Rattle.amr_def.specs.Domain.{domain, in_domain}
use Rattle.amr_def.specs.Species.{AreAlike, first_state}
use Rattle.amr_def.specs.State as defined
use Rattle.amr_patch.specs.declared.meshes.Mesh.{Mesh}
use Rattle.amr_patch.specs.Meshes.{is_spent, state_of}
use Rattle.amr_plot.specs.declared.layer.Layer.{Layer}

-- meshes of which a plot is made: some, none spent, and alike
pub record ArePlotted (p : Problem) (meshes : List Mesh) : Type 0 where
  pub some : 0 < length meshes
  pub whole : All (λ m. is_spent m ≡ false) meshes
  pub alike : AreAlike p (map state_of meshes)

-- of a level that they have
pub record IsLayer (k : Layer) : Type 0 where
  pub plotted : ArePlotted k.problem.now k.meshes.now
  pub there : k.l < length (first_state (map state_of k.meshes.now)).levels

abbrev pub levels_in : Layer → List defined.Level
levels_in k = map (λ s. defined.level_at s k.l) (map state_of k.meshes.now)

abbrev pub layer_masses : Layer → List defined.Masses
layer_masses k = map (λ level. level.masses) (levels_in k)

abbrev pub layer_boxes : Layer → List Extent
layer_boxes k = (slice_index_or (levels_in k) 0 defined.no_level).boxes

-- the texts of boxes, one after the other
abbrev pub boxes_text : Layer → List Extent → List ℕ
boxes_text k bs = flat_map (box_text (names_species k.problem.now) (layer_masses k)) bs

-- the box lies in the domain of the level, among its boxes
pub record IsLayerBox (k : Layer) (b : Extent) : Type 0 where
  pub near : IsNear b
  pub inside : (c : Cell) → IsTrue (holds b c) → IsTrue (in_domain (domain k.problem.now k.l) c)
  pub among : (c : Cell) → IsTrue (holds b c) → IsTrue (in_boxes (layer_boxes k) c)
