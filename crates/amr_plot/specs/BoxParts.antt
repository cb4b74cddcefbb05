-- Parts of the texts of boxes.
use Rattle.std.specs.Prelude.{ℕ, ◌+◌, ◌<◌, ◌≤◌, ◌==◌, cond, List, [], ◌++◌, length, slice_index_or}
use Rattle.std.specs.List.{flat_map, range_with_len}
use Rattle.amr_box.specs.Cells.{Extent, height}
use Rattle.amr_def.specs.Plot.{box_line, mass_line, names_species, species_line}
use Rattle.amr_def.specs.State.{no_masses}
use Rattle.amr_plot.specs.Layers.{IsLayerBox, layer_masses}
use Rattle.amr_plot.specs.declared.layer.Layer.{Layer}
use Rattle.amr_plot.specs.declared.parts.Part.{Part}
use Rattle.amr_plot.specs.declared.parts.Part.TheVariants.{Line, Rows}

-- some rows of a species in a box, the first after the species' line
unfoldable pub some_rows : Layer → Extent → ℕ → ℕ → ℕ → List ℕ
some_rows k b s first count =
    cond (first == 0) (species_line (names_species k.problem.now) s) []
    ++ flat_map (mass_line (slice_index_or (layer_masses k) s no_masses) b) (range_with_len first count)

abbrev pub part_text : Layer → Part → List ℕ
part_text k (Line b) = box_line b
part_text k (Rows b s first count) = some_rows k b s first count

-- a part of a box of the layer, whose rows are the box's
abbrev pub IsPartOf : Layer → Part → Type 0
IsPartOf k (Line b) = IsLayerBox k b
IsPartOf k (Rows b s first count) = IsLayerBox k b × (s < length k.meshes.now) × (first + count ≤ height b)
