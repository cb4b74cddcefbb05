-- The levels of alike states at one number.
use Rattle.std.proofs.Common.{◌≡◌, ℕ, ◌+◌, ◌<◌, ◌≤◌, List, length, get_or, map, true, sym, ap, subst, ◌∙◌, arith}
use Rattle.std.proofs.lemmas.List.{get_or-map, get_or_default, length-map}
use Rattle.std.specs.List.{All}
use Rattle.amr_box.specs.declared.Cell.{Cell}
use Rattle.amr_box.specs.Cells.{Extent, holds, in_boxes}
use Rattle.amr_def.specs.Domain.{domain, in_domain}
use Rattle.amr_def.specs.Facts.{IsLevel, IsSound}
use Rattle.amr_def.specs.Species.{boxes_in as all_boxes, first_state, no_state}
use Rattle.amr_def.specs.State as defined
use Rattle.amr_patch.specs.declared.meshes.Mesh.{Mesh}
use Rattle.amr_patch.specs.declared.levels.Level.{Level}
use Rattle.amr_patch.specs.BoxRows.{HasCellsOf}
use Rattle.amr_patch.specs.Levels.{level_of}
use Rattle.amr_patch.specs.Meshes.{state_of}
use Rattle.amr_patch.proofs.BoxEntries.{in_some, no_box}
use Rattle.amr_patch.proofs.Corners.{corners}
use Rattle.amr_plot.specs.declared.layer.Layer.{Layer}
use Rattle.amr_plot.specs.Layers.{IsLayerBox, IsLayer, layer_boxes, levels_in, layer_masses}

module _ (k : Layer) (is : IsLayer k) where
  abbrev states : List defined.State
  states = map state_of k.meshes.now

  count : length states ≡ length k.meshes.now
  count = length-map k.meshes.now state_of

  -- the state of a species
  abbrev state : ℕ → defined.State
  state s = get_or states s no_state

  sound : (s : ℕ) → s < length k.meshes.now → IsSound k.problem.now (state s)
  sound s below = is.plotted.alike.sound s no_state (omega (arith, below, count))

  same_boxes : (s : ℕ) → s < length k.meshes.now → all_boxes (state s) ≡ all_boxes (first_state states)
  same_boxes s below = is.plotted.alike.same_boxes s no_state (omega (arith, below, count))

  -- it has the level
  pub level_there : (s : ℕ) → s < length k.meshes.now → k.l < length (state s).levels
  level_there s below =
      let many : length (all_boxes (state s)) ≡ length (all_boxes (first_state states)) = ap length (same_boxes s below) in
      omega (arith, many, is.there, length-map (state s).levels (λ (j : defined.Level). j.boxes), length-map (first_state states).levels (λ (j : defined.Level). j.boxes))

  pub fine : k.l ≤ 4
  fine =
      let s = sound 0 is.plotted.some in
      omega (arith, level_there 0 is.plotted.some, s.few_levels, k.problem.now.limits.greatest_max_level)

  pub level_is : (s : ℕ) → s < length k.meshes.now → get_or (levels_in k) s defined.no_level ≡ defined.level_at (state s) k.l
  level_is s below = get_or-map (λ (t : defined.State). defined.level_at t k.l) states s no_state defined.no_level (omega (arith, below, count))

  pub level_sound : (s : ℕ) → s < length k.meshes.now → IsLevel k.problem.now k.l (get_or (levels_in k) s defined.no_level)
  level_sound s below =
      subst (λ (j : defined.Level). IsLevel k.problem.now k.l j) (sym (level_is s below)) ((sound s below).nested.each k.l (level_there s below))

  boxes_at : (t : defined.State) → k.l < length t.levels → (defined.level_at t k.l).boxes ≡ get_or (all_boxes t) k.l (defined.no_level).boxes
  boxes_at t below = sym (get_or-map (λ (j : defined.Level). j.boxes) t.levels k.l defined.no_level (defined.no_level).boxes below)

  pub level_boxes : (s : ℕ) → s < length k.meshes.now → (get_or (levels_in k) s defined.no_level).boxes ≡ layer_boxes k
  level_boxes s below =
      let first = is.plotted.some in
      let one = ap (λ (j : defined.Level). j.boxes) (level_is s below) ∙ boxes_at (state s) (level_there s below) in
      let two = ap (λ (j : defined.Level). j.boxes) (level_is 0 first) ∙ boxes_at (state 0) (level_there 0 first) in
      one ∙ ap (λ (bs : List (List Extent)). get_or bs k.l (defined.no_level).boxes) (same_boxes s below) ∙ sym two

  pub masses_are : (s : ℕ) → s < length k.meshes.now → get_or (layer_masses k) s defined.no_masses ≡ (get_or (levels_in k) s defined.no_level).masses
  masses_are s below =
      get_or-map (λ (j : defined.Level). j.masses) (levels_in k) s defined.no_level defined.no_masses
      (omega (arith, below, count, length-map states (λ (t : defined.State). defined.level_at t k.l)))

  -- each of the boxes lies in the domain
  pub each_box : All (IsLayerBox k) (layer_boxes k)
  each_box i d below =
      let sound_level = level_sound 0 is.plotted.some in
      let inside : (c : Cell) → holds (get_or (layer_boxes k) i no_box) c ≡ true → in_domain (domain k.problem.now k.l) c ≡ true =
      λ c held. sound_level.inside c (in_some (layer_boxes k) i c below held) in
      subst (λ (b : Extent). IsLayerBox k b) (get_or_default (layer_boxes k) i no_box d below) (record {
        near = (corners k.problem.now k.l _ fine (sound_level.proper i no_box below) inside).near;
        inside = inside;
        among = λ c held. in_some (layer_boxes k) i c below held;
      })

-- a box's cells are those of a level that has it
pub box_cells : (k : Layer) (b : Extent) (level : Level) → IsLayerBox k b → IsLevel k.problem.now k.l (level_of level) → (level_of level).boxes ≡ layer_boxes k → HasCellsOf level b
box_cells k b level of is same = record { at = λ c held. is.filled c ∙ ap (λ (bs : List Extent). in_boxes bs c) same ∙ of.among c held }
