-- The meshes of a plot, one by one.
use Rattle.std.proofs.Common.{◌≡◌, ℕ, ◌+◌, ◌<◌, ◌≤◌, List, length, get_or, map, Some, sym, ap, ◌∙◌, arith}
use Rattle.std.specs.Prelude.{slice_get}
use Rattle.std.proofs.lemmas.List.{get_or-map, length-map}
use Rattle.std.proofs.lemmas.Option.{get_or_from_slice_get}
use Rattle.amr_def.specs.declared.problem.Problem.{Problem}
use Rattle.amr_def.specs.declared.problem.Row.{Row}
use Rattle.amr_def.specs.Facts.{no_row, row_at}
use Rattle.amr_def.specs.Species.{first_state, no_state}
use Rattle.amr_def.specs.State.{State}
use Rattle.amr_patch.specs.declared.meshes.Mesh.{Mesh}
use Rattle.amr_patch.specs.Meshes.{state_of}
use Rattle.amr_plot.specs.Layers.{ArePlotted}

-- a mesh at its place has the state there
pub mesh_at : (ms : List Mesh) (i : ℕ) (m : Mesh) → i < length ms → m ≡ get_or ms i m → state_of m ≡ get_or (map state_of ms) i no_state
mesh_at ms i m below is = ap state_of is ∙ sym (get_or-map state_of ms i m no_state below)

pub mesh_here : (ms : List Mesh) (i : ℕ) (d : Mesh) → i < length ms → state_of (get_or ms i d) ≡ get_or (map state_of ms) i no_state
mesh_here ms i d below = sym (get_or-map state_of ms i d no_state below)

-- the state of species 0 has a row for each step up to its own, and few of them
pub first_rows : (p : Problem) (ms : List Mesh) → ArePlotted p ms
    → (length (first_state (map state_of ms)).rows ≡ (first_state (map state_of ms)).step + 1) × ((first_state (map state_of ms)).step ≤ 4096)
first_rows p ms is =
    let sound = is.alike.sound 0 no_state (omega (arith, is.some, length-map ms state_of)) in
    (sound.telescoped.count, omega (arith, sound.within, p.limits.greatest_steps))

-- each state has as many
pub rows_alike : (p : Problem) (ms : List Mesh) (i : ℕ) → ArePlotted p ms → i < length ms → length (get_or (map state_of ms) i no_state).rows ≡ length (first_state (map state_of ms)).rows
rows_alike p ms i is below =
    let there : i < length (map state_of ms) = omega (arith, below, length-map ms state_of) in
    let one = (is.alike.sound i no_state there).telescoped.count in
    let step = is.alike.same_step i no_state there in
    let first = (first_rows p ms is).0 in
    omega (arith, one, step, first)

-- the row of a mesh
pub row_of : (ms : List Mesh) (i k : ℕ) (m : Mesh) (row : Row) → i < length ms → m ≡ get_or ms i m → slice_get (state_of m).rows k ≡ Some row
    → row ≡ get_or (map (λ s. row_at s k) (map state_of ms)) i no_row
row_of ms i k m row below is at =
    let there : i < length (map state_of ms) = omega (arith, below, length-map ms state_of) in
    sym (get_or_from_slice_get (state_of m).rows k row no_row at) ∙ ap (λ (s : State). row_at s k) (mesh_at ms i m below is)
    ∙ sym (get_or-map (λ (s : State). row_at s k) (map state_of ms) i no_state no_row there)
