-- What patches read at the places of their borders, and that they may make their step by it.
use Rattle.std.proofs.Common.{◌≡◌, ◌∙◌, ℕ, ◌+◌, ◌^◌, ◌<◌, ◌≤◌, true, List, length, get_or, take, drop, sym, ap, arith}
use Rattle.std.specs.Prelude.{pos, slice_index, unsigned_abs}
use Rattle.std.specs.List.{All}
use Rattle.std.proofs.lemmas.List.{get_or-drop, get_or-take, get_or_default, length-drop, length-take}
use Rattle.amr_box.specs.declared.Axis.TheVariants.{X}
use Rattle.amr_box.specs.declared.Face.{Face}
use Rattle.amr_def.specs.declared.problem.Problem.{Problem}
use Rattle.amr_def.specs.State.{Masses}
use Rattle.amr_def.specs.Flux.{face, flux_at}
use Rattle.amr_patch.specs.declared.patches.Patch.{Patch}
use Rattle.amr_patch.specs.Patches.{box}
use Rattle.amr_patch.specs.Places.{is_face_of}
use Rattle.amr_faces.specs.Faces.{flux_beside}
use Rattle.amr_faces.specs.Faces.{masked_faces}
use Rattle.amr_faces.proofs.MaskedPlaces.{masked_face_of_box}
use Rattle.amr_layout.specs.declared.PatchLayout.{PatchLayout}
use Rattle.amr_register.proofs.EdgeLists.{first_of}
use Rattle.amr_lots.specs.Ready.{MayUpdate}
use Rattle.amr_lots.specs.LotSteps.{AreSizesAt, AreSizesOf, IsReadable, ReadsSome, sizes_of}
use Rattle.amr_lots.specs.Works.{places_read}
use Rattle.amr_lots.proofs.Flat.{flat_all, flat_at, flat_within}
use Rattle.amr_lots.proofs.Showing.{size_at}
use Rattle.amr_faces.proofs.Small.{beside_small}

abbrev borders : PatchLayout → List ℕ
borders t = t.border.items

no_face : Face
no_face = face X (pos 0) (pos 0)

-- ---- one patch

module _ (p : Problem) (l columns : ℕ) (m old : Masses) (faces : ℕ → ℕ) (places : ℕ) (t : PatchLayout) (q : Patch) (may : MayUpdate p l columns m old faces places t q) where
  -- face j that its mask tells
  module _ (j : ℕ) (x : Face) (lt : j < length t.border.items) where
    of_box : is_face_of (box q) (get_or (masked_faces (box q) t.mask.items) j x) ≡ true
    of_box = masked_face_of_box (box q) t.mask.items j x (omega (arith, lt, may.border.count))

    pub size_here : unsigned_abs (flux_at p l m old (get_or (masked_faces (box q) t.mask.items) j x)) ≡ unsigned_abs (flux_beside p l q (get_or (masked_faces (box q) t.mask.items) j x))
    size_here = sym (size_at p l m old q may.shows (get_or (masked_faces (box q) t.mask.items) j x) of_box)

    size_small : unsigned_abs (flux_beside p l q (get_or (masked_faces (box q) t.mask.items) j x)) < 2 ^ 31
    size_small = beside_small p l q may.step.small (get_or (masked_faces (box q) t.mask.items) j x) of_box

  pub readable : All (IsReadable faces places) t.border.items
  readable j place lt =
      let at : faces (get_or t.border.items j place) ≡ faces (slice_index t.border.items j) = ap faces (get_or_default t.border.items j place 0 lt) in
      let is = may.border.sizes j no_face lt in
      let same = size_here j no_face lt in
      let small = size_small j no_face lt in
      record { there = may.border.within j place lt; put = omega (arith, at, is); small = omega (arith, at, is, same, small) }

-- ---- all patches

module _ (p : Problem) (l columns : ℕ) (m old : Masses) (faces : ℕ → ℕ) (places : ℕ) (ts : List PatchLayout) (qs : List Patch) (count : length ts ≡ length qs)
    (may : (k : ℕ) (q : Patch) (t : PatchLayout) → k < length qs → 0 < length (get_or ts k t).border.items → MayUpdate p l columns m old faces places (get_or ts k t) (get_or qs k q)) where
  first : (k : ℕ) → k < length qs → Patch
  first k lt = first_of qs k lt

  pub all_readable : All (IsReadable faces places) (places_read ts)
  all_readable = flat_all borders (IsReadable faces places) ts (λ k t lt j place below.
      let inside : k < length qs = omega (arith, lt, count) in
      readable p l columns m old faces places (get_or ts k t) (get_or qs k (first k inside)) (may k (first k inside) t inside (omega (arith, below))) j place below)

  -- sizes that were read
  module _ (sizes : List ℕ) (room : length (places_read ts) ≤ length sizes) (read : (i : ℕ) → i < length (places_read ts) → faces (slice_index (places_read ts) i) ≡ slice_index sizes i + 1) where
    pub all_sizes : AreSizesOf p l sizes ts qs
    all_sizes = record { room = room; read = λ k q t lt some. each k q t lt some }
      where
        each : (k : ℕ) (q : Patch) (t : PatchLayout) → k < length qs → ReadsSome (get_or ts k t) → AreSizesAt p l (sizes_of sizes ts k t) (get_or ts k t) (get_or qs k q)
        each k q t lt some =
            let u : MayUpdate p l columns m old faces places (get_or ts k t) (get_or qs k q) = may k q t lt some in
            let inside : k < length ts = omega (arith, lt, count) in
            let within : length (places_read (take k ts)) + length (get_or ts k t).border.items ≤ length (places_read ts) = flat_within borders ts k t inside in
            let many : length (sizes_of sizes ts k t) ≡ length (get_or ts k t).border.items =
            omega (arith, within, room, length-take (length (get_or ts k t).border.items) (drop (length (places_read (take k ts))) sizes), length-drop (length (places_read (take k ts))) sizes) in
            record {
              count = many ∙ u.border.count;
              are = λ j x lt_j.
                  let below : j < length (get_or ts k t).border.items = omega (arith, lt_j, many) in
                  let part : slice_index (sizes_of sizes ts k t) j ≡ slice_index sizes (length (places_read (take k ts)) + j) =
                  get_or-take (length (get_or ts k t).border.items) (drop (length (places_read (take k ts))) sizes) j 0 below ∙ get_or-drop (length (places_read (take k ts))) sizes j 0 in
                  let place : slice_index (places_read ts) (length (places_read (take k ts)) + j) ≡ slice_index (get_or ts k t).border.items j = flat_at borders ts k j t 0 inside below in
                  let here = read (length (places_read (take k ts)) + j) (omega (arith, below, within)) in
                  let is = u.border.sizes j x below in
                  let same = size_here p l columns m old faces places (get_or ts k t) (get_or qs k q) u j x below in
                  omega (arith, part, here, ap faces place, is, same);
            }
