-- What a patch holds: a value for each cell of its box (a mass) and of the frame round it (a ghost cell's value), a mark for
-- each cell of the frame, and a flux for each face on the edges of its box.
use Rattle.std.specs.Prelude.{◌≡◌, ◌≢◌, ℕ, ◌+◌, ◌<◌, Bool, false, cond, ℤ, pos, negsuc, ◌+ℤ◌, ◌<ℤ◌, List, [], ◌∷◌, slice_index, slice_index_or, IsTrue}
use Rattle.std.specs.declared.option.Option.TheVariants.{None, Some}
use Rattle.std.specs.List.{AllPairs, list_any}
use Rattle.std.specs.Ordering.{int_eq}
use Rattle.amr_box.specs.declared.Cell.{Cell}
use Rattle.amr_box.specs.declared.Face.{Face}
use Rattle.amr_box.specs.declared.Axis.{Axis}
use Rattle.amr_box.specs.declared.Axis.TheVariants.{X, Y}
use Rattle.amr_box.specs.Cells.{Extent, cell, holds, in_boxes, near_limit}
use Rattle.amr_def.specs.State.{Masses}
use Rattle.amr_patch.specs.declared.patches.Patch.{Patch}
use Rattle.amr_patch.specs.Places.{column_of, grown, in_frame, is_edge_face, place, row_of}

abbrev pub box : Patch → Extent
box p = p.bx

-- the value of a cell of the box or of the frame
unfoldable pub value_in : Patch → Cell → ℕ
value_in p c = slice_index p.data.value.values.items (place p.bx c)

-- of a cell of the box
abbrev pub mass_in : Patch → Cell → ℕ
mass_in p c = value_in p c

-- of a cell of the frame
abbrev pub ghost_in : Patch → Cell → ℕ
ghost_in p c = value_in p c

-- whether a cell of the frame is a cell of the level
unfoldable pub mark_in : Patch → Cell → Bool
mark_in p c = slice_index_or p.data.value.marks.items (place p.bx c) false

abbrev pub flux_along : Axis → Patch → Cell → ℤ
flux_along X p c =
    cond (int_eq c.x p.bx.lo.x) (slice_index_or p.data.value.x_low.items (row_of p.bx c) (pos 0))
    (slice_index_or p.data.value.x_high.items (row_of p.bx c) (pos 0))
flux_along Y p c =
    cond (int_eq c.y p.bx.lo.y) (slice_index_or p.data.value.y_low.items (column_of p.bx c) (pos 0))
    (slice_index_or p.data.value.y_high.items (column_of p.bx c) (pos 0))

-- the flux through a face on an edge of the box
unfoldable pub flux_in : Patch → Face → ℤ
flux_in p f = flux_along f.axis p (cell f.x f.y)

-- ---- what stays

abbrev pub SameValues : Patch → Patch → Type 0
SameValues p q = (c : Cell) → value_in q c ≡ value_in p c

abbrev pub SameMarks : Patch → Patch → Type 0
SameMarks p q = (c : Cell) → mark_in q c ≡ mark_in p c

abbrev pub SameFluxes : Patch → Patch → Type 0
SameFluxes p q = (f : Face) → flux_in q f ≡ flux_in p f

-- the values of all other cells of the box and of the frame
abbrev pub SameOtherValues : Cell → Patch → Patch → Type 0
SameOtherValues c p q = (d : Cell) → IsTrue (holds (grown (box p)) d) → d ≢ c → value_in q d ≡ value_in p d

abbrev pub SameOtherMarks : Cell → Patch → Patch → Type 0
SameOtherMarks c p q = (d : Cell) → IsTrue (holds (grown (box p)) d) → d ≢ c → mark_in q d ≡ mark_in p d

abbrev pub SameOtherFluxes : Face → Patch → Patch → Type 0
SameOtherFluxes f p q = (g : Face) → IsTrue (is_edge_face (box p) g) → g ≢ f → flux_in q g ≡ flux_in p g

-- the ghost cells
abbrev pub SameGhosts : Patch → Patch → Type 0
SameGhosts p q = (c : Cell) → IsTrue (in_frame (box p) c) → ghost_in q c ≡ ghost_in p c

-- a patch keeps all but its masses
pub record KeepsFrameAndFluxes (p q : Patch) : Type 0 where
  pub of_box : box q ≡ box p
  pub ghosts : SameGhosts p q
  pub marks : SameMarks p q
  pub fluxes : SameFluxes p q

-- all values but those of n cells of a row, from a cell on
abbrev pub SameBeside : Cell → ℕ → Patch → Patch → Type 0
SameBeside c n p q = (d : Cell) → IsTrue (holds (grown (box p)) d) → ((k : ℕ) → k < n → d ≢ cell (c.x +ℤ pos k) c.y) → value_in q d ≡ value_in p d

-- ---- patches made

-- nothing flows through the faces on the edges
abbrev pub HasNoFluxes : Patch → Type 0
HasNoFluxes p = (f : Face) → flux_in p f ≡ pos 0

-- no ghost cell is marked
abbrev pub HasNoMarks : Patch → Type 0
HasNoMarks p = (c : Cell) → mark_in p c ≡ false

-- the patch of a box, where each mass and each flux is 0
pub record IsBlank (b : Extent) (p : Patch) : Type 0 where
  pub of_box : box p ≡ b
  pub empty : (c : Cell) → mass_in p c ≡ 0
  pub marks : HasNoMarks p
  pub fluxes : HasNoFluxes p

-- a copy has all but the fluxes
pub record IsCopy (p q : Patch) : Type 0 where
  pub of_box : box q ≡ box p
  pub values : SameValues p q
  pub marks : SameMarks p q
  pub fluxes : HasNoFluxes q

-- ---- several patches

-- coordinates lie between -2^24 and 2^24
pub record IsNearCell (c : Cell) : Type 0 where
  pub west : negsuc near_limit <ℤ c.x
  pub east : c.x <ℤ pos (near_limit + 1)
  pub south : negsuc near_limit <ℤ c.y
  pub north : c.y <ℤ pos (near_limit + 1)

abbrev pub AreNear : List Extent → Type 0
AreNear bs = (c : Cell) → IsTrue (in_boxes bs c) → IsNearCell c

-- no cell is in two of the boxes
abbrev pub ArePairwiseApart : List Extent → Type 0
ArePairwiseApart bs = AllPairs (λ a b. (c : Cell) → IsTrue (holds a c) → IsTrue (holds b c) → ⊥) bs

-- no cell is in two of the patches
abbrev pub ArePatchesApart : List Patch → Type 0
ArePatchesApart ps = AllPairs (λ p q. (c : Cell) → IsTrue (holds (box p) c) → IsTrue (holds (box q) c) → ⊥) ps

-- whether a cell is in one of the patches
abbrev pub in_patches : List Patch → Cell → Bool
in_patches ps c = list_any (λ p. holds (box p) c) ps

-- the masses of their cells
abbrev pub masses_in : List Patch → Masses
masses_in [] c = None
masses_in (p ∷ ps) c = cond (holds (box p) c) (Some (mass_in p c)) (masses_in ps c)
