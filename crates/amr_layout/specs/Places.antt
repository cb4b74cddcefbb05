-- The places of a level's border faces: in which order they are numbered, who puts them and who reads them.
use Rattle.std.specs.Prelude.{◌≡◌, ℕ, suc, ◌+◌, ◌-◌, ◌/◌, ◌<◌, ◌==◌, Bool, ◌&&◌, cond, not}
use Rattle.std.specs.Prelude.{List, [], ◌∷◌, ◌++◌, length, map, take, slice_index_or}
use Rattle.std.specs.Global.{Vec}
use Rattle.std.specs.List.{filter, flat_map, position_or_len, range_with_len}
use Rattle.amr_box.specs.declared.Cell.{Cell}
use Rattle.amr_box.specs.declared.Face.{Face}
use Rattle.amr_box.specs.Cells.{Extent, height, holds, width}
use Rattle.amr_def.specs.Domain.{Domain, home_cell}
use Rattle.amr_def.specs.Flux.{face, high_cell}
use Rattle.amr_patch.specs.declared.patches.Patch.{Patch}
use Rattle.amr_patch.specs.Gaps.{IsGap}
use Rattle.amr_patch.specs.Patches.{box, in_patches}
use Rattle.amr_faces.specs.Faces.{masked_faces, passing, x_end, y_end}
use Rattle.amr_layout.specs.declared.PatchLayout.{PatchLayout}
use Rattle.amr_layout.specs.declared.PutAt.{PutAt}
use Rattle.amr_layout.specs.declared.places.Places.{Places}
use Rattle.amr_layout.specs.declared.places.Reader.{Reader}

-- ---- groups: the patches of one task. Each has so many patches, one after another in the level's order; the last may have fewer.

-- the number of the patch that has a cell, as the patches stand; how many there are, where none has it
abbrev pub holder_of : List Patch → Cell → ℕ
holder_of ps c = position_or_len (λ q. holds (box q) c) ps

-- whether patches i and j are of one group
abbrev pub are_grouped : ℕ → ℕ → ℕ → Bool
are_grouped each i j = i / each == j / each

-- whether the cell on the high side of a face of patch i stands for one of the level, and not for one of a patch of its group: what flows
-- through such a face goes from task to task
unfoldable pub leads_on : Domain → List Patch → ℕ → ℕ → Face → Bool
leads_on d ps each i f = in_patches ps (home_cell d (high_cell f)) && not (are_grouped each i (holder_of ps (home_cell d (high_cell f))))

-- ---- border faces

-- the border faces of a patch's box, which the patch reads: the faces at its high side that lead on. The patch is the one that has the
-- box's cells. First the x faces by y, then the y faces by x, as `update_by` takes their fluxes.
unfoldable pub borders_of : Domain → List Patch → ℕ → Extent → List Face
borders_of d ps each b =
    passing (leads_on d ps each (holder_of ps b.lo)) (x_end b) (height b) ++ passing (leads_on d ps each (holder_of ps b.lo)) (y_end b) (width b)

-- the border faces of these patches of the level, patch by patch. Of all patches, the place of a border face is its place in
-- this list: so the places that a patch reads stand side by side.
unfoldable pub level_borders : Domain → List Patch → ℕ → List Patch → List Face
level_borders d ps each qs = flat_map (λ q. borders_of d ps each (box q)) qs

-- the face of the domain that a face stands for: the one at the low side of the cell that its high cell stands for
abbrev pub home_face : Domain → Face → Face
home_face d f = face f.axis (home_cell d (high_cell f)).x (home_cell d (high_cell f)).y

-- faces with the places from n on
abbrev pub placed : ℕ → List Face → List PutAt
placed n [] = []
placed n (f ∷ fs) = record { place = n; face = f } ∷ placed (suc n) fs

-- the puts of these border faces, numbered as they stand, that are a box's own: those of the faces at the low side of its cells
abbrev pub puts_among : Domain → Extent → List Face → List PutAt
puts_among d b fs = filter (λ x. holds b (high_cell x.face)) (placed 0 (map (home_face d) fs))

-- the puts of a patch's box: of all border faces of the level. So each is put by the patch that owns it.
unfoldable pub puts_of : Domain → List Patch → ℕ → Extent → List PutAt
puts_of d ps each b = puts_among d b (level_borders d ps each ps)

-- how many border faces the patches before patch i have
unfoldable pub places_before : Domain → List Patch → ℕ → ℕ → ℕ
places_before d ps each i = length (level_borders d ps each (take i ps))

-- the places of the border faces that patch i reads
unfoldable pub border_places : Domain → List Patch → ℕ → ℕ → List ℕ
border_places d ps each i = range_with_len (places_before d ps each i) (places_before d ps each (suc i) - places_before d ps each i)

-- the places that each patch reads
abbrev pub level_places : Domain → List Patch → ℕ → List (List ℕ)
level_places d ps each = map (border_places d ps each) (range_with_len 0 (length ps))

-- a patch has a mask that tells its border faces
abbrev pub HasMask : Domain → List Patch → ℕ → Patch → PatchLayout → Type 0
HasMask d ps each q t = masked_faces (box q) t.mask.items ≡ borders_of d ps each (box q)

-- ---- puts so far

-- the first border faces of a level have their places, and each patch has the puts that are its own
pub record ArePut (d : Domain) (ps : List Patch) (done : List Face) (count : ℕ) (lists : List (Vec PutAt)) : Type 0 where
  pub places : count ≡ length done
  pub list_count : length lists ≡ length ps
  pub each : (k : ℕ) (v : Vec PutAt) (q : Patch) → k < length ps → (slice_index_or lists k v).items ≡ puts_among d (box (slice_index_or ps k q)) done

-- no patch has a put yet
pub record AreEmptyLists (n : ℕ) (lists : List (Vec PutAt)) : Type 0 where
  pub count : length lists ≡ n
  pub empty : (k : ℕ) (v : Vec PutAt) → k < n → (slice_index_or lists k v).items ≡ []

-- a list of the face where the reader reads it, else none
abbrev pub if_read : Domain → List Patch → Reader → Face → List Face
if_read d ps r f = cond (leads_on d ps r.each r.patch f) (f ∷ []) []

-- each patch has a list of puts, and no patch has a cell of the gap that was found last
pub record ArePlacesOf (ps : List Patch) (a : Places) : Type 0 where
  pub lists : length a.lists.items ≡ length ps
  pub gap : IsGap ps a.near.gap

-- whichever border faces had their places, these have the next ones
pub record HaveGot (d : Domain) (ps : List Patch) (fs : List Face) (a b : Places) : Type 0 where
  pub count : b.count ≡ a.count + length fs
  pub places : ArePlacesOf ps b
  pub put : (done : List Face) → ArePut d ps done a.count a.lists.items → ArePut d ps (done ++ fs) b.count b.lists.items

-- all border faces have their places
abbrev pub HaveAllGot : Domain → List Patch → ℕ → Places → Type 0
HaveAllGot d ps each a = ArePut d ps (level_borders d ps each ps) a.count a.lists.items
