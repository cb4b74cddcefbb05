-- The layout of a level whose patches stand in groups, by counts: who puts each border face, and which flows are added to which word.
use Rattle.std.specs.Prelude.{◌≡◌, ℕ, ◌==◌, ◌<◌, Bool, false, ◌&&◌, cond, length, slice_index_or, IsTrue}
use Rattle.std.specs.List.{All}
use Rattle.amr_box.specs.declared.Face.{Face}
use Rattle.amr_box.specs.Cells.{Extent, holds}
use Rattle.amr_def.specs.Domain.{home_cell}
use Rattle.amr_def.specs.Flux.{high_cell}
use Rattle.amr_def.specs.Ledger.{sum_to}
use Rattle.amr_patch.specs.declared.patches.Patch.{Patch}
use Rattle.amr_patch.specs.Patches.{ArePatchesApart, box, in_patches}
use Rattle.amr_phase.specs.Plans.{total}
use Rattle.amr_layout.specs.declared.PutAt.{PutAt}
use Rattle.amr_layout.specs.Adds.{flows_of, goes_on, word_of, word_total}
use Rattle.amr_layout.specs.Arounds.{all_borders}
use Rattle.amr_layout.specs.Places.{are_grouped, borders_of, holder_of, home_face, puts_of}
use Rattle.amr_layout.specs.Surroundings.{Around, domain_around, edge_count, edge_face}

-- how often the patches of a level put at a place
abbrev pub puts_at : Around → ℕ → ℕ → ℕ
puts_at s each place = total (λ (q : Patch). total (λ (u : PutAt). cond (u.place == place) 1 0) (puts_of (domain_around s) s.patches each (box q))) s.patches

-- whether the flow through a face on the edges of a box goes to this word
unfoldable pub goes_to : Around → Extent → ℕ → Face → Bool
goes_to s b word f = goes_on s b f && (word_of s b f == word)

-- a put is of the face that the border face of its place stands for, and its patch owns that: it has the cell at the high side
pub record IsOwnPut (s : Around) (each : ℕ) (q : Patch) (u : PutAt) : Type 0 where
  pub owner : IsTrue (holds (box q) (high_cell u.face))
  pub there : u.place < length (all_borders s each)
  pub of_border : (f : Face) → u.face ≡ home_face (domain_around s) (slice_index_or (all_borders s each) u.place f)

-- a border face of a patch's box lies beside a cell of the level that no patch of its group has
pub record IsBetweenGroups (s : Around) (each : ℕ) (b : Extent) (f : Face) : Type 0 where
  pub of_level : IsTrue (in_patches s.patches (home_cell (domain_around s) (high_cell f)))
  pub of_other : are_grouped each (holder_of s.patches b.lo) (holder_of s.patches (home_cell (domain_around s) (high_cell f))) ≡ false

pub record IsExact (s : Around) (each : ℕ) : Type 0 where
  -- border faces lie between groups
  pub between : (b : Extent) → All (IsBetweenGroups s each b) (borders_of (domain_around s) s.patches each b)
  -- each border face is put once, by the patch that owns it
  pub put_once : (place : ℕ) → place < length (all_borders s each) → puts_at s each place ≡ 1
  pub put_by_owner : (q : Patch) → All (IsOwnPut s each q) (puts_of (domain_around s) s.patches each (box q))
  -- what a patch adds to a word is what flows through the faces on its edges whose flows go there, each counted once, whatever flows
  pub added_once : (q : Patch) (flow : Face → ℕ) (word : ℕ)
      → word_total flow word (flows_of s (box q))
      ≡ sum_to (λ n. cond (goes_to s (box q) word (edge_face (box q) n)) (flow (edge_face (box q) n)) 0) (edge_count (box q))

-- the layout of patches with no cell in common is exact, in groups of any size
abbrev pub LayoutsAreExact : Type 0
LayoutsAreExact = (s : Around) (each : ℕ) → ArePatchesApart s.patches → IsExact s each
