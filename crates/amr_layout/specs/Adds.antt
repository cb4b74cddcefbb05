-- The faces whose flows are added to words: those of open sides to the ledger's, those of coarse-fine edges to a register cell's.
use Rattle.std.specs.Prelude.{ℕ, ◌+◌, ◌-◌, ◌*◌, ◌<◌, ◌==◌, if◌then◌else◌, Bool, ◌&&◌, ◌||◌, not, cond, pos}
use Rattle.std.specs.Prelude.{int_lt, List, [], ◌∷◌, map, Contains, IsTrue}
use Rattle.std.specs.declared.option.Option.{Option}
use Rattle.std.specs.declared.option.Option.TheVariants.{None, Some}
use Rattle.std.specs.List.{All, AllPairs, position_or_len}
use Rattle.std.specs.Ordering.{int_eq}
use Rattle.amr_box.specs.declared.Cell.{Cell}
use Rattle.amr_box.specs.declared.Face.{Face}
use Rattle.amr_box.specs.Cells.{Extent, is_same_cell, parent}
use Rattle.amr_def.specs.Domain.{domain, home_cell, in_domain}
use Rattle.amr_def.specs.State.{is_covered}
use Rattle.amr_patch.specs.Patches.{box}
use Rattle.amr_patch.specs.Orders.{comes_first}
use Rattle.amr_faces.specs.Faces.{passing}
use Rattle.amr_phase.specs.Plans.{total}
use Rattle.amr_layout.specs.declared.FlowTo.{FlowTo}
use Rattle.amr_layout.specs.Surroundings.{Around, domain_around, edge_count, edge_face, inside, inward, is_coarse_fine, is_open, outside}

-- the flow through a face goes to a word
abbrev pub flow_to : ℕ → Face → FlowTo
flow_to w f = record { word = w; face = f }

-- where it goes to one
abbrev pub flow_to_any : Option ℕ → Face → List FlowTo
flow_to_any None f = []
flow_to_any (Some w) f = flow_to w f ∷ []

-- the size of a flow that goes to a word
abbrev pub size_to : (Face → ℕ) → ℕ → FlowTo → ℕ
size_to size word x = if x.word == word then size x.face else 0

-- what flows of these sizes add to a word
abbrev pub word_total : (Face → ℕ) → ℕ → List FlowTo → ℕ
word_total size word = total (size_to size word)

-- ---- where what flows through a face on the edges of a box goes, besides to cells

-- to the ledger where the face is one of an open side, beside a cell that isn't covered: what flows there beside a covered cell is
-- added by the finer level
unfoldable pub is_ledger_face : Around → Extent → Face → Bool
is_ledger_face s b f = is_open s b f && not (is_covered s.finer (inside b f))

-- to a register cell where it lies on the coarse-fine edge: to the cell of the next coarser level on its other side
unfoldable pub cell_beyond : Around → Extent → Face → Cell
cell_beyond s b f = parent (home_cell (domain_around s) (outside b f))

-- the number of a register cell
unfoldable pub number_of : List Cell → Cell → ℕ
number_of cells c = position_or_len (is_same_cell c) cells

-- whether mass flows through the face, to the ledger or to a register cell
unfoldable pub goes_on : Around → Extent → Face → Bool
goes_on s b f = (is_ledger_face s b f || is_coarse_fine s b f) && not (int_eq (inward s.problem s.level b f) (pos 0))

-- the word that it goes to: 0 is the ledger's inflow and 1 its outflow; register cell k has its gain at word 2 + 2k and its loss at
-- word 3 + 2k. What flows out of the box is the gain of the cell beyond.
unfoldable pub word_of : Around → Extent → Face → ℕ
word_of s b f =
    cond (is_open s b f) (cond (int_lt (pos 0) (inward s.problem s.level b f)) 0 1)
    (cond (int_lt (inward s.problem s.level b f) (pos 0)) (2 + 2 * number_of s.cells (cell_beyond s b f)) (3 + 2 * number_of s.cells (cell_beyond s b f)))

-- the flows of a box to words, through one face on its edges after another
unfoldable pub flows_of : Around → Extent → List FlowTo
flows_of s b = map (λ f. flow_to (word_of s b f) f) (passing (goes_on s b) (edge_face b) (edge_count b))

-- ---- the list of register cells

-- cells go by y, then by x, each once
abbrev pub AreInOrder : List Cell → Type 0
AreInOrder cells = AllPairs (λ a b. IsTrue (comes_first a b) × (IsTrue (is_same_cell a b) → ⊥)) cells

-- the list has each cell of the next coarser level that lies on the other side of a face of the coarse-fine edge
abbrev pub HasCellsBeyond : Around → Extent → Type 0
HasCellsBeyond s b = (n : ℕ) → n < edge_count b → IsTrue (is_coarse_fine s b (edge_face b n)) → Contains s.cells (cell_beyond s b (edge_face b n))

-- they are cells of the domain of that coarser level; level 0 has none
pub record HasRegisterCells (s : Around) : Type 0 where
  pub ordered : AreInOrder s.cells
  pub inside : All (λ c. IsTrue (in_domain (domain s.problem (s.level - 1)) c)) s.cells
  pub each : All (λ q. HasCellsBeyond s (box q)) s.patches
