-- What letters carry: cells of frames with their masses, and shares of totals. (A message is a list of typed entries: Message
-- Passing Interface Forum, MPI: A Message-Passing Interface Standard, version 4.1 (2023), chapter 3, point-to-point communication)
use Rattle.std.specs.Prelude.{ℕ, ◌+◌, ◌*◌, ◌^◌, ◌==◌, ◌&&◌, Bool, true, false, if◌then◌else◌, List, [], ◌∷◌, Option, Some, None, nat_lt}
use Rattle.std.specs.List.{flat_map}
use Rattle.amr_ranks.specs.declared.item.Item.{Item}
use Rattle.amr_ranks.specs.declared.item.Item.TheVariants.{Cell, Share}
use Rattle.amr_ranks.specs.declared.item.FrameCell.{FrameCell}

-- the values of f, added up
abbrev pub total : {X : Type 0} → (X → ℕ) → List X → ℕ
total f [] = 0
total f (x ∷ xs) = f x + total f xs

-- how often the number stands in the list
abbrev pub times : ℕ → List ℕ → ℕ
times n ms = total (λ m. if m == n then 1 else 0) ms

-- the cell that an item is, if it is one
abbrev pub cell_of : Item → List FrameCell
cell_of (Cell p s m) = record { patch = p; slot = s; mass = m } ∷ []
cell_of (Share w a) = []

-- the cells among the items, in order
abbrev pub cells_in : List Item → List FrameCell
cells_in items = flat_map cell_of items

-- what an item adds to the total of a word
abbrev pub amount_of : ℕ → Item → ℕ
amount_of word (Cell p s m) = 0
amount_of word (Share w a) = if w == word then a else 0

-- what the items add to the total of a word
abbrev pub share_in : ℕ → List Item → ℕ
share_in word items = total (amount_of word) items

abbrev pub no_item : Item
no_item = Cell 0 0 0

abbrev pub is_share : Item → Bool
is_share (Cell p s m) = false
is_share (Share w a) = true

-- a share with another amount
abbrev pub with_amount : Item → ℕ → Item
with_amount (Cell p s m) amount = Cell p s m
with_amount (Share w a) amount = Share w amount

-- the item is no share of a word beyond the first so many
abbrev pub has_word : ℕ → Item → Bool
has_word words (Cell p s m) = true
has_word words (Share w a) = nat_lt w words

-- the cell is at this slot of this patch
abbrev pub is_at : ℕ → ℕ → FrameCell → Bool
is_at patch slot c = (c.patch == patch) && (c.slot == slot)

-- how many of the cells are at this slot of this patch
abbrev pub count_at : ℕ → ℕ → List FrameCell → ℕ
count_at patch slot cells = total (λ (c : FrameCell). if is_at patch slot c then 1 else 0) cells

-- the mass of the first cell at this slot of this patch, if there is one
abbrev pub mass_at : ℕ → ℕ → List FrameCell → Option ℕ
mass_at patch slot [] = None
mass_at patch slot (c ∷ cells) = if is_at patch slot c then Some c.mass else mass_at patch slot cells

-- the place of a cell in the order by patches, then by slots
abbrev pub place_of : FrameCell → ℕ
place_of c = c.patch * 2 ^ 32 + c.slot
