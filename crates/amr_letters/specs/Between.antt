-- The letters before a step: what each rank tells each rank, itself too. (One message from each to each: the communication lists of
-- Rendleman, C. and others, Parallelization of structured, hierarchical adaptive mesh refinement algorithms, Computing and
-- Visualization in Science 3 (2000))
use Rattle.std.specs.Prelude.{◌≡◌, ℕ, ◌+◌, ◌*◌, ◌^◌, ◌<◌, ◌==◌, cond, Bool, false, List, [], ◌∷◌, length, map, slice_index}
use Rattle.std.specs.declared.option.Option.{Option}
use Rattle.std.specs.declared.option.Option.TheVariants.{None, Some}
use Rattle.std.specs.List.{All, flat_map, range_with_len}
use Rattle.amr_ranks.specs.declared.item.Item.{Item}
use Rattle.amr_ranks.specs.declared.item.Item.TheVariants.{Cell, Share}
use Rattle.amr_ranks.specs.declared.item.FrameCell.{FrameCell}
use Rattle.amr_ranks.specs.Items.{mass_at}
use Rattle.amr_ranks.specs.Letters.{LetterOf}
use Rattle.amr_ranks.specs.Nodes.{NodeOf}
use Rattle.amr_letters.specs.Beside.{beside_count}
use Rattle.amr_letters.specs.Sources.{Sharing, box_at, ghost_at, source, value_of}

-- whether it is this rank
abbrev pub is_rank : ℕ → Option ℕ → Bool
is_rank from None = false
is_rank from (Some rank) = rank == from

-- the ghost cell at a slot of a patch, with its value
abbrev pub frame_cell : Sharing → ℕ → ℕ → FrameCell
frame_cell s k slot = record { patch = k; slot = slot; mass = value_of s (ghost_at s k slot) }

-- what a rank tells of a slot of a patch: the cell there, if its value comes from that rank
abbrev pub told_at : Sharing → ℕ → ℕ → ℕ → List FrameCell
told_at s from k slot = cond (is_rank from (source s (ghost_at s k slot))) (frame_cell s k slot ∷ []) []

-- what it tells of the frame of a patch, slot by slot
abbrev pub told_of : Sharing → ℕ → ℕ → List FrameCell
told_of s from k = flat_map (told_at s from k) (range_with_len 0 (beside_count (box_at s k)))

-- what it tells a rank of the frame of a patch, if that rank owns the patch
abbrev pub told_to : Sharing → ℕ → ℕ → ℕ → List FrameCell
told_to s from to k = cond (slice_index s.owners k == to) (told_of s from k) []

-- what it tells a rank, patch by patch
abbrev pub between : Sharing → ℕ → ℕ → List FrameCell
between s from to = flat_map (told_to s from to) (range_with_len 0 (length s.patches))

abbrev pub item_of : FrameCell → Item
item_of c = Cell c.patch c.slot c.mass

-- the letter from one of so many ranks to another
abbrev pub letter_between : Sharing → ℕ → ℕ → ℕ → LetterOf
letter_between s ranks to from = record { number = from * ranks + to; to = to; items = map item_of (between s from to) }

-- the letters to a rank, one from each
abbrev pub letters_for : Sharing → ℕ → ℕ → List LetterOf
letters_for s ranks to = map (letter_between s ranks to) (range_with_len 0 ranks)

-- a node has the value of each ghost cell of this rank's patches that comes from a rank, and of no other cell
pub record KnowsSources (s : Sharing) (rank : ℕ) (n : NodeOf) : Type 0 where
  pub told : (k slot from : ℕ) → k < length s.patches → slice_index s.owners k ≡ rank → slot < beside_count (box_at s k)
      → source s (ghost_at s k slot) ≡ Some from → mass_at k slot n.cells ≡ Some (value_of s (ghost_at s k slot))
  pub untold : (k slot : ℕ) → source s (ghost_at s k slot) ≡ None → mass_at k slot n.cells ≡ None

-- a mass that an item tells fits 32 bits
abbrev pub IsSmallItem : Item → Type 0
IsSmallItem (Cell patch slot mass) = mass < 2 ^ 32
IsSmallItem (Share word amount) = Unit {0}

abbrev pub AreSmallItems : List Item → Type 0
AreSmallItems items = All IsSmallItem items
