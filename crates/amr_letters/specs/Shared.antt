-- What calls take of levels that are shared out, and the items that are told of them.
use Rattle.std.specs.Prelude.{◌≡◌, ℕ, ◌<◌, ◌++◌, List, length, map, slice_index_or}
use Rattle.std.specs.Global.{Vec}
use Rattle.std.specs.List.{All}
use Rattle.amr_ranks.specs.declared.item.Item.{Item}
use Rattle.amr_ranks.specs.declared.item.FrameCell.{FrameCell}
use Rattle.amr_ranks.specs.Letters.{LetterOf}
use Rattle.amr_post.specs.declared.ranks.Rank.{Rank}
use Rattle.amr_post.specs.Letters.{AreSame, MayDeliver, letters_in}
use Rattle.amr_letters.specs.declared.levels.Shared.{Shared}
use Rattle.amr_letters.specs.Sources.{Sharing}
use Rattle.amr_letters.specs.Told.{HasPatchMasses}
use Rattle.amr_letters.specs.Between.{AreSmallItems, KnowsSources, between, item_of, letters_for}

-- the same, as the definitions take it
abbrev pub sharing : Shared → Sharing
sharing s =
    record {
      problem = s.problem.now;
      level = s.level;
      patches = s.own.patches.now;
      owners = s.own.owners.now;
      coarser = s.coarser.patches.now;
      coarser_owners = s.coarser.owners.now;
    }

-- each list tells masses that fit 32 bits
abbrev pub AreSmallLists : List (Vec Item) → Type 0
AreSmallLists lists = All (λ v. AreSmallItems v.items) lists

-- to the list of each rank are added the items of the cells that it tells
pub record AreAdded (cells : ℕ → List FrameCell) (old new : List (Vec Item)) : Type 0 where
  pub counted : length new ≡ length old
  pub added : (from : ℕ) (v : Vec Item) → from < length old → (slice_index_or new from v).items ≡ (slice_index_or old from v).items ++ map item_of (cells from)
  pub small : AreSmallLists old → AreSmallLists new

-- a list for each rank, of what it tells this one
pub record AreItemsFor (s : Sharing) (ranks to : ℕ) (lists : List (Vec Item)) : Type 0 where
  pub counted : length lists ≡ ranks
  pub told : (from : ℕ) (v : Vec Item) → from < ranks → (slice_index_or lists from v).items ≡ map item_of (between s from to)
  pub small : AreSmallLists lists

-- the letters tell masses that fit 32 bits
abbrev pub AreSmallLetters : List LetterOf → Type 0
AreSmallLetters ls = All (λ (l : LetterOf). AreSmallItems l.items) ls

-- a rank waits for the letters to it
pub record IsRankFor (s : Sharing) (ranks to : ℕ) (r : Rank) : Type 0 where
  pub ready : MayDeliver r.post r.node
  pub letters : AreSame (letters_in r.post.parcels.items) (letters_for s ranks to)
  pub small : AreSmallLetters (letters_for s ranks to)

-- so many ranks, each waiting for the letters to it
pub record AreRanksFor (s : Sharing) (ranks : ℕ) (rs : List Rank) : Type 0 where
  pub counted : length rs ≡ ranks
  pub at : (k : ℕ) (r : Rank) → k < ranks → IsRankFor s ranks k (slice_index_or rs k r)

-- the node of each of so many ranks has the values of the ghost cells of its patches
pub record KnowFrames (s : Sharing) (ranks : ℕ) (rs : List Rank) : Type 0 where
  pub counted : length rs ≡ ranks
  pub at : (k : ℕ) (r : Rank) → k < ranks → KnowsSources s k (slice_index_or rs k r).node
  pub small : All (λ (r : Rank). HasPatchMasses r.node) rs
