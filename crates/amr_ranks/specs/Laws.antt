-- What holds after every list of posts and deliveries.
use Rattle.std.specs.Prelude.{ℕ, ◌+◌, ◌≡◌, ◌<◌, ◌≤◌, ◌==◌, ◌&&◌, ◌||◌, Bool, true, false, if◌then◌else◌, List, [], ◌∷◌, slice_index}
use Rattle.amr_ranks.specs.declared.net.NetEvent.{NetEvent}
use Rattle.amr_ranks.specs.declared.net.NetEvent.TheVariants.{Post, Deliver}
use Rattle.amr_ranks.specs.Items.{mass_at, times}
use Rattle.amr_ranks.specs.Letters.{LetterOf, IsNet, letters_to, numbers_of, cells_of, shares_of}
use Rattle.amr_ranks.specs.Nodes.{NodeOf, is_ready}
use Rattle.amr_ranks.specs.Nets.{fresh, after, node_of}

-- letter k comes in these events after it was sent, in them or before
abbrev pub comes : Bool → ℕ → List NetEvent → Bool
comes sent k [] = false
comes sent k (Post j ∷ es) = comes (sent || (j == k)) k es
comes sent k (Deliver j ∷ es) = (sent && (j == k)) || comes sent k es

-- letter k was delivered: a delivery of it stands behind a post of it
abbrev pub is_delivered : List NetEvent → ℕ → Bool
is_delivered es k = comes false k es

-- the letters to this rank that pass the test by their places, counted from i
abbrev pub chosen : (ℕ → Bool) → ℕ → ℕ → List LetterOf → List LetterOf
chosen test rank i [] = []
chosen test rank i (l ∷ ls) = if (l.to == rank) && test i then l ∷ chosen test rank (i + 1) ls else chosen test rank (i + 1) ls

-- the letters that were delivered to this rank, each once
abbrev pub delivered_to : ℕ → List LetterOf → List NetEvent → List LetterOf
delivered_to rank ls es = chosen (is_delivered es) rank 0 ls

-- the node has of these letters each number once, each cell with its mass and no other, and for each word the sum of their shares
pub record HasJust (n : NodeOf) (words : ℕ) (ls : List LetterOf) : Type 0 where
  pub numbers : (k : ℕ) → times k n.taken ≡ times k (numbers_of ls)
  pub once : (k : ℕ) → times k n.taken ≤ 1
  pub cells : (patch slot : ℕ) → mass_at patch slot n.cells ≡ mass_at patch slot (cells_of ls)
  pub totals : (word : ℕ) → word < words → slice_index n.totals word ≡ shares_of word ls

-- Delivered letters: after any events, enabled or not, in any order and as often as may be, a rank has just the letters that
-- were delivered to it
abbrev pub HasWhatCame : Type 0
HasWhatCame =
    (ls : List LetterOf) (ranks words room rank : ℕ) (es : List NetEvent) → IsNet ls ranks words room → rank < ranks
    → HasJust (node_of (after (fresh ls ranks words room) es) rank) words (delivered_to rank ls es)

-- A rank that is ready has just the letters to it, all of them
abbrev pub IsWholeWhenReady : Type 0
IsWholeWhenReady =
    (ls : List LetterOf) (ranks words room rank : ℕ) (es : List NetEvent) → IsNet ls ranks words room → rank < ranks
    → is_ready (node_of (after (fresh ls ranks words room) es) rank) ≡ true
    → HasJust (node_of (after (fresh ls ranks words room) es) rank) words (letters_to rank ls)
