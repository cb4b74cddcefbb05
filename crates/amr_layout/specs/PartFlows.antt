-- The flows of a run of patches, to places in a list of the words that they go to.
use Rattle.std.specs.Prelude.{◌≡◌, ℕ, ◌+◌, ◌-◌, ◌<◌, ◌≤◌, nat_lt, List, ◌++◌, length, slice_index}
use Rattle.std.specs.List.{All, AllZip, count_by}
use Rattle.amr_layout.specs.declared.FlowTo.{FlowTo}

-- a flow to a word of the level became one through the same face to a place of these words where that word stands
pub record IsNumbered (words : List ℕ) (a b : FlowTo) : Type 0 where
  pub face : b.face ≡ a.face
  pub there : b.word < length words
  pub word : slice_index words b.word ≡ a.word

-- the same of each flow of each list
abbrev pub AreNumbered : List ℕ → List (List FlowTo) → List (List FlowTo) → Type 0
AreNumbered words originals locals = AllZip (AllZip (IsNumbered words)) originals locals

-- flows came behind a list, numbered by these words
pub record AppendsNumbered (words : List ℕ) (flows old new : List FlowTo) : Type 0 where
  pub more : List FlowTo
  pub items : new ≡ old ++ more
  pub numbered : AllZip (IsNumbered words) flows more

-- no number stands twice in a list
abbrev pub AreOnce : List ℕ → Type 0
AreOnce ws = (i j : ℕ) → i < length ws → j < length ws → slice_index ws i ≡ slice_index ws j → i ≡ j

-- a list with more at its end
pub record IsLonger (xs ys : List ℕ) : Type 0 where
  pub count : length xs ≤ length ys
  pub same : (k : ℕ) → k < length xs → slice_index ys k ≡ slice_index xs k

-- numbers, one for each word of a level: 0 where a word is not in this list, else its place there, from 1 on
pub record AreNumbersOf (words numbers : List ℕ) : Type 0 where
  pub count : length words ≡ count_by (nat_lt 0) numbers
  pub below : All (λ w. w < length numbers) words
  pub within : (w : ℕ) → slice_index numbers w ≤ length words
  pub at : (k : ℕ) → k < length words → slice_index numbers (slice_index words k) ≡ k + 1
  pub places : (w : ℕ) → 0 < slice_index numbers w → slice_index words (slice_index numbers w - 1) ≡ w
