-- Posts and deliveries as a machine: which letters are sent, and which each rank has taken. (A message is received only after it
-- was sent: Lamport, L., Time, Clocks, and the Ordering of Events in a Distributed System, Communications of the ACM 21 (1978))
use Rattle.std.specs.Prelude.{ℕ, ◌≡◌, ◌≤◌, ◌==◌, ◌&&◌, Bool, true, false, if◌then◌else◌, List, [], ◌∷◌, ◌++◌, length, map}
use Rattle.std.specs.Prelude.{replicate, slice_index_or, slice_set, nat_lt, Option, Some, None, MatchOption, unwrap_or}
use Rattle.std.specs.List.{range_with_len}
use Rattle.amr_ranks.specs.declared.net.NetEvent.{NetEvent}
use Rattle.amr_ranks.specs.declared.net.NetEvent.TheVariants.{Post, Deliver}
use Rattle.amr_ranks.specs.Items.{times}
use Rattle.amr_ranks.specs.Letters.{LetterOf, IsNet, no_letter, letter_at, numbers_to, cells_of, shares_of}
use Rattle.amr_ranks.specs.Nodes.{NodeOf, is_in}

-- A state: the letters, how many words and cells each rank has, which letters are sent, and for each rank the numbers of the
-- letters that it has taken, in that order
pub record NetOf : Type 0 where
  pub letters : List LetterOf
  pub words : ℕ
  pub room : ℕ
  pub posted : List Bool
  pub taken : List (List ℕ)

-- the start: no letter is sent
abbrev pub fresh : List LetterOf → ℕ → ℕ → ℕ → NetOf
fresh ls ranks words room = record { letters = ls; words = words; room = room; posted = replicate (length ls) false; taken = replicate ranks [] }

abbrev pub taken_by : NetOf → ℕ → List ℕ
taken_by c rank = slice_index_or c.taken rank []

abbrev pub is_posted : NetOf → ℕ → Bool
is_posted c k = slice_index_or c.posted k false

-- the letter to this rank with this number
abbrev pub letter_with : ℕ → List LetterOf → ℕ → LetterOf
letter_with rank [] n = no_letter
letter_with rank (l ∷ ls) n = if (l.to == rank) && (l.number == n) then l else letter_with rank ls n

-- the letters that a rank has taken, in that order
abbrev pub letters_taken : NetOf → ℕ → List LetterOf
letters_taken c rank = map (letter_with rank c.letters) (taken_by c rank)

-- what a rank has: the cells of the letters that it has taken, and for each word the sum of their shares
abbrev pub node_of : NetOf → ℕ → NodeOf
node_of c rank =
    record {
      rank = rank;
      numbers = numbers_to rank c.letters;
      room = c.room;
      taken = taken_by c rank;
      cells = cells_of (letters_taken c rank);
      totals = map (λ w. shares_of w (letters_taken c rank)) (range_with_len 0 c.words);
    }

-- the letter is taken by its rank, unless its number was taken before
abbrev pub with_taken : NetOf → LetterOf → NetOf
with_taken c l = if is_in l.number (taken_by c l.to) then c else record c { taken = slice_set c.taken l.to (taken_by c l.to ++ l.number ∷ []) }

-- a letter is sent once
abbrev pub after_post : NetOf → ℕ → Option NetOf
after_post c k = if nat_lt k (length c.letters) then (if is_posted c k then None else Some (record c { posted = slice_set c.posted k true })) else None

-- a letter that was sent comes, as often as it may
abbrev pub after_deliver : NetOf → ℕ → Option NetOf
after_deliver c k = if nat_lt k (length c.letters) then (if is_posted c k then Some (with_taken c (letter_at c.letters k)) else None) else None

-- the state after an event, where the event is enabled
abbrev pub next_of : NetOf → NetEvent → Option NetOf
next_of c (Post k) = after_post c k
next_of c (Deliver k) = after_deliver c k

-- true and the state to come, where there is one; else false, and nothing changes
abbrev pub Moves : Option NetOf → NetOf → Bool → NetOf → Type 0
Moves to c done d = MatchOption to ((done ≡ false) × (d ≡ c)) (λ n. (done ≡ true) × (d ≡ n))

-- whether the event was enabled, and the state that it leaves
abbrev pub Steps : NetOf → NetEvent → Bool → NetOf → Type 0
Steps c e done d = Moves (next_of c e) c done d

-- after a list of events, enabled or not
abbrev pub after : NetOf → List NetEvent → NetOf
after c [] = c
after c (e ∷ es) = after (unwrap_or (next_of c e) c) es

-- what holds of every state: the letters are a net's, and each rank has taken only numbers of its own, each once
pub record IsConsistent (c : NetOf) : Type 0 where
  pub net : IsNet c.letters (length c.taken) c.words c.room
  pub posts : length c.posted ≡ length c.letters
  pub once : (rank n : ℕ) → times n (taken_by c rank) ≤ times n (numbers_to rank c.letters)

-- the nodes have what the state says
pub record IsHeld (c : NetOf) (nodes : List NodeOf) : Type 0 where
  pub consistent : IsConsistent c
  pub all : nodes ≡ map (node_of c) (range_with_len 0 (length c.taken))
