-- Letters on their way to one rank, and what its node has of them.
use Rattle.std.specs.Prelude.{◌≡◌, true, ℕ, ◌+◌, ◌-◌, ◌^◌, ◌<◌, ◌≤◌, ◌++◌, IsTrue, List, [], length, map, option_to_list}
use Rattle.std.specs.List.{All, flat_map, range_with_len}
use Rattle.crossbeam_channel.specs.Claims.{view, IsSeatAt}
use Rattle.crossbeam_channel.specs.Ends.{receives_on, ruled_capacity, sends_on}
use Rattle.amr_ranks.specs.declared.item.Item.{Item}
use Rattle.amr_ranks.specs.Items.{total, times, has_word, count_at}
use Rattle.amr_ranks.specs.Letters.{LetterOf, numbers_of, cells_of, shares_of}
use Rattle.amr_ranks.specs.Laws.{HasJust}
use Rattle.amr_ranks.specs.Nodes.{NodeOf, fresh_node, is_ready}
use Rattle.amr_post.specs.declared.post.Parcel.{Parcel}
use Rattle.amr_post.specs.declared.post.RankChannel.{RankChannel}
use Rattle.amr_post.specs.Rounds.{hand, rooms}

-- the same letters, in whatever order: they weigh the same, however they are weighed
abbrev pub AreSame : List LetterOf → List LetterOf → Type 0
AreSame xs ys = (weight : LetterOf → ℕ) → total weight xs ≡ total weight ys

-- ---- on their way

-- the letter of a parcel: it is still there, or its end has sent it
abbrev pub letter_of : Parcel → List LetterOf
letter_of q = option_to_list q.letter ++ (view q.pass).sent

abbrev pub letters_in : List Parcel → List LetterOf
letters_in ps = flat_map letter_of ps

-- an end with one room, for one letter
pub record IsParcel (q : Parcel) : Type 0 where
  pub one : length (letter_of q) ≡ 1
  pub room : rooms (view q.pass) ≡ 1
  pub none_got : (view q.pass).got ≡ []

-- the ends are a channel's, and nothing but the parcels' letters was sent
pub record IsRankChannel (p : RankChannel) : Type 0 where
  pub capacity : ruled_capacity (sends_on p.outlet) ≡ 9
  pub channel : receives_on p.inlet ≡ sends_on p.outlet
  pub seat : IsSeatAt (sends_on p.outlet) p.pass
  pub seats : All (λ (q : Parcel). IsSeatAt (sends_on p.outlet) q.pass) p.parcels.items
  pub parcels : All IsParcel p.parcels.items
  pub few : length p.parcels.items ≤ 8
  pub unused : view p.pass ≡ hand (9 - length p.parcels.items) [] []

-- ---- at their node

-- what a node has that took these letters, in this order, and no others
abbrev pub having : NodeOf → List LetterOf → NodeOf
having n ls = record n { taken = numbers_of ls; cells = cells_of ls; totals = map (λ w. shares_of w ls) (range_with_len 0 (length n.totals)) }

-- a node that has taken no letter, and is for just these
pub record Expects (n : NodeOf) (ls : List LetterOf) : Type 0 where
  pub fresh : n ≡ fresh_node n.rank n.numbers (length n.totals) n.room
  pub numbers : (k : ℕ) → times k n.numbers ≡ times k (numbers_of ls)
  pub to_it : All (λ (l : LetterOf). l.to ≡ n.rank) ls
  pub words_fit : All (λ (l : LetterOf). All (λ (i : Item). IsTrue (has_word (length n.totals) i)) l.items) ls
  pub once : (k : ℕ) → times k (numbers_of ls) ≤ 1
  pub cells_once : (patch slot : ℕ) → count_at patch slot (cells_of ls) ≤ 1
  pub totals_fit : (word : ℕ) → shares_of word ls < 2 ^ 63
  pub cells_fit : length (cells_of ls) ≤ n.room

-- a node has these letters but those that are under way: in the parcels, or sent by an end and not got by it
pub record IsUnderWay (first : NodeOf) (all rest sent got : List LetterOf) (n : NodeOf) : Type 0 where
  pub taken : List LetterOf
  pub has : n ≡ having first taken
  pub letters : (weight : LetterOf → ℕ) → total weight taken + total weight sent + total weight rest ≡ total weight got + total weight all

-- the letters of a post may go to this node
pub record MayDeliver (p : RankChannel) (n : NodeOf) : Type 0 where
  pub post : IsRankChannel p
  pub letters : List LetterOf
  pub same : AreSame (letters_in p.parcels.items) letters
  pub expects : Expects n letters

-- but for what it has taken it is the same node
pub record IsSameNode (old new : NodeOf) : Type 0 where
  pub rank : new.rank ≡ old.rank
  pub numbers : new.numbers ≡ old.numbers
  pub room : new.room ≡ old.room
  pub words : length new.totals ≡ length old.totals

-- they went: it has just these, all of them
pub record HasDelivered (p : RankChannel) (old new : NodeOf) : Type 0 where
  pub stays : IsSameNode old new
  pub ready : is_ready new ≡ true
  pub just : (letters : List LetterOf) → AreSame (letters_in p.parcels.items) letters → HasJust new (length old.totals) letters
