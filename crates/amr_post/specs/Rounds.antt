-- One round of letters to one rank through a channel: what each end has sent and got. (Hoare, C., Communicating Sequential
-- Processes, Communications of the ACM 21 (1978): what was received of a channel is what was sent; the order is left open here)
use Rattle.std.specs.Prelude.{ℕ, ◌+◌, ◌≡◌, List, [], length}
use mathlib.Core.Option.{some}
use lib.ListN.{get_elem?}
use Rattle.amr_ranks.specs.Items.{total}
use Rattle.amr_ranks.specs.Letters.{LetterOf}
use Rattle.amr_post.specs.declared.channel.Hand.{Hand}

abbrev pub hand : ℕ → List LetterOf → List LetterOf → Hand
hand room sent got = record { room = room; sent = sent; got = got }

-- the rooms that an end had: those that it has left, and one for each letter that it sent
abbrev pub rooms : Hand → ℕ
rooms v = v.room + length v.sent

-- what an end that gets a letter has left to get
abbrev pub HasLeft : Hand → LetterOf → Type 0
HasLeft v x = (items : List LetterOf) × ((weight : LetterOf → ℕ) → total weight v.sent ≡ total weight v.got + (weight x + total weight items))

-- The rooms of all ends are those of the channel. What was sent is what was got and what the channel holds, however the letters
-- are weighed. An end that never had room got nothing
pub record Balanced (items : List LetterOf) (views : List Hand) : Type 0 where
  pub room : total rooms views ≡ 9
  pub letters : (weight : LetterOf → ℕ) → total (λ (v : Hand). total weight v.sent) views ≡ total (λ (v : Hand). total weight v.got) views + total weight items
  pub idle : (pass : ℕ) (v : Hand) → get_elem? views pass ≡ some v → rooms v ≡ 0 → v.got ≡ []
