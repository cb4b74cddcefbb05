use Rattle.std.proofs.Common.{◌≡◌, ℕ, ◌<◌, ◌≤◌, length, get_or}
use Rattle.std.specs.Prelude.{bit_or}
use Rattle.amr_tags.proofs.join.join_words.Given as goal

abbrev pub invariant-loop-k : goal.invariant-loop-k
invariant-loop-k l =
    ((i : ℕ) → i < l.k → get_or l.words.items i 0 ≡ bit_or (get_or l.initial.words.items i 0) (get_or l.other i 0))
    × ((i : ℕ) → l.k ≤ i → get_or l.words.items i 0 ≡ get_or l.initial.words.items i 0)
    × (length l.words.items ≡ length l.initial.words.items)
