use Rattle.std.proofs.Common.{◌≡◌, ℕ, ◌/◌, ◌<◌, ◌||◌, length}
use Rattle.amr_tags.specs.Bits.{bit_of}
use Rattle.amr_tags.proofs.Fills.{up_to_row}
use Rattle.amr_tags.proofs.fill.set_rows.Given as goal

abbrev pub invariant-loop-j : goal.invariant-loop-j
invariant-loop-j l = ((i r : ℕ) → i / 64 < l.per_row → bit_of l.per_row l.words.items i r ≡ (bit_of l.per_row l.initial.words.items i r || up_to_row l.from l.to l.first l.j i r)) × (length l.words.items ≡ length l.initial.words.items)
