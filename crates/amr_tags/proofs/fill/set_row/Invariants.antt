use Rattle.std.proofs.Common.{◌≡◌, ℕ, ◌/◌, ◌<◌, ◌||◌, length}
use Rattle.amr_tags.specs.Bits.{bit_of}
use Rattle.amr_tags.proofs.Fills.{up_to_word}
use Rattle.amr_tags.proofs.fill.set_row.Given as goal

abbrev pub invariant-loop-w : goal.invariant-loop-w
invariant-loop-w l = ((i r : ℕ) → i / 64 < l.per_row → bit_of l.per_row l.words.items i r ≡ (bit_of l.per_row l.initial.words.items i r || up_to_word l.j l.from l.to l.w i r)) × (length l.words.items ≡ length l.initial.words.items)
