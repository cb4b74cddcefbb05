use Rattle.std.proofs.Common.{◌≡◌, ◌+◌, ◌*◌, length}
use Rattle.amr_tags.specs.Grown.{AreBits, widened}
use Rattle.amr_tags.proofs.grow.widen.Given as goal

abbrev pub invariant-loop-k : goal.invariant-loop-k
invariant-loop-k l = AreBits l.per_row l.out.items (widened l.wrap l.width l.per_row l.words) (l.j * l.per_row + l.k) × (length l.out.items ≡ length l.words)

abbrev pub invariant-loop-j : goal.invariant-loop-j
invariant-loop-j l = AreBits l.per_row l.out.items (widened l.wrap l.width l.per_row l.words) (l.j * l.per_row) × (length l.out.items ≡ length l.words)
