use Rattle.std.proofs.Common.{◌≡◌, ◌+◌, ◌*◌, length}
use Rattle.amr_tags.specs.Grown.{AreBits, heightened}
use Rattle.amr_tags.proofs.grow.heighten.Given as goal

abbrev pub invariant-loop-k : goal.invariant-loop-k
invariant-loop-k l = AreBits l.per_row l.out.items (heightened l.wrap l.height l.per_row l.words) (l.j * l.per_row + l.k) × (length l.out.items ≡ length l.words)

abbrev pub invariant-loop-j : goal.invariant-loop-j
invariant-loop-j l = AreBits l.per_row l.out.items (heightened l.wrap l.height l.per_row l.words) (l.j * l.per_row) × (length l.out.items ≡ length l.words)
