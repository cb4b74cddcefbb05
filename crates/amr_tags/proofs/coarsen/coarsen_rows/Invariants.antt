use Rattle.std.proofs.Common.{◌≡◌, ◌+◌, ◌*◌, length}
use Rattle.amr_tags.specs.Coarse.{coarse_bit}
use Rattle.amr_tags.specs.Grown.{AreBits}
use Rattle.amr_tags.proofs.coarsen.coarsen_rows.Given as goal

abbrev pub invariant-loop-k : goal.invariant-loop-k
invariant-loop-k l = AreBits l.to.per_row l.out.items (coarse_bit l.of.per_row l.of.height l.words) (l.j * l.to.per_row + l.k) × (length l.out.items ≡ length l.initial.out.items)

abbrev pub invariant-loop-j : goal.invariant-loop-j
invariant-loop-j l = AreBits l.to.per_row l.out.items (coarse_bit l.of.per_row l.of.height l.words) (l.j * l.to.per_row) × (length l.out.items ≡ length l.initial.out.items)
