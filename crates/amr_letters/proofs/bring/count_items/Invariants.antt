use Rattle.std.proofs.Common.{◌≡◌, length, take}
use Rattle.amr_ranks.specs.Items.{total}
use Rattle.amr_ranks.specs.Letters.{LetterOf}
use Rattle.amr_letters.proofs.bring.count_items.Given as goal

abbrev pub invariant-loop-k : goal.invariant-loop-k
invariant-loop-k l = l.count ≡ total (λ (x : LetterOf). length x.items) (take l.k l.letters)
