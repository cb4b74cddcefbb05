use Rattle.std.proofs.Common.{◌≡◌, replicate}
use Rattle.std.specs.Prelude.{map}
use Rattle.std.specs.List.{range_with_len}
use Rattle.amr_gather.specs.Held.{letter_from}
use Rattle.amr_gather.proofs.gather.first_letters.Given as goal

abbrev pub invariant-loop-from : goal.invariant-loop-from
invariant-loop-from l = l.letters.items ≡ map (λ from. letter_from from (replicate l.words 0)) (range_with_len 0 l.from)
