use Rattle.std.proofs.Common.{pos, ◌+ℤ◌, ◌-ℤ◌, arith, rules}
use Rattle.std.proofs.lemmas.Int.{ints}
use Rattle.amr_boxlist.proofs.PatchBoxes.{side_value}
use Rattle.amr_boxlist.proofs.patch_boxes.side.Goals as goal

pub returns-clause-value : goal.returns-clause-value
returns-clause-value c = side_value (c.args.high +ℤ pos 1 -ℤ c.args.low) _ (first_of (omega (arith, ints), search rules, grind (arith, ints)))
