use Rattle.std.proofs.Common.{◌≡◌, ◌+◌, ◌/◌, pos, ◌+ℤ◌, ◌-ℤ◌, refl, arith, rules}
use Rattle.std.proofs.lemmas.Grind.{common_steps}
use Rattle.amr_box.specs.Cells.{at_least_zero}
use Rattle.amr_boxlist.specs.Chopped.{patch_box_count}
use Rattle.amr_boxlist.proofs.PatchBoxes.{start_within}
use Rattle.amr_boxlist.proofs.patch_boxes.count.Goals as goal

pub returns-clause-within : goal.returns-clause-within
returns-clause-within c =
    let value : (c.side.result + c.from.result) / c.from-2.result ≡ patch_box_count c.args.max (at_least_zero (c.args.high +ℤ pos 1 -ℤ c.args.low)) = first_of (search rules, grind (arith, common_steps)) in
    λ k h. start_within c.args.max k ((c.side.result + c.from.result) / c.from-2.result) c.args.low c.args.high c.args.low c.args.high c.requires.some c.requires.order refl refl value h
