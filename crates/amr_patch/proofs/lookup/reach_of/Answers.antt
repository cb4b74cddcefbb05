use Rattle.std.proofs.Common.{◌≡◌, pos, ◌+ℤ◌, ◌-ℤ◌, to_z, of_z, w64, arith}
use Rattle.std.specs.Prelude.{slice_index_or}
use Rattle.std.proofs.lemmas.Int.{ints}
use Rattle.amr_patch.specs.Patches.{box}
use Rattle.amr_patch.proofs.Lookups.{ends_below, starts_above}
use Rattle.amr_patch.proofs.lookup.reach_of.Goals as goal

pub returns-clause-below : goal.returns-clause-below
returns-clause-below c = λ k p lt.
    let first = c.count_up_to-from.ensures.parts.0 k p (omega arith) (omega (arith, c.min.ensures, lt)) in
    let bottom : to_z w64 (of_z w64 (to_z w64 (of_z w64 c.from.result) -ℤ to_z w64 (of_z w64 c.from-2.result))) ≡ c.args.low -ℤ pos c.args.order.tallest = omega (arith, ints, c.from.ensures, c.from-2.ensures) in
    ends_below (box (slice_index_or c.args.patches.now k p)) (pos 2147483647) (to_z w64 (of_z w64 (to_z w64 (of_z w64 c.from.result) -ℤ to_z w64 (of_z w64 c.from-2.result)))) c.args.low c.args.order.tallest (c.requires.order.tallest k p (omega (arith, c.min.ensures, c.count_up_to-from.ensures.within, lt))) bottom first

pub returns-clause-above : goal.returns-clause-above
returns-clause-above c = λ k p le lt.
    let first = c.count_up_to-to.ensures.parts.1 k p le lt in
    let top : to_z w64 (of_z w64 (to_z w64 (of_z w64 c.from-3.result) +ℤ pos 1)) ≡ c.args.high +ℤ pos 1 = omega (arith, ints, c.from-3.ensures) in
    starts_above (box (slice_index_or c.args.patches.now k p)).lo _ (to_z w64 (of_z w64 (to_z w64 (of_z w64 c.from-3.result) +ℤ pos 1))) c.args.high top first
