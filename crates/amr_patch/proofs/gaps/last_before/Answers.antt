use Rattle.std.proofs.Common.{◌≡◌, ◌<◌, ◌+ℤ◌, ◌-ℤ◌, ◌<ℤ◌, arith, length, of_z, pos, refl, rules, to_z, w32, SFits}
use Rattle.std.specs.Prelude.{slice_index_or}
use Rattle.std.proofs.lemmas.Int.{ints, to_z-of_z}
use Rattle.std.proofs.lemmas.List.{get_or_default}
use Rattle.amr_patch.proofs.GapLaws.{next_above, none_between, same_none}
use Rattle.amr_patch.proofs.gaps.last_before.Goals as goal

pub returns-clause-none : goal.returns-clause-none
returns-clause-none c =
    let zs = c.args.starts.now in
    let k = c.count_up_to-k.result in
    let s = slice_index_or zs k (pos 0) in
    let fits : SFits w32 s = search rules in
    let read : to_z w32 (of_z w32 s) ≡ s = to_z-of_z w32 s fits in
    let there : k < length zs = omega (arith, c.if-k-starts.false, c.count_up_to-k.ensures.within) in
    let at : s ≡ slice_index_or zs k s = get_or_default zs k (pos 0) s there in
    let z = to_z w32 (of_z w32 c.args.z) in
    let same : z ≡ c.args.z = omega (arith, ints) in
    let above : z <ℤ s = next_above zs z k c.count_up_to-k.ensures.parts s c.requires there at in
    let value = to_z w32 (of_z w32 (to_z w32 (of_z w32 s) -ℤ pos 1)) in
    let last : value +ℤ pos 1 ≡ s = omega (arith, ints, read, above, same, c.ranges.z, fits) in
    same_none z c.args.z value value zs zs (none_between zs z k c.count_up_to-k.ensures.parts s c.requires there at value last) same refl refl
