use Rattle.std.proofs.Common.{◌≡◌, ℤ, sym, ap, ◌∙◌, to_z, of_z, w32, arith}
use Rattle.std.proofs.lemmas.Int.{ints}
use Rattle.amr_def.specs.Domain.{is_inside}
use Rattle.amr_def.proofs.Homes.{inside-itself}
use Rattle.amr_def.proofs.axis.wrapped.Goals as goal

pub returns-then-is_inside : goal.returns-then-is_inside
returns-then-is_inside c =
    let same : to_z w32 (of_z w32 c.args.z) ≡ c.args.z = omega (arith, ints) in
    same ∙ sym (inside-itself c.args.wrap c.args.n c.args.z (ap (λ (z : ℤ). is_inside c.args.n z) (sym same) ∙ sym c.if-is_inside.ensures))
