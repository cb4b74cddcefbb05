use Rattle.std.proofs.Common.{◌+◌, ◌*◌, ◌/◌, ◌^◌, ◌≤◌, ◌∙◌, sym, arith}
use Rattle.std.proofs.lemmas.Nat.{mul-le, shr_le}
use Rattle.std.specs.Prelude.{nat_le}
use Rattle.amr_def.specs.Facts.{growth}
use Rattle.amr_decoder.proofs.MassReadings.{greatest_is}
use Rattle.amr_decoder.proofs.masses.greatest_mass.Goals as goal

pub returns-clause-value : goal.returns-clause-value
returns-clause-value c m =
    let l = c.args.kind.level in
    greatest_is l m (2 ^ 30 + growth c.args.p.now.max_level * (c.args.kind.step + 1)) c.requires.level
    ∙ (λ i. nat_le m ((2 ^ 30 + sym c.growth.ensures.value i * (sym c.from.ensures i + 1)) / 2 ^ (2 * l)))

pub returns-clause-small : goal.returns-clause-small
returns-clause-small c =
    let l = c.args.kind.level in
    let bound = 2 ^ 30 + c.growth.result * (c.from.result + 1) in
    let grown : c.growth.result * (c.from.result + 1) ≤ 131072 * 4097 = mul-le c.growth.result (c.from.result + 1) 131072 4097 c.growth.ensures.small (omega (arith, c.from.ensures, c.requires.step)) in
    omega (arith, shr_le bound (2 * l), grown)
