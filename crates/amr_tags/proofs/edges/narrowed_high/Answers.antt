use Rattle.std.proofs.Common.{arith, refl}
use Rattle.std.proofs.lemmas.Int.{ints}
use Rattle.amr_tags.proofs.Halving.{near_high, near_low, none_above_at}
use Rattle.amr_tags.proofs.edges.narrowed_high.Goals as goal

pub between-middle-requires-clause-near : goal.between-middle-requires-clause-near
between-middle-requires-clause-near c = omega (arith, ints, c.requires.from_low, c.requires.to_high, near_low c.args.b.now c.args.part.now c.args.axis c.requires.near c.requires.part, near_high c.args.b.now c.args.part.now c.args.axis c.requires.near c.requires.part)

pub returns-else-has_tags_from-clause-none_above : goal.returns-else-has_tags_from-clause-none_above
returns-else-has_tags_from-clause-none_above c = none_above_at _ _ _ _ (omega (arith, ints, c.between-middle.ensures.from_low, c.between-middle.ensures.below_high, c.requires.from_low, c.requires.to_high, near_low c.args.b.now c.args.part.now c.args.axis c.requires.near c.requires.part, near_high c.args.b.now c.args.part.now c.args.axis c.requires.near c.requires.part)) (c.if-has_tags_from.ensures.no refl)
