use Rattle.std.proofs.Common.{◌≡◌, ◌*◌, ap, arith}
use Rattle.std.proofs.lemmas.Int.{ints, clamps}
use Rattle.amr_boxlist.proofs.patch_boxes.span.Goals as goal

pub returns-clause-from : goal.returns-clause-from
returns-clause-from c = let e : c.from.result * c.args.k ≡ c.args.max * c.args.k = ap (λ t. t * c.args.k) c.from.ensures in omega (arith, ints, c.requires.there)

pub returns-clause-to : goal.returns-clause-to
returns-clause-to c = let e : c.from.result * c.args.k ≡ c.args.max * c.args.k = ap (λ t. t * c.args.k) c.from.ensures in omega (arith, ints, clamps, c.min.ensures.value, c.requires.there)

pub returns-clause-in_order : goal.returns-clause-in_order
returns-clause-in_order c = let e : c.from.result * c.args.k ≡ c.args.max * c.args.k = ap (λ t. t * c.args.k) c.from.ensures in omega (arith, ints, clamps, c.min.ensures.value, c.requires.there)
