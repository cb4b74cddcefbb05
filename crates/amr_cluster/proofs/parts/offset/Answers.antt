use Rattle.std.proofs.Common.{ap, ◌∙◌, arith}
use Rattle.std.proofs.lemmas.Int.{ints}
use Rattle.amr_cluster.proofs.parts.offset.Goals as goal

pub unwrap-requires : goal.unwrap-requires
unwrap-requires c = c.try_new.ensures.proper.1 (omega (arith, ints), omega (arith, ints))

pub returns : goal.returns
returns c =
    let is = rw c.unwrap.ensures at c.try_new.ensures.some in
    record {
      west_is = ap (λ b. b.lo.x) is ∙ omega (arith, ints);
      south_is = ap (λ b. b.lo.y) is ∙ omega (arith, ints);
      east_is = ap (λ b. b.hi.x) is ∙ omega (arith, ints);
      north_is = ap (λ b. b.hi.y) is ∙ omega (arith, ints);
    }
