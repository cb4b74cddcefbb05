use Rattle.std.proofs.Common.{◌<◌, ◌+◌, ◌*◌, ◌∙◌, length, length-set, sym, subst, arith, ℕ}
use Rattle.amr_tags.specs.Grown.{heightened}
use Rattle.amr_tags.proofs.Passes.{all-bits, next-bits, place-within}
use Rattle.amr_tags.proofs.grow.heighten.Goals as goal

pub overflow_mul-j : goal.overflow_mul-j
overflow_mul-j c = omega (arith, place-within c.loop-j.j c.loop-k.k c.args.per_row c.args.height (length c.args.words.now) (omega arith) (omega arith) c.requires.count)

pub overflow_add-j : goal.overflow_add-j
overflow_add-j c = omega (arith, place-within c.loop-j.j c.loop-k.k c.args.per_row c.args.height (length c.args.words.now) (omega arith) (omega arith) c.requires.count)

pub index_mut-requires : goal.index_mut-requires
index_mut-requires c = omega (arith, c.loop-k.invariant.1, place-within c.loop-j.j c.loop-k.k c.args.per_row c.args.height (length c.args.words.now) (omega arith) (omega arith) c.requires.count)

pub loop-k-preserved : goal.loop-k-preserved
loop-k-preserved c =
    let place = place-within c.loop-j.j c.loop-k.k c.args.per_row c.args.height (length c.args.words.now) (omega arith) (omega arith) c.requires.count in
    let within : c.loop-j.j * c.args.per_row + c.loop-k.k < length c.loop-k.out.items = subst (λ (n : ℕ). c.loop-j.j * c.args.per_row + c.loop-k.k < n) (sym c.loop-k.invariant.1) place in (
      next-bits c.args.per_row c.loop-k.out.items (heightened c.args.wrap c.args.height c.args.per_row c.args.words.now) c.loop-k.k c.loop-j.j c.heightened_word.result (omega arith) within c.loop-k.invariant.0 c.heightened_word.ensures,
      length-set _ _ _ ∙ c.loop-k.invariant.1,
    )

pub returns-clause-bits : goal.returns-clause-bits
returns-clause-bits c = all-bits c.args.per_row c.loop-j.out.items (heightened c.args.wrap c.args.height c.args.per_row c.args.words.now) c.loop-j.j c.args.height (length c.args.words.now) (omega arith) c.requires.count c.loop-j.invariant.0
