use Rattle.std.proofs.Common.{◌<◌, ◌+◌, ◌*◌, ◌∙◌, length, length-set, sym, subst, arith, ℕ}
use Rattle.std.proofs.lemmas.Nat.{mul-add-lt}
use Rattle.amr_tags.specs.Coarse.{coarse_bit}
use Rattle.amr_tags.proofs.Passes.{all-bits, next-bits}
use Rattle.amr_tags.proofs.coarsen.coarsen_rows.Goals as goal

pub loop-k-preserved : goal.loop-k-preserved
loop-k-preserved c =
    let to = c.args.to in
    let test = coarse_bit c.args.of.per_row c.args.of.height c.args.words.now in
    let place : c.loop-j.j * to.per_row + c.loop-k.k < to.height * to.per_row = (let m = mul-add-lt c.loop-j.j to.per_row c.loop-k.k to.height (omega arith) (omega arith) in omega (arith, m)) in
    let within : c.loop-j.j * to.per_row + c.loop-k.k < length c.loop-k.out.items = subst (λ (n : ℕ). c.loop-j.j * to.per_row + c.loop-k.k < n) (sym (c.loop-k.invariant.1 ∙ c.loop-j.invariant.1 ∙ c.requires.room)) place in (
      next-bits to.per_row c.loop-k.out.items test c.loop-k.k c.loop-j.j c.coarse_word.result (omega arith) within c.loop-k.invariant.0 c.coarse_word.ensures,
      length-set _ _ _ ∙ c.loop-k.invariant.1,
    )

pub returns-clause-bits : goal.returns-clause-bits
returns-clause-bits c = all-bits c.args.to.per_row c.loop-j.out.items (coarse_bit c.args.of.per_row c.args.of.height c.args.words.now) c.loop-j.j c.args.to.height (length c.loop-j.out.items) (omega arith) (c.loop-j.invariant.1 ∙ c.requires.room) c.loop-j.invariant.0
