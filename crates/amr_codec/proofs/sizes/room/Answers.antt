use Rattle.std.proofs.Common.{◌≡◌, ℕ, ◌+◌, ◌*◌, ap, sym, ◌∙◌, add-one, arith}
use Rattle.amr_def.specs.Ledger.{sum_to}
use Rattle.amr_payload.specs.Payload.{level_cells}
use Rattle.amr_codec.proofs.sizes.room.Goals as goal

pub loop-l-preserved : goal.loop-l-preserved
loop-l-preserved c =
    let l = c.loop-l in
    let f : ℕ → ℕ = λ k. 4 + (c.args.each + 4) * level_cells c.args.p.now k in
    let next : sum_to f (l.l + 1) ≡ sum_to f l.l + c.bytes_of_level-size.result = ap (sum_to f) (add-one l.l) ∙ ap (λ (n : ℕ). sum_to f l.l + n) (sym c.bytes_of_level-size.ensures.bytes) in
    record {
      counted = omega (arith, next, l.invariant.counted);
      small = omega (arith, l.invariant.small, c.bytes_of_level-size.ensures.few);
    }

pub returns : goal.returns
returns c =
    let l = c.loop-l in
    let f : ℕ → ℕ = λ k. 4 + (c.args.each + 4) * level_cells c.args.p.now k in
    let all : l.l ≡ c.args.p.now.max_level + 1 = omega (arith, l.auto.l-end, c.loop-l-test.false) in
    l.invariant.counted ∙ ap (λ (n : ℕ). c.args.fixed + 24 * (c.args.p.now.steps + 1) + sum_to f n) all
