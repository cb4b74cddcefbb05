use Rattle.std.proofs.Common.{◌≡◌, ℕ, ◌+◌, ◌*◌, ◌<◌, pos, ◌-ℤ◌, length, sym, subst, arith}
use Rattle.std.specs.Prelude.{IfOk, Result}
use Rattle.amr_causes.specs.declared.no_memory.NoMemory.{NoMemory}
use Rattle.amr_register.specs.declared.bands.Band.{Band}
use Rattle.amr_register.specs.Bands.{IsBandOf}
use Rattle.amr_register.proofs.BandLists.{nothing}
use Rattle.amr_register.proofs.bands.put_together.Goals as goal

pub loop-k-init : goal.loop-k-init
loop-k-init c = λ p d m fine size h. nothing p d m fine _ (0 * size) c.new.ensures.items c.new-2.ensures.items (omega arith)

pub loop-k-preserved : goal.loop-k-preserved
loop-k-preserved c = λ p d m fine size h.
    let k = c.loop-k.k in
    let lt : k < length c.args.bands.now = omega arith in
    c.in_ok-add_found.ensures p d m fine k size (c.loop-k.invariant p d m fine size h)
    (subst (λ (r : Result Band NoMemory). IfOk r (IsBandOf p d m fine (pos (k * size)) (pos ((k + 1) * size) -ℤ pos 1))) (sym c.index-bands-k.is) (h k c.index-bands-k.result lt))

pub returns : goal.returns
returns c = λ p l m fine size h.
    let all : c.loop-k.k ≡ length c.args.bands.now = omega arith in
    subst (λ (n : ℕ). IsBandOf p l m fine (pos 0) (pos (n * size) -ℤ pos 1) c.loop-k.all) all (c.loop-k.invariant p l m fine size h)
