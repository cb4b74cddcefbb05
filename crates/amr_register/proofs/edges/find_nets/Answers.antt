use Rattle.std.proofs.Common.{◌≡◌, ◌∙◌, ◌<◌, ◌^◌, ℤ, arith, of_z, refl, subst, sym, to_z, w64}
use Rattle.std.specs.Prelude.{unsigned_abs}
use Rattle.std.proofs.lemmas.Int.{ints}
use Rattle.amr_register.specs.EdgeCells.{HasNet}
use Rattle.amr_register.proofs.Changed.{one_changed}
use Rattle.amr_register.proofs.EdgeLists.{zip_from}
use Rattle.amr_register.proofs.OwnedFlows.{abs_from}
use Rattle.amr_register.proofs.Taken.{no_edge}
use Rattle.amr_register.proofs.edges.find_nets.Goals as goal

pub loop-k-preserved : goal.loop-k-preserved
loop-k-preserved c =
    let kept : to_z w64 (of_z w64 c.net_beside.result) ≡ c.net_beside.result = omega (arith, ints) in
    let small : unsigned_abs c.net_beside.result < 2 ^ 34 = abs_from c.net_beside.result 17179869183 (omega (arith, ints)) (omega (arith, ints)) in
    one_changed _ c.args.edges.now c.loop-k.edges c.loop-k.k _ no_edge c.loop-k.invariant (omega (arith, c.loop-k-test.true))
    (record { cell = refl; sides = refl; number = refl; net = kept ∙ c.net_beside.ensures.value }, subst (λ (z : ℤ). unsigned_abs z < 2 ^ 34) (sym kept) small)

pub returns-clause-nets : goal.returns-clause-nets
returns-clause-nets c = zip_from (HasNet c.args.p.now c.args.l c.args.patch.now) c.args.edges.now c.loop-k.edges c.loop-k.invariant.count (λ k d e lt. (c.loop-k.invariant.done k d e (omega (arith, lt, c.loop-k.invariant.count, c.loop-k-test.false)) lt).0)

pub returns-clause-small : goal.returns-clause-small
returns-clause-small c = λ k d lt. (c.loop-k.invariant.done k d d (omega (arith, lt, c.loop-k-test.false)) (omega (arith, lt, c.loop-k.invariant.count))).1
