use Rattle.std.proofs.Common.{◌≡◌, true, false, sym, ap, ◌∙◌, to_z, of_z, w64, pos, ◌-ℤ◌, cond, arith}
use Rattle.std.specs.Prelude.{neg_ℤ}
use Rattle.std.proofs.lemmas.Int.{ints}
use Rattle.amr_box.specs.Cells.{holds}
use Rattle.amr_def.specs.Flux.{courant, high_cell}
use Rattle.amr_layout.specs.Surroundings.{inward}
use Rattle.amr_layout.proofs.faces.inward.Goals as goal

pub returns-then-holds : goal.returns-then-holds
unfolding inward
returns-then-holds c =
    let k = courant c.args.p.now c.args.l c.args.f in
    let on : holds c.args.b.now (high_cell c.args.f) ≡ true = ap (holds c.args.b.now) (sym c.high_cell.ensures) ∙ sym c.holds.ensures ∙ c.if-holds.true in
    let value : to_z w64 (of_z w64 c.from-c.result) ≡ k = omega (arith, ints, c.from-c.ensures, c.courant.ensures) in
    value ∙ ap (λ t. cond t k (neg_ℤ k)) (sym on)

pub returns-else-holds : goal.returns-else-holds
unfolding inward
returns-else-holds c =
    let k = courant c.args.p.now c.args.l c.args.f in
    let on : holds c.args.b.now (high_cell c.args.f) ≡ false = ap (holds c.args.b.now) (sym c.high_cell.ensures) ∙ sym c.holds.ensures ∙ c.if-holds.false in
    let value : to_z w64 (of_z w64 (pos 0 -ℤ to_z w64 (of_z w64 c.from-c.result))) ≡ neg_ℤ k = omega (arith, ints, c.from-c.ensures, c.courant.ensures) in
    value ∙ ap (λ t. cond t k (neg_ℤ k)) (sym on)
