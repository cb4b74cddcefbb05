use Rattle.std.proofs.Common.{◌≡◌, ◌≤◌, ℤ, ◌∙◌, sym, subst, arith, rules}
use Rattle.std.specs.Prelude.{unsigned_abs}
use mir.Val.{SFits}
use mir.Syntax.{w32}
use Rattle.std.proofs.lemmas.Int.{ints, to_z-of_z}
use Rattle.amr_def.specs.Flux.{courant}
use Rattle.amr_witness.proofs.Values.{x_courant_is, y_courant_is, courant_small}
use Rattle.amr_witness.proofs.value.courant.Goals as goal

pub returns-in-X-clause-value : goal.returns-in-X-clause-value
returns-in-X-clause-value c =
    let fits : SFits w32 c.x_courant.result = search rules in
    let row = c.requires.inside.row c.in-X.is in
    let is : c.x_courant.result ≡ courant c.args.p.now c.args.level c.args.f = c.x_courant.ensures ∙ x_courant_is c.args.p.now c.args.level c.args.f _ c.in-X.is (omega (arith, ints, c.requires.inside.south)) (omega (arith, ints, c.requires.inside.south, row)) in
    simp to_z-of_z is

pub returns-in-X-clause-slow : goal.returns-in-X-clause-slow
returns-in-X-clause-slow c =
    let fits : SFits w32 c.x_courant.result = search rules in
    let row = c.requires.inside.row c.in-X.is in
    let is : c.x_courant.result ≡ courant c.args.p.now c.args.level c.args.f = c.x_courant.ensures ∙ x_courant_is c.args.p.now c.args.level c.args.f _ c.in-X.is (omega (arith, ints, c.requires.inside.south)) (omega (arith, ints, c.requires.inside.south, row)) in
    simp to_z-of_z (subst (λ (z : ℤ). unsigned_abs z ≤ 1024) (sym is) (courant_small c.args.p.now c.args.level c.args.f))

pub returns-in-Y-clause-value : goal.returns-in-Y-clause-value
returns-in-Y-clause-value c =
    let fits : SFits w32 c.y_courant.result = search rules in
    let column = c.requires.inside.column c.in-Y.is in
    let is : c.y_courant.result ≡ courant c.args.p.now c.args.level c.args.f = c.y_courant.ensures ∙ y_courant_is c.args.p.now c.args.level c.args.f _ c.in-Y.is (omega (arith, ints, c.requires.inside.west)) (omega (arith, ints, c.requires.inside.west, column)) in
    simp to_z-of_z is

pub returns-in-Y-clause-slow : goal.returns-in-Y-clause-slow
returns-in-Y-clause-slow c =
    let fits : SFits w32 c.y_courant.result = search rules in
    let column = c.requires.inside.column c.in-Y.is in
    let is : c.y_courant.result ≡ courant c.args.p.now c.args.level c.args.f = c.y_courant.ensures ∙ y_courant_is c.args.p.now c.args.level c.args.f _ c.in-Y.is (omega (arith, ints, c.requires.inside.west)) (omega (arith, ints, c.requires.inside.west, column)) in
    simp to_z-of_z (subst (λ (z : ℤ). unsigned_abs z ≤ 1024) (sym is) (courant_small c.args.p.now c.args.level c.args.f))
