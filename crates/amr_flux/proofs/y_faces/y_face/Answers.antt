use mir.Syntax.{w32}
use mir.Val.{of_z, to_z}
use Rattle.std.proofs.Common.{◌≡◌, ◌-ℤ◌, pos, ◌<◌, ◌≤◌, ◌^◌, ◌∙◌, arith}
use Rattle.amr_def.specs.Domain.{columns}
use Rattle.amr_faces.specs.Shares.{product}
use Rattle.std.proofs.lemmas.Int.{ints}
use Rattle.amr_faces.proofs.Reciprocals.{product_small}
use Rattle.amr_flux.proofs.Words.{difference_small}
use Rattle.amr_flux.proofs.y_faces.y_face.Goals as goal

pub returns-then-high-factors-clause-small : goal.returns-then-high-factors-clause-small
returns-then-high-factors-clause-small c =
    let some : 0 < c.args.factors.now.limit = omega (arith, c.if-low-factors.true) in
    let at = c.requires.columns.at c.args.i c.requires.column some in
    let low : c.at.result.low ≤ 2 ^ 31 = omega (arith, c.at.ensures.low, at.low_fits) in
    let high : c.at.result.high ≤ 2 ^ 31 = omega (arith, c.at.ensures.high, at.high_fits) in
    let e : to_z w32 (of_z w32 c.flow.result) ≡ c.flow.result = omega (arith, ints) in
    difference_small _ _ _ (product_small c.args.low c.at.result.low c.requires.low_small low) (product_small c.args.high c.at.result.high c.requires.high_small high) (e ∙ c.flow.ensures)

pub returns-then-high-factors-clause-value : goal.returns-then-high-factors-clause-value
returns-then-high-factors-clause-value c =
    let some : 0 < c.args.factors.now.limit = omega (arith, c.if-low-factors.true) in
    let e : to_z w32 (of_z w32 c.flow.result) ≡ c.flow.result = omega (arith, ints) in
    e ∙ c.flow.ensures ∙ (λ t. pos (product (c.at.ensures.low t) c.args.low) -ℤ pos (product (c.at.ensures.high t) c.args.high))
    ∙ (c.requires.columns.at c.args.i c.requires.column some).flows c.args.low c.args.high c.if-low-factors.true c.if-high-factors.true

pub at-requires : goal.at-requires
at-requires c = let some : 0 < c.args.factors.now.limit = omega (arith, c.if-low-factors.true) in omega (arith, c.requires.columns.room some, c.requires.column)

pub flow-requires : goal.flow-requires
flow-requires c =
    let some : 0 < c.args.factors.now.limit = omega (arith, c.if-low-factors.true) in
    let at = c.requires.columns.at c.args.i c.requires.column some in
    record { low_few = omega (arith, c.at.ensures.low, at.low_fits); high_few = omega (arith, c.at.ensures.high, at.high_fits); low_small = c.requires.low_small; high_small = c.requires.high_small }

pub column_share-requires : goal.column_share-requires
column_share-requires c = record { level = c.requires.level; inside = c.requires.inside; column = c.requires.column }

pub flow-requires-2 : goal.flow-requires-2
flow-requires-2 c = record { low_small = c.requires.low_small; high_small = c.requires.high_small }
