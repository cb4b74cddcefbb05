use Rattle.std.proofs.Common.{◌-◌, ◌≤◌, ◌∙◌, ap, arith, ◌&&◌}
use Rattle.std.specs.Prelude.{nat_eq}
use Rattle.amr_def.specs.Domain.{domain_of}
use Rattle.amr_decoder.proofs.BoxTests.{at_corners, last_column, same_number, some_cells}
use Rattle.amr_decoder.proofs.boxes.is_domain_box.Goals as goal

pub returns-clause-value : goal.returns-clause-value
returns-clause-value c =
    let d = c.args.dom.now in
    let b = c.args.b in
    let columns : 1 ≤ (domain_of d).columns = some_cells d.nx d.l d.limits.least_columns in
    let rows : 1 ≤ (domain_of d).rows = some_cells d.ny d.l d.limits.least_rows in
    let x = ap (λ n. nat_eq b.east (n - 1)) c.columns.ensures.value ∙ last_column b.east (domain_of d).columns columns in
    let y = ap (λ n. nat_eq b.north (n - 1)) c.rows.ensures.value ∙ last_column b.north (domain_of d).rows rows in
    λ i. (same_number b.west 0 i && same_number b.south 0 i) && (x i && y i)

pub returns-clause-small : goal.returns-clause-small
returns-clause-small c h =
    let d = c.args.dom.now in
    let b = c.args.b in
    let columns : 1 ≤ (domain_of d).columns = some_cells d.nx d.l d.limits.least_columns in
    let rows : 1 ≤ (domain_of d).rows = some_cells d.ny d.l d.limits.least_rows in
    at_corners b (c.columns.result - 1) (c.rows.result - 1) h (omega (arith, c.columns.ensures.value, c.columns.ensures.small)) (omega (arith, c.rows.ensures.value, c.rows.ensures.small))
