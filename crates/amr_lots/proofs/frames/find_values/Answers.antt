use Rattle.std.proofs.Common.{ap, ◌∙◌}
use Rattle.std.specs.Prelude.{not}
use Rattle.amr_lots.proofs.Filled.{found_before, found_by_level}
use Rattle.amr_lots.proofs.frames.find_values.Goals as goal

pub returns-then-is_none : goal.returns-then-is_none
returns-then-is_none c = found_before c.args.p.now c.args.l c.args.outer.now (c.is_none.ensures ∙ ap not c.if-is_none.true) c.requires.places

pub returns : goal.returns
returns c =
    let e = c.find_lent_values.ensures in
    found_by_level c.args.p.now c.args.l c.args.outer.now c.find_lent_values.new.self (c.is_none.ensures ∙ ap not c.if-is_none.false) e.spans e.places e.coarser e.found
