use Rattle.std.proofs.Common.{◌≡◌, ◌<◌, length, sym, ◌∙◌}
use Rattle.std.proofs.lemmas.Bool.{eqb-true}
use Rattle.amr_lots.proofs.Filled.{no_lists, some_by_test, some_lists}
use Rattle.amr_lots.proofs.frames.find_nets.Goals as goal

pub returns-then-is_empty : goal.returns-then-is_empty
returns-then-is_empty c =
    let none : length c.args.edges.now ≡ 0 = eqb-true (length c.args.edges.now) 0 (sym c.is_empty.ensures ∙ c.if-is_empty.true) in
    no_lists c.args.p.now c.args.l c.args.patches.now c.args.edges.now none

pub find_nets_of_all-requires-clause-edges : goal.find_nets_of_all-requires-clause-edges
find_nets_of_all-requires-clause-edges c = c.requires.edges (some_by_test (length c.args.edges.now) (sym c.is_empty.ensures ∙ c.if-is_empty.false))

pub returns : goal.returns
returns c =
    let some : 0 < length c.args.edges.now = some_by_test (length c.args.edges.now) (sym c.is_empty.ensures ∙ c.if-is_empty.false) in
    some_lists c.args.p.now c.args.l c.args.patches.now c.args.edges.now c.find_nets_of_all.new.lists some c.find_nets_of_all.ensures.nets c.find_nets_of_all.ensures.small
