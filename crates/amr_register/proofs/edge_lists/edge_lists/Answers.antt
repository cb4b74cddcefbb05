use Rattle.std.proofs.Common.{◌≡◌, ◌∙◌, ◌<◌, ◌++◌, [], ◌∷◌, List, ap, arith, length, set}
use Rattle.std.specs.Prelude.{slice_index_or}
use Rattle.std.specs.Global.{Vec}
use Rattle.std.proofs.lemmas.List.{with_items_is}
use Rattle.amr_register.specs.declared.edges.EdgeCell.{EdgeCell}
use Rattle.amr_register.specs.EdgeCells.{lists_of, new_edge}
use Rattle.amr_register.proofs.ListsMade.{all_among, all_inside, all_once, none_listed, one_listed}
use Rattle.amr_register.proofs.Taken.{no_cell, no_sides, same_at}
use Rattle.amr_register.proofs.edge_lists.edge_lists.Goals as goal

pub loop-k-init : goal.loop-k-init
loop-k-init c = none_listed c.args.patches.now c.args.cells.now c.args.sides.now _ c.in_ok-lists.ensures

pub loop-k-preserved : goal.loop-k-preserved
loop-k-preserved c =
    let k = c.loop-k.k in
    let i = c.holder-patch.result in
    let cs = c.args.cells.now in
    let ss = c.args.sides.now in
    let was : List (Vec EdgeCell) = c.loop-k.lists.items in
    let new = c.push_edge.new.lists in
    let cell = slice_index_or cs k no_cell in
    let sides = slice_index_or ss k no_sides in
    let in_sides : k < length ss = omega (arith, c.loop-k-test.true, c.requires.side_count) in
    let there : c.deref_mut.result.now ≡ was = c.deref_mut.ensures.value in
    one_listed c.args.patches.now cs ss (lists_of was) _ k i cell sides c.loop-k.invariant c.loop-k-test.true
    (λ d. same_at cs k no_cell d c.loop-k-test.true) (λ t. same_at ss k no_sides t in_sides) c.holder-patch.ensures
    (ap lists_of (with_items_is c.loop-k.lists new (c.push_edge.auto.lists ∙ c.deref_mut.ensures.len)) ∙ c.in_ok-push_edge.ensures
    ∙ ap (λ (vs : List (Vec EdgeCell)). set (lists_of vs) i (slice_index_or (lists_of vs) i [] ++ new_edge k cell sides ∷ [])) there)

pub returns-clause-boxes : goal.returns-clause-boxes
returns-clause-boxes c = all_inside c.args.patches.now c.args.cells.now c.args.sides.now (lists_of c.loop-k.lists.items) c.loop-k.k c.loop-k.invariant

pub returns-clause-among : goal.returns-clause-among
returns-clause-among c = all_among c.args.patches.now c.args.cells.now c.args.sides.now (lists_of c.loop-k.lists.items) c.loop-k.k c.loop-k.invariant

pub returns-clause-once : goal.returns-clause-once
returns-clause-once c = all_once c.args.patches.now c.args.cells.now c.args.sides.now (lists_of c.loop-k.lists.items) c.loop-k.k c.loop-k-test.false c.loop-k.invariant
