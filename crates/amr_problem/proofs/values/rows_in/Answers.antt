use Rattle.std.proofs.Common.{◌≡◌, Some, None, ◌∙◌, sym, ap, arith, ◌+◌, drop, get_or, option_map, ◌++◌}
use Rattle.toml.specs.View.{view, items_view}
use Rattle.amr_problem.specs.Values.{block_of, rows_in}
use Rattle.amr_problem.proofs.ValueLaws.{rows-at, rows-end, rows-none, all_pushed, none_pushed, one_pushed, spoilt}
use Rattle.amr_problem.proofs.values.rows_in.Goals as goal

pub loop-item-init : goal.loop-item-init
loop-item-init c = rw c.new-rows.ensures.items (none_pushed (rows_in c.args.version (items_view c.args.items.now)))

pub returns-in_default : goal.returns-in_default
returns-in_default c =
    let vs = c.args.items.now in
    let i = c.loop-item.item-index in
    let here : block_of c.args.version (view (get_or vs i c.item-item.result)) ≡ None = rw (← c.item-item.is) (sym c.block_of.ensures ∙ c.in_default.is) in
    sym (spoilt c.loop-item.rows.items _ _ c.loop-item.invariant (rows-none c.args.version vs i c.item-item.result c.loop-item-test.true here))

pub loop-item-preserved : goal.loop-item-preserved
loop-item-preserved c =
    let vs = c.args.items.now in
    let i = c.loop-item.item-index in
    let zs = c.in-Some.row in
    let here : block_of c.args.version (view (get_or vs i c.item-item.result)) ≡ Some zs = rw (← c.item-item.is) (sym c.in-Some.ensures) in
    let more = one_pushed c.loop-item.rows.items zs (rows_in c.args.version (items_view (drop (i + 1) vs))) in
    rw c.in_ok-push.ensures.items (c.loop-item.invariant ∙ ap (option_map (λ rows. c.loop-item.rows.items ++ rows)) (rows-at c.args.version vs i c.item-item.result zs c.loop-item-test.true here) ∙ more)

pub returns : goal.returns
returns c = sym (all_pushed c.loop-item.rows.items _ _ c.loop-item.invariant (rows-end c.args.version c.args.items.now c.loop-item.item-index (omega arith)))
