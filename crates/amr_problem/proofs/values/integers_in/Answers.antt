use Rattle.std.proofs.Common.{◌≡◌, Some, None, ◌∙◌, sym, ap, arith, rules, ◌+◌, drop, get_or, option_map, ◌++◌, SFits, w64}
use Rattle.std.proofs.lemmas.Int.{to_z-of_z}
use Rattle.toml.specs.Data.{as_integer}
use Rattle.toml.specs.View.{view, items_view}
use Rattle.amr_problem.specs.Values.{integers}
use Rattle.amr_problem.proofs.ValueLaws.{integers-at, integers-end, integers-none, all_pushed, none_pushed, one_pushed, spoilt}
use Rattle.amr_problem.proofs.values.integers_in.Goals as goal

pub loop-item-init : goal.loop-item-init
loop-item-init c = rw c.new-numbers.ensures.items (none_pushed (integers (items_view c.args.items.now)))

pub returns-in_default : goal.returns-in_default
returns-in_default c =
    let vs = c.args.items.now in
    let i = c.loop-item.item-index in
    let here : as_integer (view (get_or vs i c.item-item.result)) ≡ None = rw (← c.item-item.is) (sym c.as_integer.ensures ∙ c.in_default.is) in
    sym (spoilt c.loop-item.numbers.items _ _ c.loop-item.invariant (integers-none vs i c.item-item.result c.loop-item-test.true here))

pub loop-item-preserved : goal.loop-item-preserved
loop-item-preserved c =
    let vs = c.args.items.now in
    let i = c.loop-item.item-index in
    let z = c.in-Some.number in
    let here : as_integer (view (get_or vs i c.item-item.result)) ≡ Some z = rw (← c.item-item.is) (sym c.in-Some.ensures) in
    let more = one_pushed c.loop-item.numbers.items z (integers (items_view (drop (i + 1) vs))) in
    let fits : SFits w64 z = search rules in
    rw (c.in_ok-push.ensures.items, to_z-of_z w64 z fits) (c.loop-item.invariant ∙ ap (option_map (λ zs. c.loop-item.numbers.items ++ zs)) (integers-at vs i c.item-item.result z c.loop-item-test.true here) ∙ more)

pub returns : goal.returns
returns c = sym (all_pushed c.loop-item.numbers.items _ _ c.loop-item.invariant (integers-end c.args.items.now c.loop-item.item-index (omega arith)))
