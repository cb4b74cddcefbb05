use Rattle.std.proofs.Common.{◌<◌, pos, get_or, take, refl, sym, subst, arith}
use Rattle.std.proofs.lemmas.List.{take_all, take_more}
use Rattle.amr_box.specs.declared.Axis.TheVariants.{X}
use Rattle.amr_layout.specs.declared.FlowTo.{FlowTo}
use Rattle.amr_layout.specs.PartFlows.{AppendsNumbered}
use Rattle.amr_layout.proofs.PartFlows.{append_more, more_words, none_appended, same_words}
use Rattle.amr_layout.proofs.parts.append_numbered.Goals as goal

abbrev no_flow : FlowTo
no_flow = record { word = 0; face = record { axis = X; x = pos 0; y = pos 0 } }

pub loop-k-init : goal.loop-k-init
loop-k-init c = record {
  same_count = refl;
  numbers = c.requires.numbers;
  longer = same_words c.args.words.now.items;
  flows = none_appended c.args.words.now.items c.args.all.now.items;
}

pub place_of-requires-clause-there : goal.place_of-requires-clause-there
place_of-requires-clause-there c = subst (λ n. (get_or c.args.flows.now c.loop-k.k no_flow).word < n) (sym c.loop-k.invariant.same_count) (c.requires.words c.loop-k.k no_flow c.loop-k-test.true)

pub loop-k-preserved : goal.loop-k-preserved
loop-k-preserved c =
    let k = c.loop-k.k in
    let done = c.loop-k.invariant in
    let words = c.place_of.new.words.items in
    let a = get_or c.args.flows.now k no_flow in
    let y : FlowTo = record { word = c.in_ok-place.place; face = a.face } in
    record {
      same_count = omega arith;
      numbers = c.in_ok-place.ensures.numbers;
      longer = more_words c.args.words.now.items c.loop-k.words.items words done.longer c.in_ok-place.ensures.longer;
      flows = subst (λ fs. AppendsNumbered words fs c.args.all.now.items c.push.new.self.items) (sym (take_more c.args.flows.now k no_flow c.loop-k-test.true))
          (append_more c.loop-k.words.items words (take k c.args.flows.now) c.args.all.now.items c.loop-k.all.items c.push.new.self.items a y c.in_ok-place.ensures.longer c.in_ok-push.ensures.items
          (record { face = refl; there = c.in_ok-place.ensures.within; word = c.in_ok-place.ensures.place }) done.flows);
    }

pub returns-clause-flows : goal.returns-clause-flows
returns-clause-flows c = subst (λ fs. AppendsNumbered c.loop-k.words.items fs c.args.all.now.items c.loop-k.all.items) (take_all c.loop-k.k c.args.flows.now (omega arith)) c.loop-k.invariant.flows
