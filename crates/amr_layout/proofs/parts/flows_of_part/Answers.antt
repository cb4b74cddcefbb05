use Rattle.std.proofs.Common.{◌≡◌, ◌∙◌, ◌+◌, ◌<◌, [], ◌∷◌, ◌++◌, length, map, sym, ap, subst, arith}
use Rattle.std.specs.List.{All, range_with_len}
use Rattle.std.specs.Vec.{with_items}
use Rattle.std.proofs.lemmas.List.{with_items_is}
use Rattle.amr_layout.specs.declared.FlowTo.{FlowTo}
use Rattle.amr_layout.specs.LevelFlowLists.{flow_lists, flows_at}
use Rattle.amr_layout.specs.PartFlows.{AreNumbered, AreNumbersOf}
use Rattle.amr_layout.proofs.LevelFlowLists.{each_of_patch}
use Rattle.amr_layout.proofs.PartFlows.{all_numbered, no_words, numbered_once, part_more, part_none}
use Rattle.amr_layout.proofs.parts.flows_of_part.Goals as goal
use Rattle.amr_layout.proofs.parts.flows_of_part.Goals.{After-push_reserved}

pub loop-i-init : goal.loop-i-init
loop-i-init c = record {
  room = c.in_ok-bounds.ensures.room;
  same_count = omega (arith, c.in_ok-numbers.ensures.len, c.in_ok-numbers.numbers.ok.0);
  numbers = subst (λ ws. AreNumbersOf ws c.in_ok-numbers.numbers.items) (sym c.new-words.ensures.items) (subst (AreNumbersOf []) (sym (c.in_ok-numbers.ensures.items_if_clones_equal (λ y e. e))) (no_words c.args.many));
  flows = part_none c.args.level.now c.args.first c.new-words.result.items (record { flows = c.new-flows.result; bounds = c.in_ok-bounds.bounds }) c.new-flows.ensures.items c.in_ok-bounds.ensures.items;
}

pub of-requires : goal.of-requires
of-requires c = c.requires.there c.loop-i.i c.loop-i-test.true

pub append_numbered-requires : goal.append_numbered-requires
append_numbered-requires c =
    let many : length c.deref_mut.result.now ≡ c.args.many = ap length c.deref_mut.ensures.value ∙ c.loop-i.invariant.same_count in
    record {
      words = subst (λ n. All (λ (x : FlowTo). x.word < n) c.of.result.now) (sym many) (subst (All (λ (x : FlowTo). x.word < c.args.many)) (sym c.of.ensures) (each_of_patch (λ (x : FlowTo). x.word < c.args.many) c.args.level.now (c.args.first + c.loop-i.i) c.requires.words));
      few = omega (arith, many, c.requires.few);
      numbers = subst (AreNumbersOf c.loop-i.words.items) (sym c.deref_mut.ensures.value) c.loop-i.invariant.numbers;
    }

numbers_now : (c : After-push_reserved) → (with_items c.loop-i.numbers c.append_numbered.new.numbers).items ≡ c.append_numbered.new.numbers
numbers_now c = with_items_is c.loop-i.numbers c.append_numbered.new.numbers (let e = ap length c.deref_mut.ensures.value in let n = c.in_ok-append_numbered.ensures.count in omega (arith, e, n, c.loop-i.numbers.ok.0))

pub loop-i-preserved : goal.loop-i-preserved
loop-i-preserved c =
    let done = c.loop-i.invariant in
    let words = c.append_numbered.new.words.items in
    let flows = c.append_numbered.new.all in
    let now = numbers_now c in
    let len : c.len-end.result ≡ length flows.items = omega arith in
    record {
      room = omega (arith, done.room, c.push_reserved.ensures.capacity);
      same_count = ap length now ∙ c.in_ok-append_numbered.ensures.count ∙ ap length c.deref_mut.ensures.value ∙ done.same_count;
      numbers = subst (AreNumbersOf words) (sym now) c.in_ok-append_numbered.ensures.numbers;
      flows = part_more c.args.level.now c.args.first c.loop-i.words.items words c.loop-i.i (record { flows = c.loop-i.flows; bounds = c.loop-i.bounds }) (record { flows = flows; bounds = c.push_reserved.new.self })
          c.of.result.now c.of.ensures c.in_ok-append_numbered.ensures.longer c.in_ok-append_numbered.ensures.flows (c.push_reserved.ensures.items ∙ ap (λ n. c.loop-i.bounds.items ++ n ∷ []) len) done.flows;
    }

pub returns : goal.returns
returns c =
    let done = c.loop-i.invariant in
    let end : c.loop-i.i ≡ c.args.count = omega arith in
    record {
      count = done.flows.bounds ∙ ap (λ n. n + 1) end;
      bounds = λ i lt. done.flows.there i (omega (arith, lt, end));
      flows = subst (λ n. AreNumbered c.loop-i.words.items (map (λ i. flows_at c.args.level.now (c.args.first + i)) (range_with_len 0 n)) (flow_lists (record { flows = c.loop-i.flows; bounds = c.loop-i.bounds }) n)) end
          (all_numbered c.args.level.now c.args.first c.loop-i.words.items c.loop-i.i (record { flows = c.loop-i.flows; bounds = c.loop-i.bounds }) done.flows);
      once = numbered_once done.numbers;
      words = subst (λ n. All (λ w. w < n) c.loop-i.words.items) done.same_count done.numbers.below;
    }
