use Rattle.std.proofs.Common.{◌≡◌, ◌∙◌, ◌+◌, ◌++◌, List, [], ◌∷◌, length, length-append, sym, ap, arith}
use Rattle.std.specs.declared.option.Option.{Option}
use Rattle.std.specs.Option.{option_to_list}
use Rattle.std.specs.Vec.Iter.{into_iter_items, into_iter_len}
use Rattle.std.proofs.lemmas.List.{append-nil}
use Rattle.amr_patch.specs.declared.levels.Level.{Level}
use Rattle.amr_regrid.proofs.Planned.{level_more, none_remade, rest_is, seen_more}
use Rattle.amr_regrid.proofs.plans.planned.Goals as goal

pub loop-r-init : goal.loop-r-init
loop-r-init c =
    let none : length c.args.plan.room.items ≡ 0 = ap length c.requires.empty in
    record {
      levels = none_remade c.args.levels.items c.args.plan.room.items c.requires.empty;
      rest = c.into_iter-olds.ensures.rest;
      count = c.into_iter-olds.ensures.len ∙ c.args.levels.ok.0 ∙ ap length (sym c.into_iter-olds.ensures.rest);
      few = omega (arith, none);
      room = c.requires.fits;
    }

pub loop-r-preserved-in-Some-level_there : goal.loop-r-preserved-in-Some-level_there
loop-r-preserved-in-Some-level_there c =
    let olds = c.args.levels.items in
    let seen = c.loop-r.yielded in
    let r = c.in-Some.r in
    let o = c.next-in-loop-r.result in
    let s = into_iter_items c.loop-r.olds in
    let t = into_iter_items c.next-in-loop-r.new.self in
    let n = into_iter_len c.loop-r.olds in
    let m = into_iter_len c.next-in-loop-r.new.self in
    let took = c.next-in-loop-r.ensures in
    let inv = c.loop-r.invariant in
    let k = c.in-Some-level_there.level in
    let longer : length s ≡ length (option_to_list o) + length t = ap length took.items ∙ length-append (option_to_list o) t in
    let more : length c.push_reserved.new.self.items ≡ length c.loop-r.all.items + 1 = ap length c.push_reserved.ensures.items ∙ length-append c.loop-r.all.items (k ∷ []) in
    let room = c.push_reserved.ensures.capacity in
    let seen_one = seen_more olds seen r o s t n m inv.rest inv.count took.items took.cases in
    record {
      levels = c.push_reserved.ensures.items ∙ ap (λ (q : Option Level). c.loop-r.all.items ++ option_to_list q) (sym c.in-Some-level_there.is)
          ∙ level_more olds seen r o s t n m inv.rest inv.count took.items took.cases c.loop-r.all.items c.level_there.result inv.levels c.level_there.ensures;
      rest = rest_is olds seen r o s t n m inv.rest inv.count took.items took.cases;
      count = omega (arith, took.len, longer, inv.count);
      few = omega (arith, more, seen_one, inv.few);
      room = omega (arith, room, inv.room);
    }

pub loop-r-preserved : goal.loop-r-preserved
loop-r-preserved c =
    let olds = c.args.levels.items in
    let seen = c.loop-r.yielded in
    let r = c.in-Some.r in
    let o = c.next-in-loop-r.result in
    let s = into_iter_items c.loop-r.olds in
    let t = into_iter_items c.next-in-loop-r.new.self in
    let n = into_iter_len c.loop-r.olds in
    let m = into_iter_len c.next-in-loop-r.new.self in
    let took = c.next-in-loop-r.ensures in
    let inv = c.loop-r.invariant in
    let longer : length s ≡ length (option_to_list o) + length t = ap length took.items ∙ length-append (option_to_list o) t in
    let seen_one = seen_more olds seen r o s t n m inv.rest inv.count took.items took.cases in
    record {
      levels = sym (append-nil c.loop-r.all.items) ∙ ap (λ (q : Option Level). c.loop-r.all.items ++ option_to_list q) (sym c.in_default.is)
          ∙ level_more olds seen r o s t n m inv.rest inv.count took.items took.cases c.loop-r.all.items c.level_there.result inv.levels c.level_there.ensures;
      rest = rest_is olds seen r o s t n m inv.rest inv.count took.items took.cases;
      count = omega (arith, took.len, longer, inv.count);
      few = omega (arith, seen_one, inv.few);
      room = inv.room;
    }
