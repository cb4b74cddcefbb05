use Rattle.std.proofs.Common.{◌≡◌, ◌*◌, [], ◌∷◌, ◌++◌, length, sym, ap, subst, arith}
use Rattle.std.specs.Global.{Box}
use Rattle.std.proofs.lemmas.List.{length-append}
use Rattle.amr_layout.specs.Arounds.{around_of}
use Rattle.amr_lots.specs.declared.lot.Lot.{Lot}
use Rattle.amr_advance.specs.Cuts.{AreLayoutsFrom}
use Rattle.amr_advance.specs.Lots.{IsLotOf}
use Rattle.amr_advance.proofs.MadeMessages.{one_more}
use Rattle.amr_advance.proofs.lots.lots_for.Goals as goal

pub loop-k-init : goal.loop-k-init
loop-k-init c =
    let none : 0 ≡ 0 * c.args.cut.each = omega arith in
    record {
      count = ap length c.in_ok-lots.ensures.items;
      room = omega (arith, c.in_ok-lots.ensures.capacity);
      layouts = subst (λ n. AreLayoutsFrom (around_of c.args.s) c.args.cut.each n c.args.layouts.now) none c.requires.layouts;
      done = λ j x lt. absurd (omega (arith, lt));
    }

pub lot_for-requires-clause-layouts : goal.lot_for-requires-clause-layouts
lot_for-requires-clause-layouts c = c.loop-k.invariant.layouts

pub loop-k-preserved : goal.loop-k-preserved
loop-k-preserved c =
    let s = around_of c.args.s in
    let k = c.loop-k.k in
    let done = c.loop-k.invariant in
    let lots = c.loop-k.lots.items in
    let b : Box Lot = c.in_ok-new.field-0 in
    let pushed : c.push_reserved.new.self.items ≡ lots ++ b ∷ [] = c.push_reserved.ensures.items in
    record {
      count = omega (arith, ap length pushed, length-append lots (b ∷ []), done.count);
      room = omega (arith, done.room, c.push_reserved.ensures.capacity);
      layouts = c.in_ok-lot.ensures.layouts;
      done = one_more (λ j (x : Box Lot). IsLotOf s c.args.cut.each j c.args.cut.runs c.args.cut.parts.now x.value) lots c.push_reserved.new.self.items b k done.count pushed done.done
          (subst (λ (y : Lot). IsLotOf s c.args.cut.each k c.args.cut.runs c.args.cut.parts.now y) (sym c.in_ok-new.ensures.ok) c.in_ok-lot.ensures.lot);
    }

pub returns-clause-lots : goal.returns-clause-lots
returns-clause-lots c = λ k x lt. c.loop-k.invariant.done k x (omega (arith, lt, c.loop-k-test.false))
