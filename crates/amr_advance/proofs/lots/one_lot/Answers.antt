use Rattle.amr_advance.proofs.FilledFrames.{spans_of}
use Rattle.std.proofs.Common.{◌≡◌, ◌∙◌, ◌*◌, ◌≤◌, List, [], ◌∷◌, ◌++◌, length, get_or, refl, sym, ap, subst, arith}
use Rattle.std.specs.Global.{Box}
use Rattle.std.specs.List.{All}
use Rattle.std.proofs.lemmas.Bool.{false≢true}
use Rattle.amr_def.specs.Domain.{domain}
use Rattle.amr_ghost.specs.Messages.{CarriesMasses}
use Rattle.amr_ghost.specs.Parts.{IsParted}
use Rattle.amr_ghost.proofs.PartLaws.{plan_small}
use Rattle.amr_layout.specs.Arounds.{around_of}
use Rattle.amr_lots.specs.declared.lot.Lot.{Lot}
use Rattle.amr_advance.specs.Lots.{CarryMasses, IsWholeLot}
use Rattle.amr_advance.proofs.MadeLots.{one_wanted}
use Rattle.amr_advance.proofs.WholeRun.{alone_carries, one_carries}
use Rattle.amr_advance.proofs.lots.one_lot.Goals as goal

pub part_frames-requires-clause-enough : goal.part_frames-requires-clause-enough
part_frames-requires-clause-enough c = plan_small (domain c.args.s.problem.now c.args.s.level) c.args.s.patches.now c.args.frames.now c.max-each.result 1 (spans_of c.args.s.filled (domain c.args.s.problem.now c.args.s.level) c.args.s.patches.now c.args.frames.now c.requires.frames) (omega (arith, c.max-each.ensures))

pub whole_lot-requires-clause-flows : goal.whole_lot-requires-clause-flows
whole_lot-requires-clause-flows c = c.requires.flows

pub whole_lot-requires-clause-copies : goal.whole_lot-requires-clause-copies
whole_lot-requires-clause-copies c = c.in_ok-parts.ensures.count

pub whole_lot-requires-clause-outer : goal.whole_lot-requires-clause-outer
whole_lot-requires-clause-outer c = c.in_ok-parts.ensures.outer_count

-- the one lot has a message to itself alone
pub returns-clause-masses : goal.returns-clause-masses
returns-clause-masses c = λ p l own old.
    let b : Box Lot = c.in_ok-lot.lot in
    let items : c.push_reserved.new.self.items ≡ b ∷ [] = c.push_reserved.ensures.items ∙ ap (λ (ys : List (Box Lot)). ys ++ b ∷ []) c.in_ok-lots.ensures.items in
    let made = c.in_ok-whole_lot.ensures c.max-each.result (omega (arith, c.max-each.ensures)) in
    record {
      packed = λ _. subst (CarryMasses own) (sym items) (one_carries own b (subst (λ (x : Lot). All (CarriesMasses own) x.workspace.outbox.items) (sym c.in_ok-lot.ensures.ok) (alone_carries made.serves.outbox own)));
      valued = λ is. absurd (false≢true is);
    }

pub returns-clause-lots : goal.returns-clause-lots
returns-clause-lots c =
    let s = around_of c.args.s in
    let each = c.max-each.result in
    let parts = c.in_ok-parts.parts in
    let b : Box Lot = c.in_ok-lot.lot in
    let xs : List (Box Lot) = c.push_reserved.new.self.items in
    let items : xs ≡ b ∷ [] = c.push_reserved.ensures.items ∙ ap (λ (ys : List (Box Lot)). ys ++ b ∷ []) c.in_ok-lots.ensures.items in
    let le : length c.args.s.patches.now ≤ each = omega (arith, c.max-each.ensures) in
    let count : length xs ≡ 1 = ap length items in
    let whole : IsWholeLot s each parts b.value = subst (IsWholeLot s each parts) (sym c.in_ok-lot.ensures.ok) (c.in_ok-whole_lot.ensures each le) in
    record {
      of_level = refl;
      some = omega (arith, c.max-each.ensures);
      enough = subst (λ n. length c.args.s.patches.now ≤ n * each) (sym count) (omega (arith, le));
      count = λ some. count ∙ sym (one_wanted 1 (length c.args.s.patches.now) (omega arith) some);
      small = c.requires.small;
      many = omega (arith, count);
      edges = c.requires.edges;
      plan = c.args.frames.now;
      planned = c.requires.frames;
      parts = parts;
      parted = subst (λ n. IsParted c.args.frames.now each n parts) (sym count) c.in_ok-parts.ensures;
      made = record { one = count; lot = λ x. subst (λ (ys : List (Box Lot)). IsWholeLot s each parts (get_or ys 0 x).value) (sym items) whole };
    }

pub returns-clause-one : goal.returns-clause-one
returns-clause-one c = ap length (c.push_reserved.ensures.items ∙ ap (λ (ys : List (Box Lot)). ys ++ c.in_ok-lot.lot ∷ []) c.in_ok-lots.ensures.items)
