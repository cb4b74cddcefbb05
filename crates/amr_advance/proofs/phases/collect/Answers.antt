use Rattle.std.proofs.Common.{◌≡◌, ◌+◌, None, length, sym, ap, subst, ◌∙◌, arith}
use Rattle.std.specs.Global.{Box}
use Rattle.std.proofs.lemmas.List.{length_push}
use lib.ListN.{get_elem?}
use Rattle.amr_board.specs.Ended.{EndedOf, total_of}
use Rattle.amr_lots.specs.declared.lot.Lot.{Lot}
use Rattle.amr_lots.specs.declared.lot.Work.{Work}
use Rattle.amr_lots.specs.Ready.{MayComplete}
use Rattle.amr_advance.specs.Phases.{IsCollected, IsPieceOf}
use Rattle.amr_advance.proofs.MadeMessages.{one_more}
use Rattle.amr_advance.proofs.Pieces.{one_piece, other_piece, still_complete}
use Rattle.amr_advance.proofs.phases.collect.Goals as goal

pub hand-work-requires : goal.hand-work-requires
hand-work-requires c =
    let there = c.requires.pieces c.loop-task.task c.loop-task-test.true in
    (there.piece, c.loop-task.invariant.rest c.loop-task.task (omega arith) ∙ there.given)

pub loop-task-preserved : goal.loop-task-preserved
loop-task-preserved c =
    let inv = c.loop-task.invariant in
    let at = c.loop-task.task in
    let xs = c.loop-task.lots.items in
    let gone = c.hand-work.ensures.gone in
    let handed : IsPieceOf c.args.ended.now at c.hand-work.result = sym (inv.rest at (omega arith)) ∙ c.hand-work.ensures.piece in
    record {
      places = ap (λ (o : EndedOf Work). o.places) gone ∙ inv.places;
      registers = ap (λ (o : EndedOf Work). o.registers) gone ∙ inv.registers;
      words = ap (λ (o : EndedOf Work). o.words) gone ∙ inv.words;
      rest = λ t from. ap (λ (o : EndedOf Work). get_elem? o.pieces t) gone ∙ other_piece c.loop-task.ended.pieces at t None (omega (arith, from)) ∙ inv.rest t (omega (arith, from));
      done = λ t w x lt given.
          one_more (λ j (y : Box Lot). (v : Work) → IsPieceOf c.args.ended.now j v → IsCollected v y) xs c.push_reserved.new.self.items c.lot_of.result at inv.count c.push_reserved.ensures.items (λ j d below v is. inv.done j v d below is)
          (λ v is. subst (λ u. IsCollected u c.lot_of.result) (one_piece c.args.ended.now at c.hand-work.result v handed is)
          (record { piece = c.complete.new.work; finished = c.complete.ensures.finished; stands = c.complete.ensures.stands; lot = c.lot_of.ensures }))
          t x (omega (arith, lt)) w given;
      count = ap length c.push_reserved.ensures.items ∙ length_push xs c.lot_of.result ∙ ap (λ n. n + 1) inv.count;
      room = c.push_reserved.ensures.capacity ∙ inv.room;
    }

pub complete-requires : goal.complete-requires
complete-requires c =
    let inv = c.loop-task.invariant in
    let at = c.loop-task.task in
    let there = c.requires.pieces at c.loop-task-test.true in
    let gone = c.hand-work.ensures.gone in
    let handed : IsPieceOf c.args.ended.now at c.hand-work.result = sym (inv.rest at (omega arith)) ∙ c.hand-work.ensures.piece in
    still_complete c.args.p.now c.args.ended.now c.hand-work.new.self c.hand-work.result (ap (λ (o : EndedOf Work). o.places) gone ∙ inv.places) (ap (λ (o : EndedOf Work). o.words) gone ∙ inv.words)
    (subst (MayComplete c.args.p.now c.args.ended.now) (one_piece c.args.ended.now at there.piece c.hand-work.result there.given handed) there.complete)

pub returns-clause-lots : goal.returns-clause-lots
returns-clause-lots c =
    let n = c.loop-task.task in
    let all : n ≡ c.args.count = omega (arith, c.loop-task-test.false) in
    record { count = c.loop-task.invariant.count ∙ all; each = λ t w x lt given. c.loop-task.invariant.done t w x (omega (arith, lt, all)) given }

pub returns-clause-totals : goal.returns-clause-totals
returns-clause-totals c word = λ i. total_of (record { places = c.loop-task.invariant.places i; registers = c.loop-task.invariant.registers i; words = c.loop-task.invariant.words i; pieces = c.loop-task.ended.pieces }) word
