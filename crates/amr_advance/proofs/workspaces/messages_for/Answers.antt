use Rattle.std.proofs.Common.{◌≡◌, ◌∙◌, ◌+◌, ◌*◌, ◌<◌, [], ◌∷◌, ◌++◌, length, sym, ap, arith}
use Rattle.std.specs.Prelude.{vec_capacity}
use Rattle.std.specs.Global.{Vec}
use Rattle.std.proofs.lemmas.List.{get_or_default}
use Rattle.amr_ghost.specs.Messages.{mass_count}
use Rattle.amr_ghost.specs.declared.messages.Message.{Message}
use Rattle.amr_ghost.specs.declared.parts.FrameCopy.{FrameCopy}
use Rattle.amr_advance.proofs.MadeMessages.{one_message}
use Rattle.amr_advance.proofs.workspaces.messages_for.Goals as goal
use Rattle.amr_advance.proofs.workspaces.messages_for.Goals.{then-t-own, else-t-own+in_ok-copies+in_ok-make}

pub loop-t-preserved : goal.loop-t-preserved
loop-t-preserved c =
    let done = c.loop-t.invariant in
    let t = c.loop-t.t in
    let xs = c.loop-t.messages.items in
    let ys = c.if-t-own.messages.items in
    let lists = c.args.lists.now in
    let place = c.args.first + t * c.args.stride in
    let below : place < length lists = c.requires.there t c.loop-t-test.true in
    elim c.if-t-own.branch [
      | then-t-own w ↦
          let x : Message = w.empty.result in
          let pushed : ys ≡ xs ++ x ∷ [] = ap (λ (v : Vec Message). v.items) w.messages-is ∙ w.push_reserved.ensures.items in
          record {
            room = omega (arith, done.room, w.push_reserved.ensures.capacity, ap (λ (v : Vec Message). vec_capacity v) w.messages-is);
            made = one_message lists c.args.first c.args.stride c.args.own t xs ys x done.made pushed (λ other v. absurd (other w.if-t-own.true)) (λ e. w.empty.ensures.copies) (ap length w.empty.ensures.masses ∙ sym (ap mass_count w.empty.ensures.copies));
          }
      | else-t-own+in_ok-copies+in_ok-make w ↦
          let x : Message = w.in_ok-make.field-0 in
          let pushed : ys ≡ xs ++ x ∷ [] = ap (λ (v : Vec Message). v.items) w.messages-is ∙ w.push_reserved-else-t-own.ensures.items in
          record {
            room = omega (arith, done.room, w.push_reserved-else-t-own.ensures.capacity, ap (λ (v : Vec Message). vec_capacity v) w.messages-is);
            made = one_message lists c.args.first c.args.stride c.args.own t xs ys x done.made pushed
                (λ other v. ap (λ (u : Vec FrameCopy). u.items) w.in_ok-make.ensures.copies ∙ w.in_ok-copies.ensures.items ∙ w.deref.ensures.value ∙ ap (λ (u : Vec FrameCopy). u.items) (w.index-lists-first.is ∙ get_or_default lists place w.index-lists-first.result v below))
                (λ e. absurd (w.if-t-own.false e)) w.in_ok-make.ensures.places;
          }
    ]
