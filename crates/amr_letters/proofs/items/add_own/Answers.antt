use Rattle.amr_letters.specs.Between.{told_of, told_to}
use Rattle.amr_letters.specs.Shared.{sharing}
use Rattle.amr_letters.proofs.Added.{added_none, added_same, on_ok, others_silent, own_told}
use Rattle.amr_letters.proofs.items.add_own.Goals as goal

pub returns-then-s-number : goal.returns-then-s-number
returns-then-s-number c =
    added_none (λ from. told_to (sharing c.args.s) from c.args.to c.args.number) c.args.lists.now.items (λ from. others_silent (sharing c.args.s) c.args.to c.args.number _ c.if-s-number.true from)

pub returns : goal.returns
returns c =
    on_ok c.add_frame.result c.add_frame.ensures
    (added_same (λ from. told_of (sharing c.args.s) from c.args.number) (λ from. told_to (sharing c.args.s) from c.args.to c.args.number) _ _ (λ from. own_told (sharing c.args.s) c.args.to c.args.number _ c.if-s-number.false from))
