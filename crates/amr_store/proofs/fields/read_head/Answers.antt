use Rattle.std.proofs.Common.{sym, subst, drop, Option}
use Rattle.amr_store.proofs.PartsRead.{head_told}
use Rattle.amr_store.specs.declared.fields.Head.{Head}
use Rattle.amr_store.specs.Fields.{IsHeadOf}
use Rattle.amr_store.proofs.fields.read_head.Goals as goal

pub returns-clause-told : goal.returns-clause-told
returns-clause-told g c s is =
    let part = drop c.args.base s in
    subst (λ (h : Option Head). IsHeadOf h c.args.takes_all part) (sym c.head_in.ensures) (head_told c.args.takes_all part c.read_from.new.into c.in_ok-n.n c.read_from.auto.into (c.in_ok-n.ensures.told s is))
