use Rattle.std.proofs.Common.{sym, subst, drop, ℕ, Option}
use Rattle.amr_store.proofs.PartsRead.{no_deltas, deltas_told}
use Rattle.amr_store.specs.Fields.{AreDeltas}
use Rattle.amr_store.proofs.check.read_deltas.Goals as goal

pub returns-then-head-ne3-clause-told : goal.returns-then-head-ne3-clause-told
returns-then-head-ne3-clause-told g c s is says = no_deltas c.args.head (drop c.args.base s) says c.if-head-ne3.true

pub returns-clause-told : goal.returns-clause-told
returns-clause-told g c s is says =
    let part = drop c.args.base s in
    subst (λ (d : Option ℕ). AreDeltas d part) (sym c.deltas_in.ensures.number)
    (deltas_told c.args.head part c.read_from.new.into c.in_ok-n.n says c.if-head-ne3.false c.read_from.auto.into (c.in_ok-n.ensures.told s is))
