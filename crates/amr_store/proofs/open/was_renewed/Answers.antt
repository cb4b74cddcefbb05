use Rattle.std.proofs.Common.{◌≡◌, ◌+◌, ◌&&◌, nat_lt, length, ℕ, subst}
use Rattle.std.proofs.lemmas.Result.{IfOk-weaker}
use Rattle.amr_store.proofs.Openings.{maybe_renewed}
use Rattle.amr_store.specs.Stored.{is_open}
use Rattle.amr_store.proofs.open.was_renewed.Goals as goal

pub returns-clause-told : goal.returns-clause-told
returns-clause-told g c =
    IfOk-weaker c.has_open_gate.result _ _ (λ has told s is says.
    maybe_renewed c.args.head s has says c.if-head-ne1.false (subst (λ (n : ℕ). has ≡ (nat_lt (n + 1) (length s) && is_open s n)) c.end_of.ensures.place (told s is))) c.has_open_gate.ensures.told
