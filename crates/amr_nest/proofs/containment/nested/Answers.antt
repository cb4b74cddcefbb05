use Rattle.std.proofs.Common.{◌≡◌, ◌∙◌, true, false, sym}
use Rattle.std.specs.Prelude.{◌↔◌, IsTrue}
use Rattle.std.proofs.lemmas.Result.{IfOk-weaker}
use Rattle.amr_def.specs.Domain.{domain_of}
use Rattle.amr_def.specs.Facts.{IsNestedIn}
use Rattle.amr_nest.proofs.containment.nested.Goals as goal

clash : false ≡ true → ⊥
clash e = cc

pub returns-then-not-are_aligned : goal.returns-then-not-are_aligned
returns-then-not-are_aligned c = (λ h. absurd (clash h), λ n. sym c.if-not-are_aligned.true ∙ c.are_aligned.ensures.1 n.aligned)

pub returns : goal.returns
returns c =
    IfOk-weaker c.are_surrounded.result _ (λ yes. IsTrue yes ↔ IsNestedIn (domain_of c.args.dom.now) c.args.blocking c.args.fine.now c.args.coarse.now)
    (λ yes around. (λ h. record { aligned = c.are_aligned.ensures.0 c.if-not-are_aligned.false; around = around.0 h }, λ n. around.1 n.around)) c.are_surrounded.ensures
