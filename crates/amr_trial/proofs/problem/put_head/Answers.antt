use Rattle.std.proofs.Common.{◌≡◌, ℕ, List, ◌++◌, OnOk, subst, ◌∙◌}
use Rattle.amr_trial.specs.Parts.{head}
use Rattle.amr_trial.proofs.TextParts.{head_fragments}
use Rattle.amr_trial.proofs.problem.put_head.Goals as goal

pub returns : goal.returns
returns c =
    subst (λ (l : List ℕ). OnOk c.put.result (c.put.new.out.items ≡ c.args.out.now.items ++ l))
    (head_fragments c.from.result c.from-size.result c.from-2.result c.from-3.result ∙ (λ i. head (c.from.ensures i) (c.from-size.ensures i) (c.from-2.ensures i) (c.from-3.ensures i)))
    c.put.ensures
