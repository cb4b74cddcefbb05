use Rattle.std.proofs.Common.{◌∙◌, sym, refl}
use Rattle.amr_problem.proofs.JudgementLaws.{is_clean}
use Rattle.amr_problem.proofs.judgement.entry_fault.Goals as goal

pub returns-in-None-clause-clean : goal.returns-in-None-clause-clean
returns-in-None-clause-clean c none = is_clean c.args.entries.now (c.in-None.ensures.in_range refl) (sym c.in_range_fault.ensures ∙ none)
