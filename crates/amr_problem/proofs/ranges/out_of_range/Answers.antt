use Rattle.std.proofs.Common.{◌∙◌, sym}
use Rattle.amr_problem.proofs.EntryLaws.{in_range}
use Rattle.amr_problem.proofs.ranges.out_of_range.Goals as goal

pub returns-clause-first : goal.returns-clause-first
returns-clause-first c = rw (c.or-2.ensures, c.or.ensures, c.basics.ensures, c.refining.ensures, c.overlay.ensures)

pub returns-clause-in_range : goal.returns-clause-in_range
returns-clause-in_range c none = in_range c.args.entries.now (sym (returns-clause-first c) ∙ none)
