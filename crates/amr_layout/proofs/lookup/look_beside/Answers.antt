use Rattle.std.proofs.Common.{sym}
use Rattle.amr_layout.proofs.lookup.look_beside.Goals as goal

pub gap_from-trace-requires-clause-columns : goal.gap_from-trace-requires-clause-columns
gap_from-trace-requires-clause-columns c = c.requires.look_up.has_starts.columns

pub gap_from-trace-requires-clause-rows : goal.gap_from-trace-requires-clause-rows
gap_from-trace-requires-clause-rows c = c.requires.look_up.has_starts.rows

pub returns-then-is_in_gap-clause-some : goal.returns-then-is_in_gap-clause-some
returns-then-is_in_gap-clause-some c = sym (c.is_in_gap.ensures.none c.args.patches.now c.requires.gap c.if-is_in_gap.true)
