use Rattle.amr_register.proofs.BarLists.{AddsBox, first_rows}
use Rattle.amr_register.proofs.bars.push_rows.Given as goal

abbrev pub invariant-loop-j : goal.invariant-loop-j
invariant-loop-j l = AddsBox (first_rows l.b l.j) l.initial.bars.items l.bars.items
