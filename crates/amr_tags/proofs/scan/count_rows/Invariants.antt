use Rattle.std.proofs.Common.{◌≡◌, ◌-◌, ◌*◌, ◌≤◌, ◌^◌}
use Rattle.amr_tags.specs.Parts.{row_count, rows_from}
use Rattle.amr_tags.proofs.scan.count_rows.Given as goal

abbrev pub invariant-loop-j : goal.invariant-loop-j
invariant-loop-j l = (l.count ≡ rows_from (row_count l.per_row l.words l.from l.to) l.first (l.j - l.first)) × (l.count ≤ 2 ^ 27 * (l.j - l.first))
