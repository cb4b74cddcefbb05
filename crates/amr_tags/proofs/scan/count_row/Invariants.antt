use Rattle.std.proofs.Common.{◌≡◌, ◌*◌, ◌≤◌}
use Rattle.amr_tags.specs.Parts.{count_from, in_columns}
use Rattle.amr_tags.proofs.scan.count_row.Given as goal

abbrev pub invariant-loop-w : goal.invariant-loop-w
invariant-loop-w l = (l.count ≡ count_from (in_columns l.per_row l.words l.j l.from l.to) 0 (64 * l.w)) × (l.count ≤ 64 * l.w)
