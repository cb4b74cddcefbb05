use Rattle.std.proofs.Common.{◌≡◌, ◌-◌}
use Rattle.amr_payload.specs.Tests.{read_joined, read_rows_after}
use Rattle.amr_decoder.specs.Lefts.{left_of}
use Rattle.amr_decoder.proofs.Lists.{also_all}
use Rattle.amr_decoder.proofs.ledger.read_rows_after.Given as goal

-- what is still to read comes after the rows so far
abbrev pub invariant-loop-k : goal.invariant-loop-k
invariant-loop-k l = read_joined l.fn.rows.items (read_rows_after l.count l.fn.before (left_of l.fn.reader)) ≡ also_all l.rows.items (read_rows_after (l.count - l._k) l.last (left_of l.reader))
