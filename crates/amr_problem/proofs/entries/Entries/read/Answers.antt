use Rattle.std.proofs.Common.{w64, rules}
use Rattle.std.proofs.lemmas.Int.{to_z-of_z}
use Rattle.amr_problem.proofs.entries.Entries.read.Goals as goal

pub returns-clause-read : goal.returns-clause-read
returns-clause-read c =
    let b = c.in_ok-basics.basics in
    record {
      basics = c.in_ok-basics.ensures.read;
      refining = c.in_ok-refining.ensures.read;
      overlay = rw (to_z-of_z w64 b.nx (search rules), to_z-of_z w64 b.ny (search rules)) at c.in_ok-overlay.ensures.read;
    }
