use Rattle.std.proofs.Common.{◌≡◌, ◌*◌, ◌++◌}
use Rattle.amr_trial.specs.Generator.{after}
use Rattle.amr_trial.specs.Parts.{more_blocks}
use Rattle.amr_trial.proofs.problem.put_more_blocks.Given as goal

-- so many blocks are drawn, and put
abbrev pub invariant-loop-k : goal.invariant-loop-k
invariant-loop-k l = record {
  drawn : l.generator ≡ after (5 * l._k) l.initial.generator;
  put : l.out.items ≡ l.initial.out.items ++ more_blocks l._k l.size l.initial.generator;
}
