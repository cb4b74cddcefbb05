use Rattle.std.proofs.Common.{◌++◌, take, arith}
use Rattle.std.proofs.lemmas.Grind.{common_steps}
use Rattle.amr_causes.proofs.ByteLaws.{consumes_more}
use Rattle.amr_io.proofs.source.read_all.Goals as goal

pub returns-in_err-extend_from_slice-clause-taken :
    goal.returns-in_err-extend_from_slice-clause-taken
returns-in_err-extend_from_slice-clause-taken g c = (
  c.loop-chunk.all.items ++ take c.in_ok-n.n c.read.new.into,
  consumes_more _ _ _ _ _ c.loop-chunk.invariant.taken c.in_ok-n.ensures.bytes.0,
  grind (arith, common_steps, c.in_ok-n.ensures.bound),
)
