use Rattle.std.proofs.Common.{◌≡◌, ◌++◌, take}
use Rattle.amr_io.specs.Buffered.{fragments_text}
use Rattle.amr_trial.proofs.fragments.put.Given as goal

-- the fragments so far are put
abbrev pub invariant-loop-fragment : goal.invariant-loop-fragment
invariant-loop-fragment l = l.out.items ≡ l.initial.out.items ++ fragments_text (take l.fragment-index l.fragments)
