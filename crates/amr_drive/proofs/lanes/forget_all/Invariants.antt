use Rattle.std.specs.Prelude.{slice_index_or}
use Rattle.amr_drive.specs.Lanes.{HasForgotten}
use Rattle.amr_drive.proofs.Written.{WrittenTo}
use Rattle.amr_drive.proofs.lanes.forget_all.Given as goal

abbrev pub invariant-loop-k : goal.invariant-loop-k
invariant-loop-k l = WrittenTo (λ j e lane. HasForgotten (slice_index_or l.fn.lanes j e) lane) l.fn.lanes l.lanes l.k
