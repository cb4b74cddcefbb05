use Rattle.amr_tests_levels.proofs.frames.fill_frames.Goals as goal

pub fill-requires : goal.fill-requires
fill-requires c = c.in_ok-sources.ensures.are
