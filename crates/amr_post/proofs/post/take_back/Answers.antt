use Rattle.amr_post.proofs.post.take_back.Goals as goal

pub take-requires-clause-to : goal.take-requires-clause-to
take-requires-clause-to c = (c.requires.fits c.in-Some.letter c.in-Some.is).0
