use Rattle.amr_post.proofs.post.RankChannel.deliver.Goals as goal

pub deliver_all-requires-clause-expects : goal.deliver_all-requires-clause-expects
deliver_all-requires-clause-expects g c = let may = c.requires in (may.letters, may.same, may.expects)
