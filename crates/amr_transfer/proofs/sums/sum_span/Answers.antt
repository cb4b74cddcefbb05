use Rattle.std.proofs.Common.{◌<◌, get_or, length}
use Rattle.std.proofs.lemmas.Bool.{false_from_ne_true}
use Rattle.amr_box.specs.Cells.{holds}
use Rattle.amr_patch.specs.Patches.{box}
use Rattle.amr_patch.proofs.Lookups.{one_patch}
use Rattle.amr_transfer.specs.Given.{IsGiven, span}
use Rattle.amr_transfer.proofs.GivenCells.{given_none}
use Rattle.amr_transfer.proofs.PatchLists.{pairwise_set}
use Rattle.amr_transfer.proofs.RowSpans.{span_inside}
use Rattle.amr_transfer.proofs.sums.sum_span.Goals as goal

pub returns-clause-given : goal.returns-clause-given
returns-clause-given c mass is =
    let ps = c.args.patches.now in
    let j = c.in-Some.j in
    let d = c.index-patches-j.result in
    let n = c.sum_in_patch.result in
    let there : j < length ps = c.in-Some.ensures.found.inside in
    pairwise_set (IsGiven (holds (span c.args.c n)) mass) ps j d c.sum_in_patch.new.patch
    (c.sum_in_patch.ensures.given mass is)
    (λ i lt other. given_none (holds (span c.args.c n)) mass (get_or ps i d) (λ e h. false_from_ne_true (holds (span c.args.c n) e) (λ on. other (one_patch ps e i j d c.requires.apart lt there h (span_inside (box (get_or ps j d)) c.args.c n e (c.in-Some.ensures.found.holds_it d) c.sum_in_patch.ensures.inside on)))))
