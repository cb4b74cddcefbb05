use Rattle.std.proofs.Common.{◌∙◌, ◌++◌, ap}
use Rattle.amr_register.proofs.BandLists.{added}
use Rattle.amr_register.proofs.bands.add_band.Goals as goal

pub returns : goal.returns
returns c = λ p l m fine n size h k.
    let old = c.args.band.now in
    added p l m fine n size old c.args.next.now _
    (c.in_ok-extend_from_slice.ensures.items ∙ ap (λ cs. old.cells.items ++ cs) c.deref.ensures.value)
    (c.in_ok-extend_from_slice-2.ensures.items ∙ ap (λ ss. old.sides.items ++ ss) c.deref-2.ensures.value)
    h k
