use Rattle.amr_transfer.proofs.GivenCells.{given_span}
use Rattle.amr_transfer.proofs.spans.give.Goals as goal

pub returns : goal.returns
returns c mass is =
    given_span mass c.args.patch.now c.set_masses.new.self c.args.c c.args.masses.now c.requires.inside c.requires.room c.set_masses.ensures.set c.set_masses.ensures.others c.set_masses.ensures.marks c.set_masses.ensures.fluxes c.set_masses.ensures.of_box is
