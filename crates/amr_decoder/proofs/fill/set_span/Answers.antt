use Rattle.std.proofs.Common.{ℕ, length-take, arith}
use Rattle.std.proofs.lemmas.Int.{ints}
use Rattle.amr_decoder.proofs.Filling.{span_set}
use Rattle.amr_decoder.proofs.fill.set_span.Goals as goal

pub set_masses-requires-clause-room : goal.set_masses-requires-clause-room
set_masses-requires-clause-room c =
    omega (arith, ints, length-take {A = ℕ} c.min-count.result c.args.masses.now, c.min-count.ensures, c.room_from.ensures)

pub returns-clause-set : goal.returns-clause-set
returns-clause-set c =
    let k = c.in-Some.k in
    let d = c.index-patches-k.result in
    let n = c.min-count.result in
    let ms = c.args.masses.now in
    span_set c.args.patches.now k d c.set_masses.new.self c.args.c ms n c.in-Some.ensures.found.inside c.set_masses.ensures.of_box c.requires.apart (c.in-Some.ensures.found.holds_it d)
    (omega (arith, ints, c.min-count.ensures, c.room_from.ensures)) (omega (arith, c.min-count.ensures)) c.set_masses.ensures.set c.set_masses.ensures.others
