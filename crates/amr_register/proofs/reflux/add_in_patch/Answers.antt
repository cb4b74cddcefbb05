use Rattle.std.proofs.Common.{◌≡◌, ◌∙◌, pos, ◌+ℤ◌, arith, sym}
use Rattle.std.specs.Prelude.{slice_index_or}
use Rattle.std.proofs.lemmas.Int.{ints}
use Rattle.amr_patch.specs.Patches.{mass_in}
use Rattle.amr_patch.proofs.Rows.{zero-cut}
use Rattle.amr_register.specs.declared.edges.EdgeCell.{EdgeCell}
use Rattle.amr_register.specs.Written.{by_number}
use Rattle.amr_register.proofs.PatchRefluxes.{at_start, next_held, next_mass, one_further}
use Rattle.amr_register.proofs.Taken.{no_edge}
use Rattle.amr_register.proofs.reflux.add_in_patch.Goals as goal

pub loop-n-init : goal.loop-n-init
loop-n-init c = at_start _ _ _

pub mass-mass-requires : goal.mass-mass-requires
mass-mass-requires c = next_held c.args.entries.now c.args.list.now c.args.patch.now c.loop-n.patch c.loop-n.n no_edge c.requires.once c.requires.of_patch c.loop-n.invariant c.loop-n-test.true

pub bounds-entries-edge : goal.bounds-entries-edge
bounds-entries-edge c = let inside = c.requires.numbers c.loop-n.n no_edge c.loop-n-test.true in omega (arith, inside)

pub with_entry-requires-clause-kept : goal.with_entry-requires-clause-kept
with_entry-requires-clause-kept c =
    let n = c.loop-n.n in
    let mass = next_mass c.args.entries.now c.args.list.now c.args.patch.now c.loop-n.patch n no_edge c.requires.once c.requires.of_patch c.loop-n.invariant c.loop-n-test.true in
    let kept = c.requires.kept n no_edge c.loop-n-test.true in
    omega (arith, ints, mass, kept, c.mass-mass.ensures.value)

pub with_entry-requires-clause-fits : goal.with_entry-requires-clause-fits
with_entry-requires-clause-fits c =
    let n = c.loop-n.n in
    let mass = next_mass c.args.entries.now c.args.list.now c.args.patch.now c.loop-n.patch n no_edge c.requires.once c.requires.of_patch c.loop-n.invariant c.loop-n-test.true in
    let fits = c.requires.fits n no_edge c.loop-n-test.true in
    omega (arith, ints, mass, fits, c.mass-mass.ensures.value)

pub set_mass-requires-clause-inside : goal.set_mass-requires-clause-inside
set_mass-requires-clause-inside c = next_held c.args.entries.now c.args.list.now c.args.patch.now c.loop-n.patch c.loop-n.n no_edge c.requires.once c.requires.of_patch c.loop-n.invariant c.loop-n-test.true

pub set_mass-requires-clause-small : goal.set_mass-requires-clause-small
set_mass-requires-clause-small c =
    let n = c.loop-n.n in
    let mass = next_mass c.args.entries.now c.args.list.now c.args.patch.now c.loop-n.patch n no_edge c.requires.once c.requires.of_patch c.loop-n.invariant c.loop-n-test.true in
    let fits = c.requires.fits n no_edge c.loop-n-test.true in
    omega (arith, ints, mass, fits, c.mass-mass.ensures.value, c.with_entry.ensures)

pub loop-n-preserved : goal.loop-n-preserved
loop-n-preserved c =
    let e : EdgeCell = slice_index_or c.args.list.now c.loop-n.n no_edge in
    let sum : pos c.with_entry.result ≡ pos (mass_in c.loop-n.patch e.cell) +ℤ by_number c.args.entries.now e.number = omega (arith, ints, c.with_entry.ensures, c.mass-mass.ensures.value) in
    let set = c.set_mass.ensures.set ∙ sym (zero-cut _ c.with_entry.result sum) in
    one_further c.args.entries.now c.args.list.now c.args.patch.now c.loop-n.patch c.loop-n.n no_edge c.requires.once c.requires.of_patch c.loop-n.invariant c.loop-n-test.true
    c.set_mass.new.self set c.set_mass.ensures.others c.set_mass.ensures.marks c.set_mass.ensures.fluxes c.set_mass.ensures.of_box
