use Rattle.std.proofs.Common.{◌<◌, ℕ, false, refl, subst}
use Rattle.amr_patch.specs.Patches.{box}
use Rattle.amr_ghost.proofs.SetGhosts.{in_lent_marks, in_lent_values, lent_written}
use Rattle.amr_ghost.proofs.Spans.{begins_in_frame}
use Rattle.amr_ghost.proofs.ghosts.give_ghosts.Goals as goal

pub entries_of-target-requires-clause-inside : goal.entries_of-target-requires-clause-inside
entries_of-target-requires-clause-inside c = begins_in_frame (box c.args.patch.now) c.bx.result c.args.strip.axis c.args.strip.from c.bx.ensures.value (c.requires.ghost_cells 0 c.requires.some)

pub give_entries-requires-clause-within : goal.give_entries-requires-clause-within
give_entries-requires-clause-within c k t = in_lent_values c.args.patch.now c.args.strip c.entries_of-target.result c.deref_mut-data.ensures.value c.bx.ensures.value c.entries_of-target.ensures.places c.requires.ghost_cells c.deref_mut.ensures.value k (subst (λ (n : ℕ). k < n) c.requires.count t)

pub fill_entries-requires-clause-within : goal.fill_entries-requires-clause-within
fill_entries-requires-clause-within c = in_lent_marks c.args.patch.now c.args.strip c.entries_of-target.result c.deref_mut-data.ensures.value c.bx.ensures.value c.entries_of-target.ensures.places c.requires.ghost_cells c.deref_mut-2.ensures.value

pub returns : goal.returns
returns c =
    lent_written c.args.patch.now c.args.strip c.entries_of-target.result c.deref_mut-data.ensures.value c.bx.ensures.value c.entries_of-target.ensures.places c.requires.ghost_cells _
    refl refl c.deref_mut.ensures.value c.deref_mut.ensures.len c.deref_mut-2.ensures.value c.deref_mut-2.ensures.len c.requires.count (λ k t. refl) c.give_entries.ensures (c.fill_entries.ensures false)
