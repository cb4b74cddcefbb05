use Rattle.std.proofs.Common.{◌<◌, get_or, IsTrue, refl, sym, ap, subst, arith, ℕ}
use Rattle.amr_box.specs.Cells.{holds}
use Rattle.amr_patch.specs.declared.patches.Patch.{Patch}
use Rattle.amr_patch.specs.Places.{in_frame}
use Rattle.amr_patch.specs.Patches.{box}
use Rattle.amr_ghost.specs.Strips.{step}
use Rattle.amr_ghost.specs.GhostCells.{KeepsCells, KeepsGhosts}
use Rattle.amr_ghost.proofs.Zips.{keeps_refl, zip_refl}
use Rattle.amr_ghost.proofs.Steps.{ghosts_refl}
use Rattle.amr_ghost.proofs.SetGhosts.{back_set, copied, front_set, in_back, in_front}
use Rattle.amr_ghost.proofs.ghosts.copy_strip.Goals as goal

pub returns-then-strip-eq0-clause-kept : goal.returns-then-strip-eq0-clause-kept
returns-then-strip-eq0-clause-kept c = zip_refl KeepsCells keeps_refl c.args.patches.now

pub returns-then-strip-eq0-clause-ghosts : goal.returns-then-strip-eq0-clause-ghosts
returns-then-strip-eq0-clause-ghosts c value mark d are = zip_refl (KeepsGhosts value mark) (ghosts_refl value mark) c.args.patches.now

pub returns-then-i-j : goal.returns-then-i-j
returns-then-i-j c =
    let ps = c.args.patches.now in
    let d = c.index-patches-i.result in
    copied ps _ c.args.i c.args.j d d (get_or ps c.args.i d) (get_or ps c.args.i d) c.copy_own_ghosts.new.patch c.args.strip.axis c.args.strip.from c.args.from c.args.strip.count c.requires.there c.requires.source c.requires.ghost_cells c.requires.beside
    refl (ap (λ (k : ℕ). get_or ps k d) c.if-i-j.true) refl c.copy_own_ghosts.ensures

pub copy_ghosts-requires-clause-masses : goal.copy_ghosts-requires-clause-masses
copy_ghosts-requires-clause-masses c k t =
    let e = c.index-back-0.result in
    subst (λ (p : Patch). IsTrue (holds (box p) (step c.args.strip.axis c.args.from k))) (sym (in_back c.args.patches.now c.split_at_mut-front.result.0.now c.split_at_mut-front.result.1.now c.args.j c.split_at_mut-front.ensures.value c.split_at_mut-front.ensures.front_len e)) (c.requires.masses e k t)

pub returns-then-i-j-2 : goal.returns-then-i-j-2
returns-then-i-j-2 c =
    let ps = c.args.patches.now in
    let front = c.split_at_mut-front.result.0.now in
    let back = c.split_at_mut-front.result.1.now in
    let parts = c.split_at_mut-front.ensures in
    let d = c.index-front-i.result in
    let e = c.index-back-0.result in
    copied ps _ c.args.i c.args.j d e (get_or front c.args.i d) (get_or back 0 e) c.copy_ghosts.new.patch c.args.strip.axis c.args.strip.from c.args.from c.args.strip.count c.requires.there c.requires.source c.requires.ghost_cells c.requires.beside
    (in_front ps front back c.args.j parts.value parts.front_len c.args.i d c.if-i-j-2.true)
    (in_back ps front back c.args.j parts.value parts.front_len e)
    (front_set ps front back c.args.j parts.value parts.front_len c.args.i c.copy_ghosts.new.patch c.if-i-j-2.true)
    c.copy_ghosts.ensures

pub copy_ghosts-requires-else-i-j-2-clause-ghost_cells : goal.copy_ghosts-requires-else-i-j-2-clause-ghost_cells
copy_ghosts-requires-else-i-j-2-clause-ghost_cells c k t =
    let d = c.index-back-0-else-i-j-2.result in
    subst (λ (p : Patch). IsTrue (in_frame (box p) (step c.args.strip.axis c.args.strip.from k))) (sym (in_back c.args.patches.now c.split_at_mut-front-else-i-j-2.result.0.now c.split_at_mut-front-else-i-j-2.result.1.now c.args.i c.split_at_mut-front-else-i-j-2.ensures.value c.split_at_mut-front-else-i-j-2.ensures.front_len d)) (c.requires.ghost_cells d k t)

pub returns-else-i-j-2 : goal.returns-else-i-j-2
returns-else-i-j-2 c =
    let ps = c.args.patches.now in
    let front = c.split_at_mut-front-else-i-j-2.result.0.now in
    let back = c.split_at_mut-front-else-i-j-2.result.1.now in
    let parts = c.split_at_mut-front-else-i-j-2.ensures in
    let d = c.index-back-0-else-i-j-2.result in
    let e = c.index-front-j.result in
    let before : c.args.j < c.args.i = omega (arith, c.if-i-j.false, c.if-i-j-2.false) in
    copied ps _ c.args.i c.args.j d e (get_or back 0 d) (get_or front c.args.j e) c.copy_ghosts-else-i-j-2.new.patch c.args.strip.axis c.args.strip.from c.args.from c.args.strip.count c.requires.there c.requires.source c.requires.ghost_cells c.requires.beside
    (in_back ps front back c.args.i parts.value parts.front_len d)
    (in_front ps front back c.args.i parts.value parts.front_len c.args.j e before)
    (back_set ps front back c.args.i parts.value parts.front_len c.copy_ghosts-else-i-j-2.new.patch)
    c.copy_ghosts-else-i-j-2.ensures
