use Rattle.std.proofs.Common.{◌≡◌, ◌∙◌, ◌^◌, true, pos, ◌+ℤ◌, ◌≤ℤ◌, ◌<ℤ◌, List, map, refl, sym, subst}
use Rattle.std.specs.Prelude.{if◌then◌else◌, is_some}
use Rattle.std.proofs.lemmas.Bool.{false≢true}
use Rattle.std.specs.List.{Contains}
use Rattle.amr_box.specs.declared.Cell.{Cell}
use Rattle.amr_box.specs.Cells.{Extent}
use Rattle.amr_def.specs.State.{Masses, mass_of}
use Rattle.amr_patch.specs.Levels.{level_of, patches_of}
use Rattle.amr_patch.specs.Patches.{box}
use Rattle.amr_patch.proofs.Keeping.{kept_boxes}
use Rattle.amr_register.specs.declared.register.Register.{Register}
use Rattle.amr_register.specs.Entries.{with_entries}
use Rattle.amr_register.specs.Fields.{HasEdgesOf, IsPlaced, cells_in, entry_in}
use Rattle.amr_transfer.specs.Sums.{summed}
use Rattle.amr_advance.specs.KeptLayouts.{StaysKept}
use Rattle.amr_advance.proofs.correction.correct_kept.Goals as goal

pub reflux-requires-clause-placed : goal.reflux-requires-clause-placed
reflux-requires-clause-placed g c = subst IsPlaced (sym c.in_ok-corrected.ensures.register) c.requires.may.placed

pub reflux-requires-clause-edges : goal.reflux-requires-clause-edges
reflux-requires-clause-edges g c =
    let r = c.in_ok-corrected.corrected.register in
    subst (λ (bs : List Extent). HasEdgesOf bs r) (sym c.in_ok-corrected.ensures.tried.patches) (subst (HasEdgesOf (map box (patches_of c.args.level.now))) (sym c.in_ok-corrected.ensures.register) c.requires.may.edges)

pub reflux-requires-clause-of_level : goal.reflux-requires-clause-of_level
reflux-requires-clause-of_level g c =
    subst (λ (n : Masses). (d : Cell) → Contains (cells_in c.in_ok-corrected.corrected.register) d → is_some (n d) ≡ true) (sym (c.in_ok-corrected.ensures.tried.same c.if-corrected.false))
    (subst (λ (r : Register). (d : Cell) → Contains (cells_in r) d → is_some ((level_of c.args.level.now).masses d) ≡ true) (sym c.in_ok-corrected.ensures.register) c.requires.may.of_level)

pub reflux-requires-clause-kept : goal.reflux-requires-clause-kept
reflux-requires-clause-kept g c =
    let r = c.in_ok-corrected.corrected.register in
    subst (λ (n : Masses). (d : Cell) → Contains (cells_in r) d → pos 0 ≤ℤ (pos (mass_of n d) +ℤ entry_in r d)) (sym (c.in_ok-corrected.ensures.tried.same c.if-corrected.false))
    (subst (λ (s : Register). (d : Cell) → Contains (cells_in s) d → pos 0 ≤ℤ (pos (mass_of (level_of c.args.level.now).masses d) +ℤ entry_in s d)) (sym c.in_ok-corrected.ensures.register) c.requires.may.not_negative)

pub reflux-requires-clause-fits : goal.reflux-requires-clause-fits
reflux-requires-clause-fits g c =
    let r = c.in_ok-corrected.corrected.register in
    subst (λ (n : Masses). (d : Cell) → Contains (cells_in r) d → (pos (mass_of n d) +ℤ entry_in r d) <ℤ pos (2 ^ 32)) (sym (c.in_ok-corrected.ensures.tried.same c.if-corrected.false))
    (subst (λ (s : Register). (d : Cell) → Contains (cells_in s) d → (pos (mass_of (level_of c.args.level.now).masses d) +ℤ entry_in s d) <ℤ pos (2 ^ 32)) (sym c.in_ok-corrected.ensures.register) c.requires.may.fits)

pub returns-then-corrected-clause-corrected : goal.returns-then-corrected-clause-corrected
returns-then-corrected-clause-corrected g c =
    let tried = c.in_ok-corrected.ensures.tried in
    record { masses = tried.corrected c.if-corrected.true; boxes = tried.boxes; patches = tried.patches }

pub returns-clause-corrected : goal.returns-clause-corrected
returns-clause-corrected g c =
    let tried = c.in_ok-corrected.ensures.tried in
    let before = tried.same c.if-corrected.false in
    record {
      masses = c.sum_up.ensures.masses
          ∙ (λ i. summed (c.in_ok-corrected.ensures.finer i).masses (c.reflux.ensures.masses i))
          ∙ (λ i. summed (level_of c.args.finer.now).masses (with_entries (entry_in (c.in_ok-corrected.ensures.register i)) (before i)));
      boxes = c.sum_up.ensures.boxes ∙ c.reflux.ensures.boxes ∙ tried.boxes;
      patches =
          kept_boxes (patches_of c.reflux.new.level) (patches_of c.sum_up.new.coarse) c.sum_up.ensures.patches
          ∙ kept_boxes (patches_of c.correct_by_layout.new.level) (patches_of c.reflux.new.level) c.reflux.ensures.patches
          ∙ tried.patches;
    }

-- what is kept of the level is of its corrected masses
pub returns-then-corrected-clause-kept : goal.returns-then-corrected-clause-kept
returns-then-corrected-clause-kept g c =
    subst (λ b. StaysKept (λ own. (if b then (level_of c.correct_by_layout.new.level).masses else own)) c.args.kept.now c.correct_by_layout.new.kept) c.if-corrected.true c.in_ok-corrected.ensures.kept

pub returns-clause-kept : goal.returns-clause-kept
returns-clause-kept g c = λ p l own old h.
    c.forget.ensures p l own old (level_of c.sum_up.new.coarse).masses old (λ is. absurd (false≢true (sym is))) (λ _. refl)
    (subst (λ b. StaysKept (λ own. (if b then (level_of c.correct_by_layout.new.level).masses else own)) c.args.kept.now c.correct_by_layout.new.kept) c.if-corrected.false c.in_ok-corrected.ensures.kept p l own old h)
