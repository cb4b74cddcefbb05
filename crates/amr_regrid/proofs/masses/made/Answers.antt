use Rattle.std.proofs.Common.{◌∙◌, List, map, ap, sym, subst, refl, is_some}
use Rattle.std.specs.Option.{option_copied}
use Rattle.std.specs.List.{flat_map}
use Rattle.std.specs.List.Sorted.{IsPermutation}
use Rattle.amr_box.specs.Cells.{Extent, in_boxes}
use Rattle.amr_boxlist.specs.Chopped.{chopped}
use Rattle.amr_boxlist.specs.Lists.{AreApart, holders}
use Rattle.amr_def.specs.Regrid.{refilled}
use Rattle.amr_laws.proofs.Refill.{is_some-given}
use Rattle.amr_patch.specs.Levels.{level_of, patches_of}
use Rattle.amr_patch.specs.Patches.{box}
use Rattle.amr_patch.proofs.Apart.{apart_from_counts}
use Rattle.amr_patch.proofs.Keeping.{kept_boxes}
use Rattle.amr_transfer.specs.Shares.{masses_before}
use Rattle.amr_regrid.proofs.Remaking.{level_by}
use Rattle.amr_regrid.proofs.masses.made.Goals as goal

pub make-requires-clause-apart : goal.make-requires-clause-apart
make-requires-clause-apart g c =
    apart_from_counts holders (λ d. refl) (λ b bs d. refl) c.list.result.now (subst (λ (l : List Extent). AreApart l) (sym c.list.ensures.boxes) c.list.ensures.apart)

pub make-requires-clause-near : goal.make-requires-clause-near
make-requires-clause-near g c = c.requires.near

pub make-requires-clause-cells : goal.make-requires-clause-cells
make-requires-clause-cells g c = λ q. ap (λ (l : List Extent). in_boxes l q) c.list.ensures.boxes ∙ c.in_ok-patch_boxes.ensures.cells q

pub split_by-requires-clause-filled : goal.split_by-requires-clause-filled
split_by-requires-clause-filled g c = λ q.
    ap is_some (c.in_ok-level.ensures.masses q) ∙ is_some-given (in_boxes c.args.boxes.now q) 0 ∙ ap (λ (l : List Extent). in_boxes l q) (sym c.in_ok-level.ensures.boxes)

pub split_by-requires-clause-parents : goal.split_by-requires-clause-parents
split_by-requires-clause-parents g c = λ q h.
    c.requires.parents q (sym (is_some-given (in_boxes c.args.boxes.now q) 0) ∙ sym (ap is_some (c.in_ok-level.ensures.masses q)) ∙ h)

pub returns-clause-level : goal.returns-clause-level
returns-clause-level g c =
    let m = (level_of c.args.coarse.now).masses in
    let old = masses_before (option_copied c.args.old) in
    level_by (level_of c.split_by.new.fine) c.args.boxes.now (refilled m old c.args.boxes.now) (c.split_by.ensures.boxes ∙ c.in_ok-level.ensures.boxes)
    (c.split_by.ensures.masses ∙ ap (refilled m old) c.in_ok-level.ensures.boxes)

pub returns-clause-chopped : goal.returns-clause-chopped
returns-clause-chopped g c =
    let boxes = c.split_by.ensures.boxes ∙ c.in_ok-level.ensures.boxes in
    let list = c.list.ensures.boxes ∙ c.in_ok-patch_boxes.ensures.chopped ∙ ap (flat_map (chopped c.args.max)) (sym boxes) in
    let patches = sym (kept_boxes (patches_of c.in_ok-level.level) (patches_of c.split_by.new.fine) c.split_by.ensures.patches) in
    record { patches = subst (λ (l : List Extent). IsPermutation l (map box (patches_of c.split_by.new.fine))) list (subst (λ (l : List Extent). IsPermutation c.list.result.now l) patches c.in_ok-level.ensures.patches) }
