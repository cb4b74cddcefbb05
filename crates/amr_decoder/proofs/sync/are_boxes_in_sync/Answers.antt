use Rattle.std.proofs.Common.{◌≡◌, ◌<◌, ◌+◌, ◌∙◌, List, length, get_or, refl, sym, ap, subst, arith, below_more}
use Rattle.std.specs.Prelude.{IsTrue}
use Rattle.std.proofs.lemmas.Bool.{both_ways}
use Rattle.amr_box.specs.declared.Cell.{Cell}
use Rattle.amr_box.specs.Cells.{Extent, has_child_where, holds}
use Rattle.amr_def.specs.Facts.{IsAligned}
use Rattle.amr_patch.specs.Levels.{level_of}
use Rattle.amr_patch.proofs.Apart.{in_boxes_at}
use Rattle.amr_patch.proofs.Lookups.{same_default}
use Rattle.amr_decoder.specs.Filled.{IsPlaced}
use Rattle.amr_decoder.specs.Synced.{IsSum}
use Rattle.amr_decoder.proofs.LevelReadings.{all_placed}
use Rattle.amr_decoder.proofs.Stacked.{in_some_box}
use Rattle.amr_decoder.proofs.sync.are_boxes_in_sync.Goals as goal

pub are_parents_in_sync-requires : goal.are_parents_in_sync-requires
are_parents_in_sync-requires c =
    let k = level_of c.args.fine.now in
    let i = c.loop-b.b-index in
    let b = c.b-item.result in
    let inside : i < length k.boxes = subst (λ (bs : List Extent). i < length bs) c.boxes-b-items.ensures c.loop-b-test.true in
    let here : b ≡ get_or k.boxes i b = c.b-item.is ∙ ap (λ (bs : List Extent). get_or bs i b) c.boxes-b-items.ensures in
    record {
      placed = subst (λ (e : Extent). IsPlaced e) (sym here) (all_placed c.args.p.now (c.args.l + 1) k (omega (arith, c.requires.level)) c.requires.fine i b inside);
      aligned = subst (λ (e : Extent). IsAligned c.args.p.now.blocking e) (sym here) (c.requires.aligned i b inside);
      cells = record { at = λ d held. c.requires.fine.filled d ∙ in_boxes_at k.boxes d i b inside (ap (λ (e : Extent). holds e d) (sym here) ∙ held) };
      parents = λ d held. c.requires.parents d (in_some_box k.boxes d i b inside (ap (λ (e : Extent). has_child_where (holds e) d) (sym here) ∙ held));
    }

pub loop-b-preserved : goal.loop-b-preserved
loop-b-preserved c =
    let items = c.boxes-b-items.result.now in
    let i = c.loop-b.b-index in
    let b = c.b-item.result in
    let m = (level_of c.args.coarse.now).masses in
    let f = (level_of c.args.fine.now).masses in
    below_more (λ k. (d : Extent) (e : Cell) → IsTrue (has_child_where (holds (get_or items k d)) e) → IsSum m f e) i c.loop-b.invariant
    (λ d e h. c.are_parents_in_sync.ensures.0 c.if-not-are_parents_in_sync.false e (ap (λ (x : Extent). has_child_where (holds x) e) (c.b-item.is ∙ same_default items i b d c.loop-b-test.true) ∙ h))

pub returns-then-not-are_parents_in_sync : goal.returns-then-not-are_parents_in_sync
returns-then-not-are_parents_in_sync c =
    let bs = (level_of c.args.fine.now).boxes in
    let i = c.loop-b.b-index in
    let b = c.b-item.result in
    let inside : i < length bs = subst (λ (bs : List Extent). i < length bs) c.boxes-b-items.ensures c.loop-b-test.true in
    let here : b ≡ get_or bs i b = c.b-item.is ∙ ap (λ (bs : List Extent). get_or bs i b) c.boxes-b-items.ensures in (
      λ h. absurd (cc),
      λ all. absurd (both_ways c.are_parents_in_sync.result c.if-not-are_parents_in_sync.true
          (c.are_parents_in_sync.ensures.1 (λ e h. all i b e inside (ap (λ (x : Extent). has_child_where (holds x) e) (sym here) ∙ h)))),
    )

pub returns : goal.returns
returns c =
    let l = c.loop-b in (
      λ h k d e lt held.
          let few : k < l.b-index = omega (arith, lt, c.loop-b-test.false, ap (λ (xs : List Extent). length xs) c.boxes-b-items.ensures) in
          l.invariant k few d e (ap (λ (bs : List Extent). has_child_where (holds (get_or bs k d)) e) c.boxes-b-items.ensures ∙ held),
      λ all. refl,
    )
