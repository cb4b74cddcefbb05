use Rattle.std.proofs.Common.{◌≡◌, ◌∙◌, ◌&&◌, ◌++◌, ◌∷◌, [], List, Bool, cond, map, ap, sym, subst, rules, refl}
use Rattle.std.specs.List.{flat_map}
use Rattle.std.specs.List.Sorted.{IsPermutation}
use Rattle.std.proofs.lemmas.List.{append-nil}
use Rattle.std.specs.declared.option.Option.TheVariants.{None, Some}
use Rattle.amr_box.specs.Cells.{Extent, holds, in_boxes}
use Rattle.amr_boxlist.specs.Chopped.{chopped}
use Rattle.amr_boxlist.specs.Lists.{AreApart, holders}
use Rattle.amr_patch.specs.Levels.{patches_of}
use Rattle.amr_patch.specs.Patches.{AreNear, box}
use Rattle.amr_patch.proofs.Apart.{apart_from_counts}
use Rattle.amr_start.proofs.Placing.{in_one_box, near_alone}
use Rattle.amr_start.proofs.blank.blank_level.Goals as goal

pub push_disjoint-requires : goal.push_disjoint-requires
push_disjoint-requires c d = ap (λ (l : List Extent). in_boxes l d && holds c.args.whole d) c.make-chopped.ensures

pub make-requires-clause-apart : goal.make-requires-clause-apart
make-requires-clause-apart c =
    apart_from_counts holders (λ d. refl) (λ b bs d. refl) c.list.result.now (subst (λ (l : List Extent). AreApart l) (sym c.list.ensures.boxes) c.list.ensures.apart)

pub make-requires-clause-near : goal.make-requires-clause-near
make-requires-clause-near c =
    let items : c.in_ok-boxes.boxes.items ≡ c.args.whole ∷ [] = search rules in
    subst (λ (l : List Extent). AreNear l) (sym (c.deref.ensures.value ∙ items)) (near_alone c.args.whole c.requires.near)

pub make-requires-clause-cells : goal.make-requires-clause-cells
make-requires-clause-cells c d =
    let items : c.in_ok-boxes.boxes.items ≡ c.args.whole ∷ [] = search rules in
    ap (λ (l : List Extent). in_boxes l d) c.list.ensures.boxes
    ∙ c.in_ok-chop.ensures.cells d
    ∙ ap (λ (l : List Extent). in_boxes l d) (c.in_ok-push_disjoint.ensures.ok ∙ ap (λ (l : List Extent). l ++ c.args.whole ∷ []) c.make-chopped.ensures)
    ∙ sym (ap (λ (l : List Extent). in_boxes l d) (c.deref.ensures.value ∙ items))

pub returns-clause-boxes : goal.returns-clause-boxes
returns-clause-boxes c =
    let items : c.in_ok-boxes.boxes.items ≡ c.args.whole ∷ [] = search rules in
    c.in_ok-level.ensures.boxes ∙ c.deref.ensures.value ∙ items

pub returns-clause-masses : goal.returns-clause-masses
returns-clause-masses c d =
    let items : c.in_ok-boxes.boxes.items ≡ c.args.whole ∷ [] = search rules in
    c.in_ok-level.ensures.masses d
    ∙ ap (λ (t : Bool). cond t (Some 0) None) (ap (λ (l : List Extent). in_boxes l d) (c.deref.ensures.value ∙ items) ∙ in_one_box c.args.whole d)

pub returns-clause-patches : goal.returns-clause-patches
returns-clause-patches c =
    let max = c.args.max in
    let alone : c.push_disjoint.new.self ≡ c.args.whole ∷ [] = c.in_ok-push_disjoint.ensures.ok ∙ ap (λ (l : List Extent). l ++ c.args.whole ∷ []) c.make-chopped.ensures in
    let list : c.list.result.now ≡ chopped max c.args.whole = c.list.ensures.boxes ∙ c.in_ok-chop.ensures.chopped ∙ ap (flat_map (chopped max)) alone ∙ append-nil (chopped max c.args.whole) in
    record { patches = subst (λ (l : List Extent). IsPermutation l (map box (patches_of c.in_ok-level.level))) list c.in_ok-level.ensures.patches }
