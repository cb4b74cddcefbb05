use Rattle.std.proofs.Common.{◌≡◌, List, length, get_or, map, sym, ap, ◌∙◌, arith, rules}
use Rattle.std.specs.Global.{Vec}
use Rattle.std.specs.Vec.{with_items}
use Rattle.std.proofs.lemmas.List.{with_items_is}
use Rattle.amr_def.specs.Domain.{domain_of}
use Rattle.amr_faces.specs.Faces.{masked_faces}
use Rattle.amr_patch.specs.Patches.{box}
use Rattle.amr_layout.specs.declared.PatchLayout.{PatchLayout}
use Rattle.amr_layout.specs.declared.PutAt.{PutAt}
use Rattle.amr_layout.proofs.Masks.{masks_all}
use Rattle.amr_layout.proofs.Planned.{image_at, image_length, lists_are}
use Rattle.amr_layout.proofs.places.place_borders.Goals as goal
use Rattle.amr_layout.proofs.places.place_borders.Goals.{After-drop-places}

pub hand_puts-requires : goal.hand_puts-requires
hand_puts-requires c = ap (λ (l : List (Vec PutAt)). length l) c.deref_mut.ensures.value ∙ c.in_ok-places.ensures.put.list_count ∙ sym (ap (λ (l : List PatchLayout). length l) c.deref_mut-2.ensures.value ∙ c.in_ok-places.ensures.count)

-- the patches with their puts
reads_now : (c : After-drop-places) → (with_items c.in_ok-places.reads c.hand_puts.new.patches).items ≡ c.hand_puts.new.patches
reads_now c = with_items_is c.in_ok-places.reads c.hand_puts.new.patches (search rules)

pub returns-clause-puts : goal.returns-clause-puts
returns-clause-puts c =
    ap (map (λ (t : PatchLayout). t.puts.items)) (reads_now c) ∙ c.hand_puts.ensures.puts ∙ ap (map (λ (v : Vec PutAt). v.items)) c.deref_mut.ensures.value
    ∙ lists_are (domain_of c.args.dom.now) c.args.patches.now c.args.each c.in_ok-places.places.count c.in_ok-places.places.lists.items c.in_ok-places.ensures.put

pub returns-clause-borders : goal.returns-clause-borders
returns-clause-borders c =
    ap (map (λ (t : PatchLayout). t.border.items)) (reads_now c) ∙ c.hand_puts.ensures.border ∙ ap (map (λ (t : PatchLayout). t.border.items)) c.deref_mut-2.ensures.value ∙ c.in_ok-places.ensures.borders

pub returns-clause-masks : goal.returns-clause-masks
returns-clause-masks c =
    let d = domain_of c.args.dom.now in
    let ps = c.args.patches.now in
    let old = c.in_ok-places.reads.items in
    let new = c.hand_puts.new.patches in
    let same : map (λ (t : PatchLayout). t.mask.items) new ≡ map (λ (t : PatchLayout). t.mask.items) old = c.hand_puts.ensures.mask ∙ ap (map (λ (t : PatchLayout). t.mask.items)) c.deref_mut-2.ensures.value in
    let count : length new ≡ length ps = image_length (λ (t : PatchLayout). t.mask.items) (λ (t : PatchLayout). t.mask.items) new old same ∙ c.in_ok-places.ensures.count in
    let all = masks_all d ps c.args.each ps new count (λ k q t lt.
    ap (masked_faces (box (get_or ps k q))) (image_at (λ (x : PatchLayout). x.mask.items) (λ (x : PatchLayout). x.mask.items) new old k t t same (omega (arith, lt, count)) (omega (arith, lt, c.in_ok-places.ensures.count)))
    ∙ c.in_ok-places.ensures.masks k q t lt) in
    rw (reads_now c) all
