use Rattle.std.proofs.Common.{◌≡◌, ℕ, ◌+◌, ◌*◌, ◌<◌, ◌≤◌, ◌++◌, List, [], ◌∷◌, length, length-append, get_or, map, take, ap, sym, subst, ◌∙◌, arith}
use Rattle.amr_box.specs.declared.Face.{Face}
use Rattle.amr_box.specs.Cells.{Extent, height, width}
use Rattle.amr_def.specs.Domain.{domain_of}
use Rattle.amr_patch.specs.declared.patches.Patch.{Patch}
use Rattle.amr_patch.specs.Patches.{box}
use Rattle.amr_phase.specs.Plans.{total}
use Rattle.amr_phase.proofs.Sums.{same_default, total_more, total_take}
use Rattle.amr_layout.specs.Surroundings.{edge_count}
use Rattle.amr_faces.specs.Faces.{masked_faces}
use Rattle.amr_layout.specs.declared.PatchLayout.{PatchLayout}
use Rattle.amr_layout.specs.Places.{ArePut, HasMask, borders_of, holder_of, level_borders}
use Rattle.amr_layout.proofs.Groups.{reader_is}
use Rattle.amr_layout.proofs.LevelPlaces.{borders_few, level_more, no_borders, places_more}
use Rattle.amr_layout.proofs.Masks.{masks_more}
use Rattle.amr_layout.proofs.Placing.{no_puts_yet}
use Rattle.amr_layout.proofs.places.place_reads.Goals as goal

-- the faces of one more patch, and of all
counted : (ps : List Patch) (i : ℕ) (q : Patch) (b : Extent) → i < length ps → q ≡ get_or ps i q → b ≡ box q
    → (total (λ (r : Patch). edge_count (box r)) (take (i + 1) ps) ≡ total (λ (r : Patch). edge_count (box r)) (take i ps) + 2 * (height b + width b)) × (total (λ (r : Patch). edge_count (box r)) (take (i + 1) ps) ≤ total (λ (r : Patch). edge_count (box r)) ps)
counted ps i q b lt e is =
    let here : edge_count b ≡ edge_count (box (get_or ps i q)) = ap (λ (x : Extent). edge_count x) is ∙ ap (λ (r : Patch). edge_count (box r)) e in
    (omega (arith, total_more (λ (r : Patch). edge_count (box r)) ps i q lt, here), total_take (λ (r : Patch). edge_count (box r)) ps (i + 1))

pub reads_of-requires-clause-room : goal.reads_of-requires-clause-room
reads_of-requires-clause-room c =
    let one = counted c.args.patches.now c.loop-i.i c.index-patches-i.result c.bx.result (omega arith) c.index-patches-i.is c.bx.ensures.value in
    omega (arith, one.0, one.1, c.loop-i.invariant.count, c.requires.few)

pub reads_of-requires-clause-reader : goal.reads_of-requires-clause-reader
reads_of-requires-clause-reader c =
    let ps = c.args.patches.now in
    let i = c.loop-i.i in
    let q = c.index-patches-i.result in
    sym (ap (λ (b : Extent). holder_of ps b.lo) c.bx.ensures.value ∙ ap (λ (r : Patch). holder_of ps (box r).lo) c.index-patches-i.is ∙ reader_is ps i q c.requires.look_up.apart (omega arith))

pub reads_of-requires-clause-places : goal.reads_of-requires-clause-places
reads_of-requires-clause-places c = record { lists = c.loop-i.invariant.put.list_count; gap = c.loop-i.invariant.gap }

pub loop-i-init : goal.loop-i-init
loop-i-init c =
    let d = domain_of c.args.dom.now in
    let ps = c.args.patches.now in
    let lists = c.in_ok-no_puts.field-0.items in
    let P : List Face → Type 0 = λ l. ArePut d ps l 0 lists in
    record {
      count = omega arith;
      gap = tt;
      put = subst P (sym (no_borders d ps c.args.each)) (no_puts_yet d ps lists c.in_ok-no_puts.ensures.count c.in_ok-no_puts.ensures.empty);
      borders = ap (map (λ (t : PatchLayout). t.border.items)) c.in_ok-reads.ensures.items;
      read_count = ap length c.in_ok-reads.ensures.items;
      masks = λ k q t lt. absurd (omega (arith, lt));
    }

pub loop-i-preserved : goal.loop-i-preserved
loop-i-preserved c =
    let d = domain_of c.args.dom.now in
    let ps = c.args.patches.now in
    let each = c.args.each in
    let i = c.loop-i.i in
    let q = c.index-patches-i.result in
    let lt : i < length ps = omega arith in
    let layout = c.in_ok-layout.layout in
    let lists = c.reads_of.new.places.lists.items in
    let count = c.reads_of.new.places.count in
    let P : List Face → Type 0 = λ l. ArePut d ps l count lists in
    let more = subst P (ap (λ (b : Extent). level_borders d ps each (take i ps) ++ borders_of d ps each b) c.bx.ensures.value ∙ sym (level_more d ps each i q lt c.index-patches-i.is)) (c.in_ok-layout.ensures.got.put (level_borders d ps each (take i ps)) c.loop-i.invariant.put) in
    let items = c.in_ok-push.ensures.items in
    record {
      count = omega (arith, c.in_ok-layout.ensures.got.count, borders_few d ps each c.bx.result, c.loop-i.invariant.count, (counted ps i q c.bx.result lt c.index-patches-i.is c.bx.ensures.value).0);
      gap = c.in_ok-layout.ensures.got.places.gap;
      put = more;
      borders = ap (map (λ (t : PatchLayout). t.border.items)) items ∙ places_more d ps each (λ (t : PatchLayout). t.border.items) i c.loop-i.places.count count c.loop-i.reads.items layout c.loop-i.places.lists.items lists c.loop-i.invariant.put more c.in_ok-layout.ensures.border c.loop-i.invariant.borders;
      read_count = omega (arith, ap length items, length-append c.loop-i.reads.items (layout ∷ []), c.loop-i.invariant.read_count);
      masks = λ k r t below.
          let P : List PatchLayout → Type 0 = λ l. HasMask d ps each (get_or ps k r) (get_or l k t) in
          subst P (sym items) (masks_more d ps each i c.loop-i.reads.items layout c.loop-i.invariant.read_count
          (λ z. let at : c.bx.result ≡ box (get_or ps i z) = c.bx.ensures.value ∙ ap (λ (y : Patch). box y) (c.index-patches-i.is ∙ same_default ps i q z lt) in
          let B : Extent → Type 0 = λ b. masked_faces b layout.mask.items ≡ borders_of d ps each b in subst B at c.in_ok-layout.ensures.mask)
          c.loop-i.invariant.masks k r t below);
    }
