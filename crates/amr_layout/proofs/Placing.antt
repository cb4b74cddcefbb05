-- One more border face gets a place, and the patch that owns it the put.
use Rattle.std.proofs.Common.{◌≡◌, ℕ, suc, ◌+◌, ◌<◌, Bool, true, false, cond, List, [], ◌∷◌, ◌++◌, length, length-append, get_or, set, map, refl, sym, ap, subst, ◌∙◌, inl, inr, arith, append-nil}
use Rattle.std.proofs.lemmas.Bool.{false_from_ne_true}
use Rattle.std.specs.List.{filter}
use Rattle.std.specs.Global.{Vec}
use Rattle.std.proofs.lemmas.Bool.Decides.{eqb_tells}
use Rattle.std.proofs.lemmas.List.{append_assoc, length-set, get_or-set_same, get_or-set_other, map-append, length-map}
use Rattle.std.proofs.lemmas.List.Elements.{filter-append}
use Rattle.amr_box.specs.declared.Face.{Face}
use Rattle.amr_box.specs.Cells.{Extent, holds}
use Rattle.amr_def.specs.Domain.{Domain}
use Rattle.amr_def.specs.Flux.{high_cell}
use Rattle.amr_patch.specs.declared.patches.Patch.{Patch}
use Rattle.amr_patch.specs.Patches.{ArePatchesApart, box}
use Rattle.amr_patch.proofs.Lookups.{one_patch}
use Rattle.amr_layout.specs.declared.PutAt.{PutAt}
use Rattle.amr_layout.specs.declared.places.Places.{Places}
use Rattle.amr_layout.specs.Places.{ArePlacesOf, ArePut, HaveGot, home_face, placed, puts_among}

pub placed_append : (n : ℕ) (xs ys : List Face) → placed n (xs ++ ys) ≡ placed n xs ++ placed (n + length xs) ys
placed_append n [] ys = ap (λ k. placed k ys) (let e : n ≡ n + 0 = omega arith in e)
placed_append n (x ∷ xs) ys =
    let more : placed (suc n) (xs ++ ys) ≡ placed (suc n) xs ++ placed (suc n + length xs) ys = placed_append (suc n) xs ys in
    let same : suc n + length xs ≡ n + suc (length xs) = omega arith in
    ap (λ l. record { place = n; face = x } ∷ l) (more ∙ ap (λ k. placed (suc n) xs ++ placed k ys) same)

-- the put of the border face that comes next
abbrev pub put_of : Domain → ℕ → Face → PutAt
put_of d n f = record { place = n; face = home_face d f }

pub puts_more : (d : Domain) (b : Extent) (done : List Face) (f : Face) → puts_among d b (done ++ f ∷ []) ≡ puts_among d b done ++ cond (holds b (high_cell (home_face d f))) (put_of d (length done) f ∷ []) []
puts_more d b done f =
    let named : map (home_face d) (done ++ f ∷ []) ≡ map (home_face d) done ++ home_face d f ∷ [] = map-append (home_face d) done (f ∷ []) in
    let numbered : placed 0 (map (home_face d) done ++ home_face d f ∷ []) ≡ placed 0 (map (home_face d) done) ++ placed (0 + length (map (home_face d) done)) (home_face d f ∷ []) = placed_append 0 (map (home_face d) done) (home_face d f ∷ []) in
    let count : 0 + length (map (home_face d) done) ≡ length done = omega (arith, length-map done (home_face d)) in
    let own : PutAt → Bool = λ x. holds b (high_cell x.face) in
    ap (λ l. filter own (placed 0 l)) named
    ∙ ap (filter own) (numbered ∙ ap (λ k. placed 0 (map (home_face d) done) ++ placed k (home_face d f ∷ [])) count)
    ∙ filter-append own (placed 0 (map (home_face d) done)) (put_of d (length done) f ∷ [])

one_list : (d : Domain) (ps : List Patch) (done : List Face) (f : Face) (n : ℕ) (lists : List (Vec PutAt)) (j : ℕ) (new : Vec PutAt)
    → ArePatchesApart ps → ((e : Patch) → holds (box (get_or ps j e)) (high_cell (home_face d f)) ≡ true) → j < length ps
    → new.items ≡ (get_or lists j new).items ++ put_of d n f ∷ [] → ArePut d ps done n lists
    → (k : ℕ) (v : Vec PutAt) (q : Patch) → k < length ps → (get_or (set lists j new) k v).items ≡ puts_among d (box (get_or ps k q)) (done ++ f ∷ [])
one_list d ps done f n lists j new apart own there is put k v q below =
    let b = box (get_or ps k q) in
    let c = high_cell (home_face d f) in
    let more = puts_more d b done f in
    let count : put_of d n f ≡ put_of d (length done) f = ap (λ m. put_of d m f) put.places in
    elim (eqb_tells k j) [
      | inl here ↦
          let at : get_or (set lists j new) k v ≡ new = ap (λ i. get_or (set lists j new) i v) here.1 ∙ get_or-set_same lists j new v (omega (arith, put.list_count)) in
          let mine : holds b c ≡ true = ap (λ i. holds (box (get_or ps i q)) c) here.1 ∙ own q in
          let had : (get_or lists j new).items ≡ puts_among d b done = put.each j new q there ∙ ap (λ i. puts_among d (box (get_or ps i q)) done) (sym here.1) in
          ap (λ (w : Vec PutAt). w.items) at ∙ is ∙ ap (λ l. l ++ put_of d n f ∷ []) had ∙ ap (λ x. puts_among d b done ++ x ∷ []) count
          ∙ sym (more ∙ ap (λ t. puts_among d b done ++ cond t (put_of d (length done) f ∷ []) []) mine)
      | inr other ↦
          let at : get_or (set lists j new) k v ≡ get_or lists k v = get_or-set_other lists j k new v other.1 in
          let not_mine : holds b c ≡ false = false_from_ne_true (holds b c) (λ e. other.1 (one_patch ps c k j q apart below there e (own q))) in
          ap (λ (w : Vec PutAt). w.items) at ∙ put.each k v q below ∙ sym (append-nil (puts_among d b done))
          ∙ sym (more ∙ ap (λ t. puts_among d b done ++ cond t (put_of d (length done) f ∷ []) []) not_mine)
    ]

pub one_more : (d : Domain) (ps : List Patch) (done : List Face) (f : Face) (n : ℕ) (lists : List (Vec PutAt)) (j : ℕ) (new : Vec PutAt) (leads : Bool)
    → ArePatchesApart ps → leads ≡ true → ((e : Patch) → holds (box (get_or ps j e)) (high_cell (home_face d f)) ≡ true) → j < length ps
    → new.items ≡ (get_or lists j new).items ++ put_of d n f ∷ [] → ArePut d ps done n lists
    → ArePut d ps (done ++ cond leads (f ∷ []) []) (n + 1) (set lists j new)
one_more d ps done f n lists j new leads apart on own there is put =
    let P : List Face → Type 0 = λ l. ArePut d ps l (n + 1) (set lists j new) in
    subst P (ap (λ b. done ++ cond b (f ∷ []) []) (sym on)) (record {
      places = omega (arith, put.places, length-append done (f ∷ []));
      list_count = length-set lists j new ∙ put.list_count;
      each = one_list d ps done f n lists j new apart own there is put;
    })

pub no_puts_yet : (d : Domain) (ps : List Patch) (lists : List (Vec PutAt)) → length lists ≡ length ps → ((k : ℕ) (v : Vec PutAt) → k < length ps → (get_or lists k v).items ≡ []) → ArePut d ps [] 0 lists
no_puts_yet d ps lists e none = record { places = refl; list_count = e; each = λ k v q below. none k v below }

-- ---- border faces after others

pub got_none : (d : Domain) (ps : List Patch) (a : Places) → ArePlacesOf ps a → HaveGot d ps [] a a
got_none d ps a h = record { count = omega arith; places = h; put = λ done put. subst (λ (l : List Face). ArePut d ps l a.count a.lists.items) (sym (append-nil done)) put }

pub got_more : (d : Domain) (ps : List Patch) (fs gs : List Face) (a b e : Places) → HaveGot d ps fs a b → HaveGot d ps gs b e → HaveGot d ps (fs ++ gs) a e
got_more d ps fs gs a b e h k = record {
  count = omega (arith, h.count, k.count, length-append fs gs);
  places = k.places;
  put = λ done put. subst (λ (l : List Face). ArePut d ps l e.count e.lists.items) (append_assoc done fs gs) (k.put (done ++ fs) (h.put done put));
}

-- a face that doesn't lead on gets none
pub got_still : (d : Domain) (ps : List Patch) (a b : Places) (f : Face) (leads : Bool) → leads ≡ false → b.count ≡ a.count → b.lists ≡ a.lists → ArePlacesOf ps b → HaveGot d ps (cond leads (f ∷ []) []) a b
got_still d ps a b f leads e count lists h =
    subst (λ (t : Bool). HaveGot d ps (cond t (f ∷ []) []) a b) (sym e) (record {
      count = omega (arith, count);
      places = h;
      put = λ done put. subst (λ (l : List Face). ArePut d ps l b.count b.lists.items) (sym (append-nil done)) (subst (λ (n : ℕ). ArePut d ps done n b.lists.items) (sym count) (subst (λ (v : Vec (Vec PutAt)). ArePut d ps done a.count v.items) (sym lists) put));
    })
