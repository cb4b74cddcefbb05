-- The border faces and their places, patch by patch.
use Rattle.std.proofs.Common.{◌≡◌, ℕ, suc, ◌+◌, ◌-◌, ◌<◌, ◌≤◌, List, [], ◌∷◌, ◌++◌, length, length-append, get_or, map, take, refl, sym, ap, ◌∙◌, add-one, append-nil, arith}
use Rattle.std.specs.List.{flat_map, range_with_len}
use Rattle.std.specs.Global.{Vec}
use Rattle.std.proofs.lemmas.List.{map-append, take_more}
use Rattle.std.proofs.lemmas.List.FromFn.{map-range_with_len_more}
use Rattle.std.proofs.lemmas.Grind.{flat_map-append}
use Rattle.amr_box.specs.declared.Face.{Face}
use Rattle.amr_box.specs.Cells.{Extent, height, width}
use Rattle.amr_box.proofs.Numbers.{range_more}
use Rattle.amr_def.specs.Domain.{Domain}
use Rattle.amr_patch.specs.declared.patches.Patch.{Patch}
use Rattle.amr_patch.specs.Patches.{box}
use Rattle.amr_faces.specs.Faces.{passing, x_end, y_end}
use Rattle.amr_layout.specs.declared.PutAt.{PutAt}
use Rattle.amr_layout.specs.Places.{ArePut, border_places, borders_of, holder_of, leads_on, level_borders, places_before}
use Rattle.amr_layout.proofs.Passing.{passing_length}

pub range_next : (first k : ℕ) → first ≤ k → range_with_len first (k + 1 - first) ≡ range_with_len first (k - first) ++ k ∷ []
range_next first k le =
    let one : k + 1 - first ≡ suc (k - first) = omega arith in
    let last : first + (k - first) ≡ k = omega arith in
    ap (range_with_len first) one ∙ range_more first (k - first) ∙ ap (λ j. range_with_len first (k - first) ++ j ∷ []) last

module _ (d : Domain) (ps : List Patch) (each : ℕ) where
  pub no_borders : level_borders d ps each (take 0 ps) ≡ []
  unfolding level_borders
  no_borders = refl

  pub level_more : (i : ℕ) (q : Patch) → i < length ps → q ≡ get_or ps i q → level_borders d ps each (take (i + 1) ps) ≡ level_borders d ps each (take i ps) ++ borders_of d ps each (box q)
  unfolding level_borders
  level_more i q lt e =
      let of : Patch → List Face = λ p. borders_of d ps each (box p) in
      ap (flat_map of) (take_more ps i q lt ∙ ap (λ p. take i ps ++ p ∷ []) (sym e)) ∙ flat_map-append of (take i ps) (q ∷ []) ∙ ap (λ l. flat_map of (take i ps) ++ l) (append-nil (of q))

  pub borders_is : (b : Extent) → borders_of d ps each b ≡ passing (leads_on d ps each (holder_of ps b.lo)) (x_end b) (height b) ++ passing (leads_on d ps each (holder_of ps b.lo)) (y_end b) (width b)
  unfolding borders_of
  borders_is b = refl

  places_is : (i first end : ℕ) (v : List ℕ) → first ≡ length (level_borders d ps each (take i ps)) → end ≡ length (level_borders d ps each (take (i + 1) ps)) → v ≡ range_with_len first (end - first) → v ≡ border_places d ps each i
  unfolding border_places places_before
  places_is i first end v a b e =
      let last : end ≡ length (level_borders d ps each (take (suc i) ps)) = b ∙ ap (λ k. length (level_borders d ps each (take k ps))) (add-one i) in
      e ∙ ap (λ k. range_with_len k (end - k)) a ∙ ap (λ k. range_with_len (length (level_borders d ps each (take i ps))) (k - length (level_borders d ps each (take i ps)))) last

  pub places_more : {A : Type 0} (read : A → List ℕ) (i first end : ℕ) (vs : List A) (new : A) (lists lists' : List (Vec PutAt))
      → ArePut d ps (level_borders d ps each (take i ps)) first lists → ArePut d ps (level_borders d ps each (take (i + 1) ps)) end lists' → read new ≡ range_with_len first (end - first)
      → map read vs ≡ map (border_places d ps each) (range_with_len 0 i) → map read (vs ++ new ∷ []) ≡ map (border_places d ps each) (range_with_len 0 (i + 1))
  places_more read i first end vs new lists lists' a b e before =
      map-append read vs (new ∷ []) ∙ ap (λ l. l ++ read new ∷ []) before ∙ ap (λ l. map (border_places d ps each) (range_with_len 0 i) ++ l ∷ []) (places_is i first end (read new) a.places b.places e)
      ∙ sym (map-range_with_len_more (border_places d ps each) 0 i i (let z : 0 + i ≡ i = omega arith in z))

  -- at most one for each row and column
  pub borders_few : (b : Extent) → length (borders_of d ps each b) ≤ height b + width b
  borders_few b =
      let t = leads_on d ps each (holder_of ps b.lo) in
      omega (arith, ap length (borders_is b), length-append (passing t (x_end b) (height b)) (passing t (y_end b) (width b)), passing_length t (x_end b) (height b), passing_length t (y_end b) (width b))
