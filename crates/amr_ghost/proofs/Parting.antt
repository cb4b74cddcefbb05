-- A plan is put in parts span by span: none yet, one more that gets no mass of the level, and one more that is a copy.
use Rattle.std.proofs.Common.{◌≡◌, ◌≢◌, ◌⊎◌, inl, inr, ℕ, ◌+◌, ◌*◌, ◌/◌, ◌%◌, ◌<◌, List, [], ◌∷◌, ◌++◌, length, get_or, set, refl, sym, ap, subst, ◌∙◌, below_more, arith}
use Rattle.std.specs.List.{All, Any}
use Rattle.std.specs.Global.{Vec}
use Rattle.std.proofs.Math.Nat.{div-add-mod, mul_comm}
use Rattle.std.proofs.lemmas.Nat.{div-mul-add}
use Rattle.std.proofs.lemmas.Bool.Decides.{eqb_tells}
use Rattle.std.proofs.lemmas.List.{get_or_default, get_or-set_other, get_or-set_same, length-set}
use Rattle.std.proofs.lemmas.List.Elements.{All-push}
use Rattle.std.proofs.lemmas.List.Quantifiers.{Any-push}
use Rattle.amr_box.specs.declared.Cell.{Cell}
use Rattle.amr_patch.proofs.Rows.{place_within}
use Rattle.amr_ghost.specs.Parts.{ArePartedTo, IsElsewhere, IsInParts, IsOuterIn, IsSpanIn, level_span, span_of}
use Rattle.amr_ghost.specs.declared.sources.Source.{Source}
use Rattle.amr_ghost.specs.declared.sources.Source.TheVariants.{Beside, Coarser, Outside}
use Rattle.amr_ghost.specs.declared.sources.GhostSpan.{GhostSpan}
use Rattle.amr_ghost.specs.declared.parts.FrameCopy.{FrameCopy}
use Rattle.amr_ghost.specs.declared.parts.FrameParts.{FrameParts}
use Rattle.amr_ghost.proofs.PlannedSpans.{any_more}

-- ---- numbers of two runs, and a patch numbered within its run

-- the place of a pair tells both numbers
pub first_of_pair : (w a b k m : ℕ) → k < w → m < w → a * w + k ≡ b * w + m → a ≡ b
first_of_pair w a b k m low high e = sym (div-mul-add a w k low) ∙ ap (λ n. n / w) e ∙ div-mul-add b w m high

pub second_of_pair : (w a b k m : ℕ) → k < w → m < w → a * w + k ≡ b * w + m → k ≡ m
second_of_pair w a b k m low high e =
    let same : a * w ≡ b * w = ap (λ n. n * w) (first_of_pair w a b k m low high e) in
    omega (arith, e, same)

numbered : (width n : ℕ) → n / width * width + n % width ≡ n
numbered width n =
    let turned : n / width * width ≡ width * (n / width) = mul_comm (n / width) width in
    let whole : width * (n / width) + n % width ≡ n = div-add-mod n width in
    omega (arith, turned, whole)

-- a span between patches of a level, as a copy
abbrev pub copy_of : ℕ → GhostSpan → ℕ → Cell → FrameCopy
copy_of width s j h = record { patch = s.patch % width; strip = s.strip; source = j % width; from = h }

pub copy_is_span : (width : ℕ) (s : GhostSpan) (j : ℕ) (h : Cell) → s.source ≡ Beside j h → span_of (s.patch / width * width) (j / width * width) (copy_of width s j h) ≡ s
copy_is_span width s j h is = λ i. record { patch = numbered width s.patch i; strip = s.strip; source = source i }
  where
    source : Beside (j / width * width + j % width) h ≡ s.source
    source = ap (λ n. Beside n h) (numbered width j) ∙ sym is

-- and one that gets no mass of a patch of the level, as a span of its run
abbrev pub outer_of : ℕ → GhostSpan → GhostSpan
outer_of width s = record { patch = s.patch % width; strip = s.strip; source = s.source }

pub outer_is_span : (width : ℕ) (s : GhostSpan) → level_span (s.patch / width * width) (outer_of width s) ≡ s
outer_is_span width s = λ i. record { patch = numbered width s.patch i; strip = s.strip; source = s.source }

-- a source that is no patch of the level
pub is_elsewhere : (x : Source) → ((j : ℕ) (h : Cell) → x ≢ Beside j h) → IsElsewhere x
is_elsewhere Outside none = tt
is_elsewhere (Beside j h) none = none j h refl
is_elsewhere (Coarser h) none = tt

-- ---- lists of lists, one of which gets one more item

module _ {A : Type 0} (vs : List (Vec A)) (n : ℕ) (list : Vec A) (x : A) (there : n < length vs) (pushed : list.items ≡ (get_or vs n list).items ++ x ∷ []) where
  list_is : (v : Vec A) → get_or (set vs n list) n v ≡ list
  list_is v = get_or-set_same vs n list v there

  -- a list is what it was, and that one has the item
  lists_are : (m : ℕ) (v : Vec A) → ((m ≡ n) × ((get_or (set vs n list) m v).items ≡ (get_or vs m list).items ++ x ∷ [])) ⊎ (get_or (set vs n list) m v ≡ get_or vs m v)
  lists_are m v = elim (eqb_tells m n) [
    | inl e ↦ inl (e.1, ap (λ k. (get_or (set vs n list) k v).items) e.1 ∙ ap (λ (w : Vec A). w.items) (list_is v) ∙ pushed ∙ ap (λ k. (get_or vs k list).items ++ x ∷ []) (sym e.1))
    | inr e ↦ inr (get_or-set_other vs n m list v e.1)
  ]

  -- what holds of all items of a list holds of all of it then, where it holds of the new one
  pub all_more : (P : ℕ → A → Type 0) (m : ℕ) (v : Vec A) → (m ≡ n → P m x) → All (P m) (get_or vs m list).items → All (P m) (get_or vs m v).items → All (P m) (get_or (set vs n list) m v).items
  all_more P m v one here other = elim (lists_are m v) [
    | inl e ↦ subst (All (P m)) (sym e.1) (All-push (P m) (get_or vs m list).items x here (one e.0))
    | inr e ↦ subst (λ (w : Vec A). All (P m) w.items) (sym e) other
  ]

  pub still_any : (P : A → Type 0) (m : ℕ) (v : Vec A) → m < length vs → Any P (get_or vs m v).items → Any P (get_or (set vs n list) m v).items
  still_any P m v lt a = elim (lists_are m v) [
    | inl e ↦
        let old : get_or vs m v ≡ get_or vs m list = get_or_default vs m v list lt in
        subst (Any P) (sym e.1) (any_more P (get_or vs m list).items x (subst (λ (w : Vec A). Any P w.items) old a))
    | inr e ↦ subst (λ (w : Vec A). Any P w.items) (sym e) a
  ]

  pub now_any : (P : A → Type 0) (v : Vec A) → P x → Any P (get_or (set vs n list) n v).items
  now_any P v one = subst (λ (w : Vec A). Any P w.items) (sym (list_is v)) (subst (Any P) (sym pushed) (Any-push P (get_or vs n list).items x one))

-- empty lists have no item
no_item : {A : Type 0} (vs : List (Vec A)) (n : ℕ) (v : Vec A) (j : ℕ) → n < length vs → All (λ (w : Vec A). w.items ≡ []) vs → j < length (get_or vs n v).items → ⊥
no_item vs n v j there empty lt = let e = ap length (empty n v there) in omega (arith, lt, e)

-- ---- spans in parts

-- no span is in parts yet
pub none_parted : (ss : List GhostSpan) (width runs : ℕ) (parts : FrameParts) → length parts.outer.items ≡ runs → All (λ (v : Vec GhostSpan). v.items ≡ []) parts.outer.items → length parts.copies.items ≡ runs * runs → All (λ (v : Vec FrameCopy). v.items ≡ []) parts.copies.items → ArePartedTo ss 0 width runs parts
none_parted ss width runs parts outer_count no_outer count no_copies = record {
  count = count;
  outer_count = outer_count;
  outer = λ t v there j s lt. absurd (no_item parts.outer.items t v j (omega (arith, there, outer_count)) no_outer lt);
  copies = λ u t v from_there there j c lt.
      let below : u * runs + t < runs * runs = place_within u t runs runs from_there there in
      absurd (no_item parts.copies.items (u * runs + t) v j (omega (arith, below, count)) no_copies lt);
  whole = λ j s lt. absurd (omega (arith, lt));
}

-- one more span s
module _ (ss : List GhostSpan) (k width runs : ℕ) (parts : FrameParts) (s : GhostSpan) (there : k < length ss) (is : get_or ss k s ≡ s) (h : ArePartedTo ss k width runs parts) where
  is_here : (d : GhostSpan) → get_or ss k d ≡ s
  is_here d = get_or_default ss k d s there ∙ is

  -- the spans so far stay in parts, and this one is
  all_whole : (new : FrameParts) → ((x : GhostSpan) → IsInParts width runs parts x → IsInParts width runs new x) → IsInParts width runs new s → (j : ℕ) (d : GhostSpan) → j < k + 1 → IsInParts width runs new (get_or ss j d)
  all_whole new stay now j d lt = below_more (λ m. IsInParts width runs new (get_or ss m d)) k (λ m below. stay (get_or ss m d) (h.whole m d below)) (subst (IsInParts width runs new) (sym (is_here d)) now) j lt

  -- which gets no mass of the level, and lies beside a run
  module _ (to : ℕ) (list : Vec GhostSpan) (outer : GhostSpan) (to_below : to < runs) (pushed : list.items ≡ (get_or parts.outer.items to list).items ++ outer ∷ []) (patch_below : outer.patch < width) (other : IsElsewhere outer.source) (outer_is : level_span (to * width) outer ≡ s) (lists : Vec (Vec GhostSpan)) (changed : lists.items ≡ set parts.outer.items to list) where
    abbrev wider : FrameParts
    wider = record { outer = lists; copies = parts.copies }

    in_outer : (t : ℕ) → t < runs → t < length parts.outer.items
    in_outer t lt = let n = h.outer_count in omega (arith, lt, n)

    stays_wider : (x : GhostSpan) → IsInParts width runs parts x → IsInParts width runs wider x
    stays_wider x (inl a) = inl (record {
      to = a.to;
      there = a.there;
      is = λ v. subst (λ (ls : List (Vec GhostSpan)). Any (λ (y : GhostSpan). level_span (a.to * width) y ≡ x) (get_or ls a.to v).items) (sym changed)
          (still_any parts.outer.items to list outer (in_outer to to_below) pushed (λ (y : GhostSpan). level_span (a.to * width) y ≡ x) a.to v (in_outer a.to a.there) (a.is v));
    })
    stays_wider x (inr b) = inr (record { from = b.from; to = b.to; from_there = b.from_there; there = b.there; is = b.is })

    now_wider : IsInParts width runs wider s
    now_wider = inl (record {
      to = to;
      there = to_below;
      is = λ v. subst (λ (ls : List (Vec GhostSpan)). Any (λ (y : GhostSpan). level_span (to * width) y ≡ s) (get_or ls to v).items) (sym changed)
          (now_any parts.outer.items to list outer (in_outer to to_below) pushed (λ (y : GhostSpan). level_span (to * width) y ≡ s) v outer_is);
    })

    is_outer : (t : ℕ) → t ≡ to → IsOuterIn ss width t outer
    is_outer t same = (patch_below, other, (k, s, there, is, sym ((λ i. level_span (same i * width) outer) ∙ outer_is)))

    pub outer_more : ArePartedTo ss (k + 1) width runs (record { outer = lists; copies = parts.copies })
    outer_more = record {
      count = h.count;
      outer_count = ap length changed ∙ length-set parts.outer.items to list ∙ h.outer_count;
      outer = λ t v lt. subst (λ (ls : List (Vec GhostSpan)). All (IsOuterIn ss width t) (get_or ls t v).items) (sym changed)
          (all_more parts.outer.items to list outer (in_outer to to_below) pushed (IsOuterIn ss width) t v (is_outer t) (h.outer t list lt) (h.outer t v lt));
      copies = h.copies;
      whole = all_whole wider stays_wider now_wider;
    }

  -- or is a copy from a run to a run
  module _ (from to : ℕ) (list : Vec FrameCopy) (copy : FrameCopy) (from_below : from < runs) (to_below : to < runs) (pushed : list.items ≡ (get_or parts.copies.items (from * runs + to) list).items ++ copy ∷ []) (patch_below : copy.patch < width) (source_below : copy.source < width) (copy_is : span_of (to * width) (from * width) copy ≡ s) (lists : Vec (Vec FrameCopy)) (changed : lists.items ≡ set parts.copies.items (from * runs + to) list) where
    abbrev longer : FrameParts
    longer = record { outer = parts.outer; copies = lists }

    in_copies : (u t : ℕ) → u < runs → t < runs → u * runs + t < length parts.copies.items
    in_copies u t low high = let below : u * runs + t < runs * runs = place_within u t runs runs low high in omega (arith, below, h.count)

    stays_longer : (x : GhostSpan) → IsInParts width runs parts x → IsInParts width runs longer x
    stays_longer x (inl a) = inl (record { to = a.to; there = a.there; is = a.is })
    stays_longer x (inr b) = inr (record {
      from = b.from;
      to = b.to;
      from_there = b.from_there;
      there = b.there;
      is = λ v. subst (λ (ls : List (Vec FrameCopy)). Any (λ (c : FrameCopy). span_of (b.to * width) (b.from * width) c ≡ x) (get_or ls (b.from * runs + b.to) v).items) (sym changed)
          (still_any parts.copies.items (from * runs + to) list copy (in_copies from to from_below to_below) pushed (λ (c : FrameCopy). span_of (b.to * width) (b.from * width) c ≡ x) (b.from * runs + b.to) v (in_copies b.from b.to b.from_there b.there) (b.is v));
    })

    now_longer : IsInParts width runs longer s
    now_longer = inr (record {
      from = from;
      to = to;
      from_there = from_below;
      there = to_below;
      is = λ v. subst (λ (ls : List (Vec FrameCopy)). Any (λ (c : FrameCopy). span_of (to * width) (from * width) c ≡ s) (get_or ls (from * runs + to) v).items) (sym changed)
          (now_any parts.copies.items (from * runs + to) list copy (in_copies from to from_below to_below) pushed (λ (c : FrameCopy). span_of (to * width) (from * width) c ≡ s) v copy_is);
    })

    is_copy : (u t : ℕ) → t < runs → u * runs + t ≡ from * runs + to → IsSpanIn ss width u t copy
    is_copy u t high e =
        let same_from : u ≡ from = first_of_pair runs u from t to high to_below e in
        let same_to : t ≡ to = second_of_pair runs u from t to high to_below e in
        let is_span : span_of (t * width) (u * width) copy ≡ s = (λ i. span_of (same_to i * width) (same_from i * width) copy) ∙ copy_is in
        (patch_below, source_below, (k, s, there, is, sym is_span))

    pub copies_more : ArePartedTo ss (k + 1) width runs (record { outer = parts.outer; copies = lists })
    copies_more = record {
      count = ap length changed ∙ length-set parts.copies.items (from * runs + to) list ∙ h.count;
      outer_count = h.outer_count;
      outer = h.outer;
      copies = λ u t v low high. subst (λ (ls : List (Vec FrameCopy)). All (IsSpanIn ss width u t) (get_or ls (u * runs + t) v).items) (sym changed)
          (all_more parts.copies.items (from * runs + to) list copy (in_copies from to from_below to_below) pushed (λ n. IsSpanIn ss width u t) (u * runs + t) v (is_copy u t high) (h.copies u t list low high) (h.copies u t v low high));
      whole = all_whole longer stays_longer now_longer;
    }
