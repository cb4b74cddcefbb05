-- Edge cells that write one after the other, and list by list.
use Rattle.std.proofs.Common.{◌≡◌, ◌∙◌, ℕ, ◌+◌, ◌<◌, ◌⊎◌, inl, inr, List, [], length, get_or, refl, sym, ap, subst, arith}
use Rattle.std.specs.Global.{Vec}
use Rattle.std.proofs.lemmas.Bool.{cases_eq}
use Rattle.std.proofs.lemmas.List.{length-map}
use Rattle.amr_register.specs.declared.edges.EdgeCell.{EdgeCell}
use Rattle.amr_register.specs.EdgeCells.{AreOnceBy, IsPlaceIn, Place, edge_at, lists_of}
use Rattle.amr_register.specs.Written.{AreAllWritten, AreKeysApart, AreWritten}
use Rattle.amr_register.proofs.Taken.{same_at}

-- ---- the cells of one list

pub none_written : {K V : Type 0} (key : EdgeCell → K) (make : EdgeCell → V → V) (es : List EdgeCell) (m : K → V) → AreWritten key make es m m 0
none_written key make es m = record { done = λ i e below inside. absurd (omega (arith, below)); left = λ k none. refl }

-- the next one finds the value of before
pub not_yet : {K V : Type 0} (key : EdgeCell → K) (make : EdgeCell → V → V) (es : List EdgeCell) (before now : K → V) (n : ℕ) (d : EdgeCell) → AreKeysApart key es → AreWritten key make es before now n → n < length es → now (key (get_or es n d)) ≡ before (key (get_or es n d))
not_yet key make es before now n d apart h lt = h.left (key (get_or es n d)) (λ i e below inside s. apart i n d below lt (ap key (same_at es i d e inside) ∙ s))

pub one_written : {K V : Type 0} (key : EdgeCell → K) (make : EdgeCell → V → V) (es : List EdgeCell) (before now after : K → V) (n : ℕ) (d : EdgeCell) → AreKeysApart key es → AreWritten key make es before now n → n < length es
    → after (key (get_or es n d)) ≡ make (get_or es n d) (now (key (get_or es n d))) → ((k : K) → (key (get_or es n d) ≡ k → ⊥) → after k ≡ now k) → AreWritten key make es before after (n + 1)
one_written key make es before now after n d apart h lt here others = record {
  done = λ i e below inside. by_place i e below inside (cases_eq i n);
  left = λ k none. others k (none n d (omega arith) lt) ∙ h.left k (λ i e below inside. none i e (omega (arith, below)) inside);
}
  where
    by_place : (i : ℕ) (e : EdgeCell) → i < n + 1 → i < length es → (i ≡ n) ⊎ (i ≡ n → ⊥) → after (key (get_or es i e)) ≡ make (get_or es i e) (before (key (get_or es i e)))
    by_place i e below inside (inl s) =
        let same : get_or es n d ≡ get_or es i e = same_at es n d e lt ∙ ap (λ (j : ℕ). get_or es j e) (sym s) in
        subst (λ (x : EdgeCell). after (key x) ≡ make x (before (key x))) same (here ∙ ap (make (get_or es n d)) (not_yet key make es before now n d apart h lt))
    by_place i e below inside (inr ne) =
        let early : i < n = omega (arith, below, ne) in
        others (key (get_or es i e)) (λ s. apart i n e early lt (sym s ∙ ap key (same_at es n d e lt))) ∙ h.done i e early inside

-- ---- list by list

pub keys_apart : {K : Type 0} (key : EdgeCell → K) (xs : List (List EdgeCell)) (n : ℕ) → AreOnceBy key xs → n < length xs → AreKeysApart key (get_or xs n [])
keys_apart key xs n once lt i k e below inside s =
    let v : Place = record { list = n; at = i } in
    let w : Place = record { list = n; at = k } in
    let same : v ≡ w = once v w e (record { list = lt; at = omega (arith, below, inside) }) (record { list = lt; at = inside }) s in
    absurd (omega (arith, below, ap (λ (p : Place). p.at) same))

pub none_all_written : {K V : Type 0} (key : EdgeCell → K) (make : EdgeCell → V → V) (xs : List (List EdgeCell)) (m : K → V) → AreAllWritten key make xs m m 0
none_all_written key make xs m = record { done = λ w e below inside. absurd (omega (arith, below)); left = λ k none. refl }

module _ {K V : Type 0} (key : EdgeCell → K) (make : EdgeCell → V → V) (xs : List (List EdgeCell)) (before now : K → V) (n : ℕ) (once : AreOnceBy key xs) (h : AreAllWritten key make xs before now n) where
  -- what stands at two places in different lists has different keys
  other : (v w : Place) (e f : EdgeCell) → IsPlaceIn xs v → IsPlaceIn xs w → (v.list ≡ w.list → ⊥) → key (edge_at xs v e) ≡ key (edge_at xs w f) → ⊥
  other v w e f v_in w_in ne s = ne (ap (λ (p : Place). p.list) (once v w e v_in w_in (s ∙ ap key (same_at (get_or xs w.list []) w.at f e w_in.at))))

  -- the next list finds the values of before
  pub not_yet_in : (w : Place) (e : EdgeCell) → IsPlaceIn xs w → w.list ≡ n → now (key (edge_at xs w e)) ≡ before (key (edge_at xs w e))
  not_yet_in w e w_in is_n = h.left (key (edge_at xs w e)) (λ v f below v_in. other v w f e v_in w_in (λ s. omega (arith, below, s, is_n)))

  pub one_list : (after : K → V) → n < length xs → AreWritten key make (get_or xs n []) now after (length (get_or xs n [])) → AreAllWritten key make xs before after (n + 1)
  one_list after lt wrote = record {
    done = λ w e below w_in. by_list w e below w_in (cases_eq w.list n);
    left = λ k none.
        wrote.left k (λ i e below inside. none (record { list = n; at = i }) e (omega arith) (record { list = lt; at = inside }))
        ∙ h.left k (λ w e below w_in. none w e (omega (arith, below)) w_in);
  }
    where
      by_list : (w : Place) (e : EdgeCell) → w.list < n + 1 → IsPlaceIn xs w → (w.list ≡ n) ⊎ (w.list ≡ n → ⊥) → after (key (edge_at xs w e)) ≡ make (edge_at xs w e) (before (key (edge_at xs w e)))
      by_list w e below w_in (inl s) =
          let inside : w.at < length (get_or xs n []) = subst (λ (j : ℕ). w.at < length (get_or xs j [])) s w_in.at in
          let same : get_or (get_or xs n []) w.at e ≡ edge_at xs w e = ap (λ (j : ℕ). get_or (get_or xs j []) w.at e) (sym s) in
          subst (λ (x : EdgeCell). after (key x) ≡ make x (now (key x))) same (wrote.done w.at e inside inside) ∙ ap (make (edge_at xs w e)) (not_yet_in w e w_in s)
      by_list w e below w_in (inr ne) =
          wrote.left (key (edge_at xs w e)) (λ i f under inside. other (record { list = n; at = i }) w f e (record { list = lt; at = inside }) w_in (λ s. ne (sym s)))
          ∙ h.done w e (omega (arith, below, ne)) w_in

-- a slice of lists has them all
pub of_lists : {K V : Type 0} (key : EdgeCell → K) (make : EdgeCell → V → V) (ws vs : List (Vec EdgeCell)) (before after : K → V) → ws ≡ vs → AreAllWritten key make (lists_of ws) before after (length ws) → AreAllWritten key make (lists_of vs) before after (length (lists_of vs))
of_lists key make ws vs before after same h =
    subst (λ (n : ℕ). AreAllWritten key make (lists_of vs) before after n) (sym (length-map vs (λ (v : Vec EdgeCell). v.items)))
    (subst (λ (us : List (Vec EdgeCell)). AreAllWritten key make (lists_of us) before after (length us)) same h)
