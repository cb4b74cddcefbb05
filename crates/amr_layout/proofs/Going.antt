-- Where the flow through a face on the edges of a box goes.
use Rattle.std.proofs.Common.{◌≡◌, ℕ, ◌+◌, ◌*◌, Bool, true, false, ◌&&◌, ◌||◌, cond, ℤ, pos, List, [], ◌∷◌, ◌++◌, map, refl, sym, ap, ◌∙◌}
use Rattle.std.proofs.lemmas.Bool.{and_right}
use Rattle.std.specs.Prelude.{not, int_lt, is_some, IfSome}
use Rattle.std.specs.Ordering.{int_eq}
use Rattle.std.specs.declared.option.Option.{Option}
use Rattle.std.specs.declared.option.Option.TheVariants.{None, Some}
use Rattle.std.proofs.lemmas.List.{append_assoc, map-append}
use Rattle.amr_box.specs.declared.Cell.{Cell}
use Rattle.amr_box.specs.declared.Face.{Face}
use Rattle.amr_box.specs.Cells.{Extent, parent}
use Rattle.amr_box.proofs.CellEquality.{same_number}
use Rattle.amr_def.specs.Domain.{home_cell, in_domain}
use Rattle.amr_def.specs.State.{is_covered}
use Rattle.amr_patch.specs.Patches.{in_patches}
use Rattle.amr_faces.specs.Faces.{passing}
use Rattle.amr_layout.specs.Surroundings.{Around, domain_around, inside, inward, is_coarse_fine, is_open, outside}
use Rattle.amr_layout.specs.declared.FlowTo.{FlowTo}
use Rattle.amr_layout.specs.Adds.{cell_beyond, flow_to_any, flow_to, goes_on, is_ledger_face, number_of, word_of}
use Rattle.amr_layout.proofs.Passing.{passing_next}

pub is_not_zero : (z : ℤ) → (z ≡ pos 0 → ⊥) → not (int_eq z (pos 0)) ≡ true
is_not_zero z ne = from (int_eq z (pos 0)) refl
  where
    from : (t : Bool) → int_eq z (pos 0) ≡ t → not t ≡ true
    from true e = absurd (ne (same_number z (pos 0) e))
    from false e = refl

settled : (t : Bool) → (t || false) && true ≡ t
settled true = refl
settled false = refl

module _ (s : Around) (b : Extent) (f : Face) where
  pub open_is : (k : Cell) (r : Bool) → k ≡ outside b f → r ≡ not (in_domain (domain_around s) (home_cell (domain_around s) k)) → is_open s b f ≡ r
  unfolding is_open
  open_is k r at e = sym (e ∙ ap (λ c. not (in_domain (domain_around s) (home_cell (domain_around s) c))) at)

  -- nothing flows, so nothing goes on
  pub none_flows : inward s.problem s.level b f ≡ pos 0 → goes_on s b f ≡ false
  unfolding goes_on
  none_flows e = and_right (is_ledger_face s b f || is_coarse_fine s b f) _ (ap (λ z. not (int_eq z (pos 0))) e)

  -- beside a cell of the level
  pub level_keeps : is_open s b f ≡ false → is_coarse_fine s b f ≡ false → goes_on s b f ≡ false
  unfolding goes_on is_ledger_face
  level_keeps o c = λ i. ((o i && not (is_covered s.finer (inside b f))) || c i) && not (int_eq (inward s.problem s.level b f) (pos 0))

  -- the cell beyond stands for this one
  module _ (h : Cell) (home : h ≡ home_cell (domain_around s) (outside b f)) where
    pub open_at : (r : Bool) → r ≡ in_domain (domain_around s) h → is_open s b f ≡ not r
    unfolding is_open
    open_at r e = sym (ap not (e ∙ ap (in_domain (domain_around s)) home))

    pub coarse_at : (r t : Bool) → r ≡ in_domain (domain_around s) h → t ≡ in_patches s.whole h → is_coarse_fine s b f ≡ (r && not t)
    unfolding is_coarse_fine
    coarse_at r t e held = sym (λ i. (e ∙ ap (in_domain (domain_around s)) home) i && not ((held ∙ ap (in_patches s.whole) home) i))

    pub beyond_at : (a : Cell) → a ≡ parent h → a ≡ cell_beyond s b f
    unfolding cell_beyond
    beyond_at a e = e ∙ ap parent home

  -- a face of an open side lies on no coarse-fine edge
  pub open_alone : is_open s b f ≡ true → is_coarse_fine s b f ≡ false
  unfolding is_open is_coarse_fine
  open_alone o = from (in_domain (domain_around s) (home_cell (domain_around s) (outside b f))) o
    where
      from : (t : Bool) → not t ≡ true → (t && not (in_patches s.whole (home_cell (domain_around s) (outside b f)))) ≡ false
      from true e = cc
      from false e = refl

  module _ (some : inward s.problem s.level b f ≡ pos 0 → ⊥) where
    -- through an open side
    pub open_goes : is_open s b f ≡ true → goes_on s b f ≡ not (is_covered s.finer (inside b f))
    unfolding goes_on is_ledger_face
    open_goes o = (λ i. ((o i && not (is_covered s.finer (inside b f))) || open_alone o i) && is_not_zero (inward s.problem s.level b f) some i) ∙ settled (not (is_covered s.finer (inside b f)))

    -- through the coarse-fine edge
    pub coarse_goes : is_open s b f ≡ false → is_coarse_fine s b f ≡ true → goes_on s b f ≡ true
    unfolding goes_on is_ledger_face
    coarse_goes o c = λ i. ((o i && not (is_covered s.finer (inside b f))) || c i) && is_not_zero (inward s.problem s.level b f) some i

  pub open_word : (z : ℤ) → z ≡ inward s.problem s.level b f → is_open s b f ≡ true → word_of s b f ≡ cond (int_lt (pos 0) z) 0 1
  unfolding word_of
  open_word z is o = λ i. cond (o i) (cond (int_lt (pos 0) (sym is i)) 0 1) (cond (int_lt (inward s.problem s.level b f) (pos 0)) (2 + 2 * number_of s.cells (cell_beyond s b f)) (3 + 2 * number_of s.cells (cell_beyond s b f)))

  pub coarse_word : (z : ℤ) (a : Cell) → z ≡ inward s.problem s.level b f → a ≡ cell_beyond s b f → is_open s b f ≡ false → word_of s b f ≡ cond (int_lt z (pos 0)) (2 + 2 * number_of s.cells a) (3 + 2 * number_of s.cells a)
  unfolding word_of
  coarse_word z a is at o = λ i. cond (o i) (cond (int_lt (pos 0) (inward s.problem s.level b f)) 0 1) (cond (int_lt (sym is i) (pos 0)) (2 + 2 * number_of s.cells (sym at i)) (3 + 2 * number_of s.cells (sym at i)))

-- ---- one more face

-- what a word adds to a list of flows
one_flow : (w : Option ℕ) (word : ℕ) (t : Bool) (f : Face) → is_some w ≡ t → IfSome w (λ v. v ≡ word) → flow_to_any w f ≡ cond t (flow_to word f ∷ []) []
one_flow None word true f e h = cc
one_flow None word false f e h = refl
one_flow (Some v) word true f e h = ap (λ n. flow_to n f ∷ []) h
one_flow (Some v) word false f e h = cc

pub flows_more : (test : Face → Bool) (at : Face → ℕ) (g : ℕ → Face) (n : ℕ) (old xs ys : List FlowTo) (w : Option ℕ) (f : Face) → f ≡ g n → is_some w ≡ test f → IfSome w (λ v. v ≡ at f)
    → xs ≡ old ++ map (λ k. flow_to (at k) k) (passing test g n) → ys ≡ xs ++ flow_to_any w f → ys ≡ old ++ map (λ k. flow_to (at k) k) (passing test g (n + 1))
flows_more test at g n old xs ys w f is told word before now =
    let to : Face → FlowTo = λ k. flow_to (at k) k in
    let mine : flow_to_any w f ≡ map to (cond (test (g n)) (g n ∷ []) []) = one_flow w (at f) (test f) f told word ∙ ap (λ k. cond (test k) (to k ∷ []) []) is ∙ picked to (test (g n)) (g n) in
    now ∙ (λ i. before i ++ mine i) ∙ append_assoc old (map to (passing test g n)) (map to (cond (test (g n)) (g n ∷ []) []))
    ∙ ap (λ l. old ++ l) (sym (map-append to (passing test g n) (cond (test (g n)) (g n ∷ []) [])) ∙ ap (map to) (sym (passing_next test g n)))
  where
    picked : (to : Face → FlowTo) (t : Bool) (k : Face) → cond t (to k ∷ []) [] ≡ map to (cond t (k ∷ []) [])
    picked to true k = refl
    picked to false k = refl
