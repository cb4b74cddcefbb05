-- What the flows of a patch add to each word.
use Rattle.std.proofs.Common.{◌≡◌, inl, inr, ℕ, ◌+◌, ◌<◌, ◌≤◌, Bool, true, false, cond, List, [], ◌∷◌, length, get_or, set, take, refl, sym, ap, ◌∙◌, subst, arith}
use Rattle.std.specs.Prelude.{◌==◌, if◌then◌else◌, slice_index, unsigned_abs}
use Rattle.std.proofs.lemmas.Bool.{cases_eq, eq-eqb, ne_eqb}
use Rattle.std.proofs.lemmas.List.{get_or-set_other, get_or-set_same}
use Rattle.amr_box.specs.declared.Face.{Face}
use Rattle.amr_box.specs.Cells.{Extent}
use Rattle.amr_def.specs.Flux.{Fluxes}
use Rattle.amr_patch.specs.declared.patches.Patch.{Patch}
use Rattle.amr_patch.specs.Places.{is_edge_face}
use Rattle.amr_patch.specs.Patches.{box}
use Rattle.amr_phase.proofs.Sums.{total_more, total_take}
use Rattle.amr_flux.specs.PatchSides.{Side, includes, side_of}
use Rattle.amr_flux.specs.declared.fluxes.PatchSides.{PatchSides}
use Rattle.amr_layout.specs.declared.FlowTo.{FlowTo}
use Rattle.amr_layout.specs.Adds.{size_to, word_total}
use Rattle.amr_lots.specs.Lots.{AreEdgeFlows, LieOn}
use Rattle.amr_layout.proofs.Totals.{total_each}

-- no flows add nothing
pub none_added : (size : Face → ℕ) (word : ℕ) (flows : List FlowTo) → length flows ≡ 0 → word_total size word flows ≡ 0
none_added size word [] e = refl
none_added size word (x ∷ flows) e = absurd (omega (arith, e))

-- ---- one flow after another

word_after : (words : List ℕ) (at sum word : ℕ) → at < length words → slice_index (set words at (slice_index words at + sum)) word ≡ slice_index words word + (if at == word then sum else 0)
word_after words at sum word h =
    elim (cases_eq word at) [
      | inl is ↦
          subst (λ k. slice_index (set words at (slice_index words at + sum)) k ≡ slice_index words k + (if at == k then sum else 0)) (sym is)
          (get_or-set_same words at (slice_index words at + sum) 0 h ∙ ap (λ b. slice_index words at + cond b sum 0) (sym (eq-eqb at at refl)))
      | inr ne ↦
          let stays : slice_index (set words at (slice_index words at + sum)) word ≡ slice_index words word = get_or-set_other words at word (slice_index words at + sum) 0 ne in
          let none : (if at == word then sum else 0) ≡ 0 = ap (λ b. cond {A = ℕ} b sum 0) (ne_eqb at word (λ z. ne (sym z))) in
          omega (arith, stays, none)
    ]

module _ (size : Face → ℕ) (flows : List FlowTo) (old words : List ℕ) (n : ℕ) (d : FlowTo) (amount : ℕ) (below : n < length flows) (is : amount ≡ size (get_or flows n d).face)
    (before : (word : ℕ) → slice_index words word ≡ slice_index old word + word_total size word (take n flows)) where
  abbrev x : FlowTo
  x = get_or flows n d

  more : (word : ℕ) → word_total size word (take (n + 1) flows) ≡ word_total size word (take n flows) + (if x.word == word then amount else 0)
  more word = total_more (size_to size word) flows n d below ∙ ap (λ k. word_total size word (take n flows) + (if x.word == word then k else 0)) (sym is)

  pub one_more : x.word < length words → (word : ℕ) → slice_index (set words x.word (slice_index words x.word + amount)) word ≡ slice_index old word + word_total size word (take (n + 1) flows)
  one_more inside word = omega (arith, word_after words x.word amount word inside, before word, more word)

  pub word_fits : (most : ℕ) → ((word : ℕ) → slice_index old word + word_total size word flows < most) → slice_index words x.word + amount < most
  word_fits most fits =
      let all : word_total size x.word (take (n + 1) flows) ≤ word_total size x.word flows = total_take (size_to size x.word) flows (n + 1) in
      let own : (if x.word == x.word then amount else 0) ≡ amount = ap (λ b. cond {A = ℕ} b amount 0) (eq-eqb x.word x.word refl) in
      omega (arith, fits x.word, before x.word, more x.word, own, all)

-- ---- by fluxes that agree on a patch's own edges, on some sides

pub flows_alike : (q : Patch) (s : PatchSides) (e e' : Fluxes) (word : ℕ) (flows : List FlowTo) → AreEdgeFlows q flows → LieOn s (box q) flows → ((f : Face) → is_edge_face (box q) f ≡ true → includes s (side_of (box q) f) ≡ true → e f ≡ e' f)
    → word_total (λ f. unsigned_abs (e f)) word flows ≡ word_total (λ f. unsigned_abs (e' f)) word flows
flows_alike q s e e' word flows own lie same =
    total_each (size_to (λ f. unsigned_abs (e f)) word) (size_to (λ f. unsigned_abs (e' f)) word) flows (λ k d lt.
    let x = get_or flows k d in
    let o = own k d lt in
    ap (λ n. if x.word == word then n else 0) (ap unsigned_abs (same x.face o (lie k d lt))))

-- no flows lie on no side
pub none_lie : (s : PatchSides) (b : Extent) (flows : List FlowTo) → ((x : Side) → includes s x ≡ false) → LieOn s b flows → length flows ≡ 0
none_lie s b [] none lie = refl
none_lie s b (x ∷ flows) none lie = let wrong : true ≡ false = sym (lie 0 x (omega arith)) ∙ none (side_of b x.face) in absurd (cc)

-- sides with one more have those that were there
pub with_more : (s r : PatchSides) (y : Side) → includes r y ≡ true → ((x : Side) → (x ≡ y → ⊥) → includes r x ≡ includes s x) → (x : Side) → includes s x ≡ true → includes r x ≡ true
with_more s r y there others x e = by_value (includes r x) refl
  where
    by_value : (b : Bool) → includes r x ≡ b → includes r x ≡ true
    by_value true is = is
    by_value false is = others x (λ same. let wrong : false ≡ true = sym is ∙ ap (includes r) same ∙ there in cc) ∙ e
