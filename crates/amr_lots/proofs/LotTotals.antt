-- What the patches of a lot add to a word: one patch after another, and as a sum over any list that stands for them.
use Rattle.std.proofs.Common.{◌≡◌, ℕ, zero, suc, ◌+◌, ◌<◌, ◌≤◌, List, [], ◌∷◌, length, get_or, take, refl, arith, add-one}
use Rattle.amr_def.specs.declared.problem.Problem.{Problem}
use Rattle.amr_patch.specs.declared.patches.Patch.{Patch}
use Rattle.amr_phase.specs.Plans.{total}
use Rattle.amr_layout.specs.declared.FlowTo.{FlowTo}
use Rattle.amr_lots.specs.Lots.{adds_to, lot_total}

module _ (p : Problem) (l word : ℕ) where
  -- one more patch, as at a step of a loop
  pub lot_more : (qs : List Patch) (xss : List (List FlowTo)) (n : ℕ) (q : Patch) (xs : List FlowTo) → n < length qs → n < length xss
      → lot_total p l (take (n + 1) qs) (take (n + 1) xss) word ≡ lot_total p l (take n qs) (take n xss) word + adds_to p l word (get_or qs n q) (get_or xss n xs)
  lot_more qs xss n q xs lt lt' = rw add-one (go qs xss n lt lt')
    where
      go : (qs : List Patch) (xss : List (List FlowTo)) (n : ℕ) → n < length qs → n < length xss
          → lot_total p l (take (suc n) qs) (take (suc n) xss) word ≡ lot_total p l (take n qs) (take n xss) word + adds_to p l word (get_or qs n q) (get_or xss n xs)
      go [] xss n h h' = absurd (omega (arith, h))
      go (r ∷ rs) [] n h h' = absurd (omega (arith, h'))
      go (r ∷ rs) (ys ∷ yss) zero h h' = let e : adds_to p l word r ys + 0 ≡ 0 + adds_to p l word r ys = omega arith in e
      go (r ∷ rs) (ys ∷ yss) (suc n) h h' =
          let k = go rs yss n (omega (arith, h)) (omega (arith, h')) in
          let e : adds_to p l word r ys + lot_total p l (take (suc n) rs) (take (suc n) yss) word ≡ (adds_to p l word r ys + lot_total p l (take n rs) (take n yss) word) + adds_to p l word (get_or rs n q) (get_or yss n xs) = omega (arith, k) in
          e

  -- the first patches add no more than all
  pub lot_take : (qs : List Patch) (xss : List (List FlowTo)) (n : ℕ) → lot_total p l (take n qs) (take n xss) word ≤ lot_total p l qs xss word
  lot_take qs xss zero = let e : 0 ≤ lot_total p l qs xss word = omega arith in e
  lot_take [] xss (suc n) = let e : 0 ≤ 0 = omega arith in e
  lot_take (q ∷ qs) [] (suc n) = let e : 0 ≤ 0 = omega arith in e
  lot_take (q ∷ qs) (xs ∷ xss) (suc n) =
      let h = lot_take qs xss n in
      let e : adds_to p l word q xs + lot_total p l (take n qs) (take n xss) word ≤ adds_to p l word q xs + lot_total p l qs xss word = omega (arith, h) in e

  -- and as many as there are all
  pub lot_whole : (qs : List Patch) (xss : List (List FlowTo)) (n : ℕ) → length qs ≤ n → lot_total p l (take n qs) (take n xss) word ≡ lot_total p l qs xss word
  lot_whole [] xss zero le = refl
  lot_whole [] xss (suc n) le = refl
  lot_whole (q ∷ qs) xss zero le = absurd (omega (arith, le))
  lot_whole (q ∷ qs) [] (suc n) le = refl
  lot_whole (q ∷ qs) (xs ∷ xss) (suc n) le = let rest = lot_whole qs xss n (omega (arith, le)) in λ i. adds_to p l word q xs + rest i

  -- where each patch adds what g says of the one that stands for it
  pub lot_total_is : (g : Patch → ℕ) (qs rs : List Patch) (xss : List (List FlowTo)) → ((k : ℕ) (q : Patch) (xs : List FlowTo) → k < length qs → adds_to p l word (get_or qs k q) (get_or xss k xs) ≡ g (get_or rs k q))
      → length xss ≡ length qs → length rs ≡ length qs → lot_total p l qs xss word ≡ total g rs
  lot_total_is g [] [] xss same e e' = refl
  lot_total_is g [] (r ∷ rs) xss same e e' = absurd (omega (arith, e'))
  lot_total_is g (q ∷ qs) [] xss same e e' = absurd (omega (arith, e'))
  lot_total_is g (q ∷ qs) (r ∷ rs) [] same e e' = absurd (omega (arith, e))
  lot_total_is g (q ∷ qs) (r ∷ rs) (xs ∷ xss) same e e' =
      let first : adds_to p l word q xs ≡ g r = same 0 q xs (omega arith) in
      let rest : lot_total p l qs xss word ≡ total g rs = lot_total_is g qs rs xss (λ k d ds lt. same (suc k) d ds (omega (arith, lt))) (omega (arith, e)) (omega (arith, e')) in
      λ i. first i + rest i
