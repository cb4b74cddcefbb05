-- Faces that pass a test, one after another.
use Rattle.std.proofs.Common.{◌≡◌, ℕ, zero, suc, ◌+◌, ◌<◌, ◌≤◌, Bool, true, false, cond, [], ◌∷◌, ◌++◌, length, length-append, append-nil, ap, ◌∙◌, add-one, arith}
use Rattle.amr_box.specs.declared.Face.{Face}
use Rattle.amr_faces.specs.Faces.{passing}

module _ (test : Face → Bool) (g : ℕ → Face) where
  pub passing_next : (n : ℕ) → passing test g (n + 1) ≡ passing test g n ++ cond (test (g n)) (g n ∷ []) []
  passing_next n = ap (passing test g) (add-one n)

  -- faces that pass no test add nothing
  pub passing_none : (n k : ℕ) → ((m : ℕ) → n ≤ m → m < n + k → test (g m) ≡ false) → passing test g (n + k) ≡ passing test g n
  passing_none n zero h = let none : n + zero ≡ n = omega arith in ap (passing test g) none
  passing_none n (suc k) h =
      let next : n + suc k ≡ suc (n + k) = omega arith in
      ap (passing test g) next ∙ ap (λ t. passing test g (n + k) ++ cond t (g (n + k) ∷ []) []) (h (n + k) (omega arith) (omega arith)) ∙ append-nil (passing test g (n + k))
      ∙ passing_none n k (λ m from to. h m from (omega arith))

  one_at_most : (b : Bool) (f : Face) → length (cond b (f ∷ []) []) ≤ 1
  one_at_most true f = omega arith
  one_at_most false f = omega arith

  pub passing_length : (n : ℕ) → length (passing test g n) ≤ n
  passing_length zero = omega arith
  passing_length (suc n) =
      let before : length (passing test g n) ≤ n = passing_length n in
      let one = one_at_most (test (g n)) (g n) in
      omega (arith, before, one, length-append (passing test g n) (cond (test (g n)) (g n ∷ []) []))
