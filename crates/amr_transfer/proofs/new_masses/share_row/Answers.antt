use Rattle.std.proofs.Common.{◌≡◌, ◌∙◌, ℕ, ◌+◌, ◌*◌, ◌<◌, ◌≤◌, ◌⊎◌, inl, inr, List, length, set, get_or, get_or-set_other, get_or-set_same, sym, ap, arith}
use Rattle.std.proofs.Math.Nat.{eq-or-lt_of_le}

-- two more places of a list
two_more : (f : ℕ → ℕ) (xs : List ℕ) (k a b : ℕ) → ((j : ℕ) → j < 2 * k → get_or xs j 0 ≡ f j) → 2 * k + 1 < length xs → length (set xs (2 * k) a) ≡ length xs → a ≡ f (2 * k) → b ≡ f (2 * k + 1) → (j : ℕ) → j < 2 * (k + 1) → get_or (set (set xs (2 * k) a) (2 * k + 1) b) j 0 ≡ f j
two_more f xs k a b below room same ea eb j lt = last (eq-or-lt_of_le (to_end j lt))
  where
    to_end : (j : ℕ) → j < 2 * (k + 1) → j ≤ 2 * k + 1
    to_end j lt = omega arith

    first : (j ≡ 2 * k) ⊎ (j < 2 * k) → get_or (set xs (2 * k) a) j 0 ≡ f j
    first (inl e) = ap (λ (n : ℕ). get_or (set xs (2 * k) a) n 0) e ∙ get_or-set_same xs (2 * k) a 0 (omega arith) ∙ ea ∙ ap f (sym e)
    first (inr h) = get_or-set_other xs (2 * k) j a 0 (λ e. omega arith) ∙ below j h

    last : (j ≡ 2 * k + 1) ⊎ (j < 2 * k + 1) → get_or (set (set xs (2 * k) a) (2 * k + 1) b) j 0 ≡ f j
    last (inl e) = ap (λ (n : ℕ). get_or (set (set xs (2 * k) a) (2 * k + 1) b) n 0) e ∙ get_or-set_same (set xs (2 * k) a) (2 * k + 1) b 0 (omega arith) ∙ eb ∙ ap f (sym e)
    last (inr h) = get_or-set_other (set xs (2 * k) a) (2 * k + 1) j b 0 (λ e. omega arith) ∙ first (eq-or-lt_of_le (omega arith))
