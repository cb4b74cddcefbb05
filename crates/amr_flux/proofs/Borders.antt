-- Border faces one after another.
use Rattle.std.proofs.Common.{◌≡◌, ℕ, zero, suc, ◌+◌, ◌<◌, ◌≤◌, inl, inr, Bool, true, false, ap, ◌∙◌, add-one, arith}
use Rattle.std.specs.Prelude.{cond}
use Rattle.std.proofs.lemmas.Bool.{cases_lt}
use Rattle.amr_flux.specs.Tables.{count_below}

pub count_next : (test : ℕ → Bool) (n : ℕ) → test n ≡ true → count_below test (n + 1) ≡ count_below test n + 1
count_next test n e = ap (count_below test) (add-one n) ∙ ap (λ b. count_below test n + cond b 1 0) e

pub count_same : (test : ℕ → Bool) (n : ℕ) → test n ≡ false → count_below test (n + 1) ≡ count_below test n
count_same test n e = ap (count_below test) (add-one n) ∙ ap (λ b. count_below test n + cond b 1 0) e ∙ omega arith

pub count_more : (test : ℕ → Bool) (n : ℕ) → count_below test (n + 1) ≡ count_below test n + cond (test n) 1 0
count_more test n = ap (count_below test) (add-one n)

pub count_grows : (test : ℕ → Bool) (n m : ℕ) → n ≤ m → count_below test n ≤ count_below test m
count_grows test zero zero h = omega arith
count_grows test (suc n) zero h = absurd (omega arith)
count_grows test n (suc m) h =
    elim (cases_lt n (suc m)) [
      | inl below ↦ let earlier : count_below test n ≤ count_below test m = count_grows test n m (omega arith) in omega (arith, earlier)
      | inr past ↦ let same : n ≡ suc m = omega arith in omega (arith, ap (count_below test) same)
    ]

-- a marked number below m is not the last that is counted
pub count_less : (test : ℕ → Bool) (n m k used : ℕ) → test n ≡ true → n < m → count_below test m ≤ k → used ≡ count_below test n → used < k
count_less test n m k used e h enough is =
    let more : count_below test (n + 1) ≤ count_below test m = count_grows test (n + 1) m (omega arith) in
    omega (arith, enough, is, more, count_next test n e)
