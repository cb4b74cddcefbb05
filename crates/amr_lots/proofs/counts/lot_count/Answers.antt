use Rattle.std.proofs.Common.{◌≤◌, ◌<◌, ◌+◌, ◌*◌, ◌/◌, ◌%◌, ◌≡◌, ◌⊎◌, inl, inr, ℕ, max, min, subst, sym, arith}
use Rattle.std.proofs.lemmas.Bool.{cases_lt}
use Rattle.std.proofs.lemmas.Grind.{div_ceil_times}
use Rattle.std.proofs.lemmas.Nat.{mul-le}
use Rattle.amr_lots.proofs.counts.lot_count.Goals as goal

-- fewer than so many runs and one more, since so many hold all
few : (n w size count : ℕ) → n ≤ size * w → count * size < n + size → count ≤ w
few n w size count enough tight = from (cases_lt w count)
  where
    from : ((w < count) ⊎ (count ≤ w)) → count ≤ w
    from (inr le) = le
    from (inl lt) =
        let more : (w + 1) * size ≤ count * size = mul-le (w + 1) size count size (omega (arith, lt)) (omega arith) in
        let whole : (w + 1) * size ≡ size * w + size = omega arith in
        absurd (omega (arith, more, whole, enough, tight))

pub returns-clause-most : goal.returns-clause-most
returns-clause-most c =
    let n = c.args.patches in
    let w = max 1 c.args.wanted in
    let size = c.lot_size.result in
    let fits = (div_ceil_times n w (omega arith)).0 in
    let wide : (n / w + min 1 (n % w)) * w ≤ size * w = mul-le (n / w + min 1 (n % w)) w size w (omega (arith, c.lot_size.ensures.size)) (omega arith) in
    let tight = (div_ceil_times n size c.lot_size.ensures.some).1 in
    few n w size c.div_ceil.result (omega (arith, fits, wide)) (subst (λ (k : ℕ). k * size < n + size) (sym c.div_ceil.ensures) tight)
