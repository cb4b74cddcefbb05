-- Workers shared out among species.
use Rattle.std.proofs.Common.{ℕ, ◌+◌, ◌/◌, ◌%◌, ◌<◌, ◌≤◌, arith}
use Rattle.std.proofs.lemmas.Nat.{div-add-mod', le-div, mul-le}

pub share_some : (w c : ℕ) → 0 < c → c ≤ w → 1 ≤ w / c
share_some w c some enough = le-div 1 w c some (omega (arith, enough))

pub share_few : (w c : ℕ) → 0 < c → w / c ≤ w
share_few w c some = let whole = div-add-mod' w c in let grows = mul-le (w / c) 1 (w / c) c (omega arith) (omega (arith, some)) in omega (arith, whole, grows)

pub share_more : (w c k : ℕ) → 0 < c → k < w % c → w / c + 1 ≤ w
share_more w c k some rest = let whole = div-add-mod' w c in let grows = mul-le (w / c) 1 (w / c) c (omega arith) (omega (arith, some)) in omega (arith, whole, grows, rest)
