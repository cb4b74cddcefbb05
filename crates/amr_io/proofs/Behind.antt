-- Digits that were written behind what is kept back.
use Rattle.std.proofs.Common.{◌≡◌, ℕ, ◌+◌, ◌≤◌, List, ◌++◌, length, take, drop, sym, ap, ◌∙◌, append_assoc, arith}
use Rattle.std.proofs.lemmas.List.{length-append, length-take-le, take-append-drop}
use Rattle.std.proofs.Math.Seq.{take-append_seam}

pub digits_behind : (before after digits : List ℕ) (len start end : ℕ) → len ≤ length before → end ≡ len + length digits → start + length digits ≡ end → drop start after ≡ digits ++ drop end before → take start after ≡ take start before
    → take end after ≡ take len before ++ digits
digits_behind before after digits len start end within to from written same =
    let here : start ≡ len = omega (arith, to, from) in
    let front : List ℕ = take len before ++ digits in
    let whole : after ≡ front ++ drop end before =
    sym (take-append-drop start after) ∙ ap (λ (l : List ℕ). l ++ drop start after) (same ∙ ap (λ n. take n before) here) ∙ ap (λ (l : List ℕ). take len before ++ l) written
    ∙ sym (append_assoc (take len before) digits (drop end before)) in
    let long : end ≡ length front = omega (arith, to, length-append (take len before) digits, length-take-le len before within) in
    ap (take end) whole ∙ ap (λ n. take n (front ++ drop end before)) long ∙ take-append_seam front (drop end before)
