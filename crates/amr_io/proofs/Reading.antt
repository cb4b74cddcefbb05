-- What a read over memory leaves.
use Rattle.std.proofs.Common.{◌≡◌, ℕ, ◌+◌, List, ◌++◌, length, take, drop, sym, ◌∙◌, ap}
use Rattle.std.proofs.lemmas.List.{take-append-drop, take_at, drop-drop}

pub source_read : (items : List ℕ) (at n : ℕ) (new tail : List ℕ) → new ≡ take n (drop at items) → length new ≡ n → drop at items ≡ take n (new ++ tail) ++ drop (at + n) items
source_read items at n new tail is size =
    sym (take-append-drop n (drop at items))
    ∙ ap (λ (l : List ℕ). take n (drop at items) ++ l) (drop-drop n at items)
    ∙ ap (λ (l : List ℕ). l ++ drop (at + n) items) (sym is ∙ sym (take_at new tail n size))
