-- Texts of what states have at places, by the places in turn.
use Rattle.std.proofs.Common.{◌≡◌, ℕ, ◌+◌, ◌<◌, List, [], length, get_or, map, sym, ap, ◌∙◌, arith}
use Rattle.std.proofs.lemmas.List.FromFn.{get_or-map-range_with_len, length-map-range_with_len}
use Rattle.std.specs.List.{range_with_len}
use Rattle.amr_def.specs.Plot.{numbered}
use Rattle.amr_def.specs.Species.{by_place}
use Rattle.amr_def.specs.State.{State}
use Rattle.amr_plot.specs.Texts.{texts}
use Rattle.amr_plot.proofs.Putting.{numbered_from_zero, texts_same}

-- the text of place i, by what each state has there
abbrev pub place_text : {A : Type 0} → (ℕ → List A → List ℕ) → (State → ℕ → A) → List State → ℕ → List ℕ
place_text text at ss i = text i (map (λ s. at s i) ss)

pub places_text : {A : Type 0} (text : ℕ → List A → List ℕ) (at : State → ℕ → A) (n : ℕ) (ss : List State) → numbered text 0 (by_place at n ss) ≡ texts (place_text text at ss) n
places_text {A} text at n ss =
    let here : ℕ → List A = λ i. map (λ s. at s i) ss in
    numbered_from_zero text [] (by_place at n ss)
    ∙ ap (texts (λ i. text i (get_or (by_place at n ss) i []))) (length-map-range_with_len here 0 n)
    ∙ texts_same _ _ n (λ i below. ap (text i) (get_or-map-range_with_len here 0 n i i [] below (omega arith)))
