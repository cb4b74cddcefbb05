-- What a buffer keeps back, and what a call on it sends. (profile)
use Rattle.std.specs.Prelude.{ℕ, ◌≡◌, Bool, cond, List, [], ◌∷◌, ◌++◌, codes, decimal}
use Rattle.amr_causes.specs.Bytes.{Grows}
use Rattle.amr_io.specs.declared.fragment.Fragment.{Fragment}
use Rattle.amr_io.specs.declared.fragment.Fragment.TheVariants.{Str, Number}

-- What went out, and then what is kept back now, is what was kept back before, and then the text.
abbrev pub Sent : {S : Type 0} → (S → List ℕ → Type 0) → S → S → List ℕ → List ℕ → List ℕ → Type 0
Sent holds old new kept keeps text = (out : List ℕ) × Grows holds old new out × (out ++ keeps ≡ kept ++ text)

-- the text of a fragment, a number in decimal digits
abbrev pub fragment_text : Fragment → List ℕ
fragment_text (Str text) = text.now
fragment_text (Number n) = decimal n

-- the text of fragments in turn
abbrev pub fragments_text : List Fragment → List ℕ
fragments_text [] = []
fragments_text (p ∷ ps) = fragment_text p ++ fragments_text ps

-- an entry of a row of numbers: a space, unless it is the first, and its decimal digits
abbrev pub entry_text : Bool → ℕ → List ℕ
entry_text first n = cond first [] (codes " ") ++ decimal n
