-- Texts that are put one after another, and texts that stand in memory.
use Rattle.std.specs.Prelude.{◌≡◌, ℕ, zero, suc, ◌+◌, ◌<◌, List, [], ◌∷◌, ◌++◌, cond, ◌==◌, codes, decimal, slice_index, slice_index_or, length, IfOk}
use Rattle.std.specs.Fork.{slice_chunk}
use Rattle.std.specs.Global.{Vec}
use Rattle.std.specs.List.{flat_map}
use Rattle.std.specs.declared.result.Result.{Result}
use Rattle.amr_io.specs.declared.WriteFault.{WriteFault}

-- f 0, f 1 and so on, n texts
abbrev pub texts : (ℕ → List ℕ) → ℕ → List ℕ
texts f zero = []
texts f (suc n) = texts f n ++ f n

-- the mass in column x of a row, after what stands between it and the one before
abbrev pub word : ℕ → ℕ → List ℕ
word x mass = cond (x == 0) [] (codes " ") ++ decimal mass

-- masses that stand in the columns from `first` on
abbrev pub masses_text : ℕ → List ℕ → List ℕ
masses_text first masses = texts (λ k. word (first + k) (slice_index masses k)) (length masses)

-- the line of a level with so many boxes
abbrev pub level_head : ℕ → ℕ → List ℕ
level_head l boxes = codes "level " ++ (decimal l ++ (codes " " ++ (decimal boxes ++ 10 ∷ [])))

-- texts one behind the other
abbrev pub joined : List (Vec ℕ) → List ℕ
joined texts = flat_map (λ (t : Vec ℕ). t.items) texts

-- each run of so many items has their text, where there was memory for it
abbrev pub AreTextsOfRuns : {A : Type 0} → (A → List ℕ) → List A → ℕ → List (Result (Vec ℕ) WriteFault) → Type 0
AreTextsOfRuns text items size runs =
    (k : ℕ) (r : Result (Vec ℕ) WriteFault) → k < length runs → IfOk (slice_index_or runs k r) (λ v. v.items ≡ flat_map text (slice_chunk items size k))
