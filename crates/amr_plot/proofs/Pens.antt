-- Texts that a pen takes one after another.
use Rattle.std.proofs.Common.{◌≡◌, ℕ, ◌+◌, ◌<◌, List, ◌++◌, sym, subst, append_assoc}
use Rattle.std.specs.Prelude.{Result, Ok, Err, IsErr}
use Rattle.amr_causes.specs.Bytes.{IsPrefix}
use Rattle.amr_plot.specs.Pens.{IsPen, Puts}
use Rattle.amr_plot.specs.Texts.{texts}
use Rattle.amr_plot.proofs.Putting.{texts_next, texts_within}

-- a text was not taken whole
pub puts_failed : {S T E : Type 0} {wrote failed : S → S → List ℕ → Type 0} (a b : S) (t : List ℕ) (r : Result T E) → IsErr r → failed a b t → Puts wrote failed a b t r
puts_failed a b t (Ok v) is part = cc
puts_failed a b t (Err e) is part = record { whole = tt; part = part }

module _ {S : Type 0} {wrote failed : S → S → List ℕ → Type 0} (laws : IsPen wrote failed) where
  -- the same text, in other words
  pub wrote_same : (a b : S) (t u : List ℕ) → t ≡ u → wrote a b t → wrote a b u
  wrote_same a b t u is done = subst (wrote a b) is done

  pub puts_same : {T E : Type 0} (a b : S) (t u : List ℕ) (r : Result T E) → t ≡ u → Puts wrote failed a b t r → Puts wrote failed a b u r
  puts_same a b t u r is puts = subst (λ (l : List ℕ). Puts wrote failed a b l r) is puts

  -- all of a text was taken
  pub puts_whole : {T E : Type 0} (a b : S) (t : List ℕ) (v : T) → wrote a b t → Puts {E = E} wrote failed a b t (Ok v)
  puts_whole a b t v done = record { whole = done; part = tt }

  -- one text, and then another, with the answer of the second
  pub puts_then : {T E : Type 0} (a b c : S) (t u : List ℕ) (r : Result T E) → wrote a b t → Puts wrote failed b c u r → Puts wrote failed a c (t ++ u) r
  puts_then a b c t u (Ok v) first puts = record { whole = laws.more a b c t u first puts.whole; part = tt }
  puts_then a b c t u (Err e) first puts = record { whole = tt; part = laws.later a b c t u first puts.part }

  -- the first of two texts was not taken whole
  pub puts_first : {T E : Type 0} (a b : S) (t u : List ℕ) (r : Result T E) → IsErr r → failed a b t → Puts wrote failed a b (t ++ u) r
  puts_first a b t u (Ok v) is part = cc
  puts_first a b t u (Err e) is part = record { whole = tt; part = laws.longer a b t u part }

  -- nor was one that begins a whole, after what was taken
  pub puts_stop : {T E : Type 0} (a b c : S) (done now whole : List ℕ) (r : Result T E) → IsErr r → IsPrefix (done ++ now) whole → wrote a b done → failed b c now
      → Puts wrote failed a c whole r
  puts_stop a b c done now whole (Ok v) is begins first part = cc
  puts_stop a b c done now whole (Err e) is begins first part =
      record { whole = tt; part = subst (failed a c) begins.split (laws.longer a c (done ++ now) begins.rest (laws.later a b c done now first part)) }

  -- ---- texts in turn

  pub texts_wrote : (a b c : S) (f : ℕ → List ℕ) (i : ℕ) → wrote a b (texts f i) → wrote b c (f i) → wrote a c (texts f (i + 1))
  texts_wrote a b c f i first second = subst (wrote a c) (sym (texts_next f i)) (laws.more a b c (texts f i) (f i) first second)

  pub texts_stop : {T E : Type 0} (a b c : S) (f : ℕ → List ℕ) (i n : ℕ) (whole : List ℕ) (r : Result T E) → IsErr r → i < n → whole ≡ texts f n → wrote a b (texts f i)
      → failed b c (f i) → Puts wrote failed a c whole r
  texts_stop a b c f i n whole r is below all first part = puts_stop a b c (texts f i) (f i) whole r is (texts_within f i n whole below all) first part
