-- Writes and reads in turn.
use Rattle.std.proofs.Common.{◌≡◌, ℕ, ◌+◌, ◌-◌, List, [], ◌++◌, length, take, drop, Option, Some, None, refl, sym, ◌∙◌, ap, subst, append_assoc, arith, length-drop}
use Rattle.std.proofs.lemmas.List.{append-nil, take-append-drop, take_all}
use Rattle.std.proofs.Math.Seq.{take-add}
use Rattle.std.specs.Io.KnownBytes.{Consumes}
use Rattle.amr_causes.specs.Bytes.{Grows, IsPrefix, TakesPrefix, WereLeft}

-- prefixes

pub prefix_none : (whole : List ℕ) → IsPrefix [] whole
prefix_none whole = record { rest = whole; split = refl }

pub prefix_whole : (whole : List ℕ) → IsPrefix whole whole
prefix_whole whole = record { rest = []; split = append-nil whole }

pub prefix_take : (n : ℕ) (whole : List ℕ) → IsPrefix (take n whole) whole
prefix_take n whole = record { rest = drop n whole; split = take-append-drop n whole }

pub prefix_longer : (part whole more : List ℕ) → IsPrefix part whole → IsPrefix part (whole ++ more)
prefix_longer part whole more is = record { rest = is.rest ++ more; split = sym (append_assoc part is.rest more) ∙ ap (λ (l : List ℕ). l ++ more) is.split }

pub prefix_after : (front part whole : List ℕ) → IsPrefix part whole → IsPrefix (front ++ part) (front ++ whole)
prefix_after front part whole is = record { rest = is.rest; split = append_assoc front part is.rest ∙ ap (λ (l : List ℕ). front ++ l) is.split }

-- what a sink holds

module _ {S : Type 0} (holds : S → List ℕ → Type 0) where
  pub grows_none : (old : S) → Grows holds old old []
  grows_none old = λ held was. subst (holds old) (sym (append-nil held)) was

  pub grows_more : (old mid new : S) (a b : List ℕ) → Grows holds old mid a → Grows holds mid new b → Grows holds old new (a ++ b)
  grows_more old mid new a b first second = λ held was. subst (holds new) (append_assoc held a b) (second (held ++ a) (first held was))

  pub grows_to : (old new : S) (a b : List ℕ) → a ≡ b → Grows holds old new a → Grows holds old new b
  grows_to old new a b same grows = subst (λ (l : List ℕ). Grows holds old new l) same grows

  -- a call that wrote nothing came after
  pub grows_refused : (old mid new : S) (a : List ℕ) → Grows holds old mid a → Grows holds mid new [] → Grows holds old new a
  grows_refused old mid new a first second = grows_to old new _ _ (append-nil a) (grows_more old mid new _ _ first second)

  -- the first n bytes, and then m of the rest
  pub grows_take : (old mid new : S) (n m : ℕ) (whole : List ℕ) → Grows holds old mid (take n whole) → Grows holds mid new (take m (drop n whole)) → Grows holds old new (take (n + m) whole)
  grows_take old mid new n m whole first second = grows_to old new _ _ (sym (take-add n m whole)) (grows_more old mid new _ _ first second)

  -- the same, where the rest is the slice `whole[n..]`
  pub grows_slice : (old mid new : S) (n m : ℕ) (whole : List ℕ) → Grows holds old mid (take n whole) → Grows holds mid new (take m (take (length whole - n) (drop n whole))) → Grows holds old new (take (n + m) whole)
  grows_slice old mid new n m whole first second =
      let rest : take (length whole - n) (drop n whole) ≡ drop n whole = take_all _ _ (omega (arith, length-drop n whole)) in
      grows_take old mid new n m whole first (grows_to mid new _ _ (ap (λ (l : List ℕ). take m l) rest) second)

  pub takes_none : (old : S) (whole : List ℕ) → TakesPrefix holds old old whole
  takes_none old whole = ([], prefix_none whole, grows_none old)

  pub takes_whole : (old new : S) (whole : List ℕ) → Grows holds old new whole → TakesPrefix holds old new whole
  takes_whole old new whole grows = (whole, prefix_whole whole, grows)

  pub takes_first : (old new : S) (n : ℕ) (whole : List ℕ) → Grows holds old new (take n whole) → TakesPrefix holds old new whole
  takes_first old new n whole grows = (take n whole, prefix_take n whole, grows)

  -- a prefix of a text is one of a longer text
  pub takes_longer : (old new : S) (whole more : List ℕ) → TakesPrefix holds old new whole → TakesPrefix holds old new (whole ++ more)
  takes_longer old new whole more taken = (taken.0, prefix_longer taken.0 whole more taken.1, taken.2)

  -- one text went out, and then a part of the next
  pub takes_after : (old mid new : S) (front whole : List ℕ) → Grows holds old mid front → TakesPrefix holds mid new whole → TakesPrefix holds old new (front ++ whole)
  takes_after old mid new front whole first second =
      (front ++ second.0, prefix_after front second.0 whole second.1, grows_more old mid new front second.0 first second.2)

-- what a source has left

pub consumes_none : (left : Option (List ℕ)) → Consumes left left []
consumes_none None = tt
consumes_none (Some xs) = refl

pub consumes_more : (a b c : Option (List ℕ)) (xs ys : List ℕ) → Consumes a b xs → Consumes b c ys → Consumes a c (xs ++ ys)
consumes_more None b c xs ys first second = tt
consumes_more (Some p) None c xs ys first second = absurd first
consumes_more (Some p) (Some q) None xs ys first second = absurd second
consumes_more (Some p) (Some q) (Some r) xs ys first second = first ∙ ap (λ (l : List ℕ). xs ++ l) second ∙ sym (append_assoc xs ys r)

-- a source that tells had what it tells, and one that does not may have had anything
pub were_left : (told : Option (List ℕ)) → (bytes : List ℕ) × WereLeft told bytes
were_left None = ([], tt)
were_left (Some left) = (left, refl)
