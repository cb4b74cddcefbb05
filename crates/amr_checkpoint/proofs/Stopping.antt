-- A stop along the times of a run: one time more, a call that fails, and what each image holds.
use Rattle.std.proofs.Common.{◌≡◌, suc, inl, inr, ℕ, ◌≤◌, nat_le, ◌∷◌, [], ◌++◌, List, Option, Some, None, IfSome, refl, sym, subst, arith, All}
use Rattle.std.proofs.lemmas.Bool.{cases_Bool, leb-true, leb-false}
use Rattle.std.proofs.lemmas.List.Elements.{All-nil, All-cons}
use Rattle.std.proofs.lemmas.Option.{same_Some}
use Rattle.std.specs.Prelude.{slice_get}
use Rattle.amr_disk.specs.Image.{Only}
use Rattle.amr_checkpoint.specs.Laws.{AreRising}
use Rattle.amr_checkpoint.specs.Contents.{Content, Holds}
use Rattle.amr_checkpoint.specs.Times.{HoldsOneOf, Time, StopsAlong, StopsBetween, StopsLeave, contents_of, last_of}

one_of : (content : Content) (attempt : Option Content) (image : List ℕ) → Holds image content → HoldsOneOf content attempt image
one_of content None image h = h
one_of content (Some other) image h = inl h

-- ---- one interval

-- a later disk leaves at these moments no image that this one did not leave
between_kept : (leaves later : ℕ → List ℕ → Type 0) (first last : ℕ) (content : Content) (other : Option Content) → ((t : ℕ) (image : List ℕ) → t ≤ last → later t image → leaves t image)
    → StopsBetween leaves first last content other → StopsBetween later first last content other
between_kept leaves later first last content other kept h = record { later = h.later; each = λ t image from to left. h.each t image from to (kept t image to left) }

-- an interval with nothing else in it, and one after it
between_joined : (leaves : ℕ → List ℕ → Type 0) (first middle last : ℕ) (content : Content) (attempt : Option Content) → StopsBetween leaves first middle content None → StopsBetween leaves middle last content attempt
    → StopsBetween leaves first last content attempt
between_joined leaves first middle last content attempt h k = record {
  later = omega (arith, h.later, k.later);
  each = λ t image from to left. elim (cases_Bool (nat_le t middle)) [
    | inl early ↦ one_of content attempt image (h.each t image from (leb-true t middle early) left)
    | inr late ↦ k.each t image (omega (arith, leb-false t middle late)) to left
  ];
}

-- ---- times

pub along_now : (leaves : ℕ → List ℕ → Type 0) (time : Time) (times : List Time) (now : ℕ) (attempt : Option Content) → StopsAlong leaves time times now attempt → time.moment ≤ now
along_now leaves time [] now attempt h = h.later
along_now leaves time (next ∷ rest) now attempt h = omega (arith, h.0.later, along_now leaves next rest now attempt h.2)

-- those of one disk up to a moment, and of a later one from there on
pub along_joined : (leaves later : ℕ → List ℕ → Type 0) (time : Time) (times : List Time) (middle : ℕ) (more : List Time) (now : ℕ) (attempt : Option Content)
    → ((t : ℕ) (image : List ℕ) → t ≤ middle → later t image → leaves t image) → StopsAlong leaves time times middle None
    → StopsAlong later (record { moment = middle; content = last_of time.content (contents_of times) }) more now attempt → StopsAlong later time (times ++ more) now attempt
along_joined leaves later time [] middle [] now attempt kept h k =
    between_joined later time.moment middle now time.content attempt (between_kept leaves later time.moment middle time.content None kept h) k
along_joined leaves later time [] middle (next ∷ rest) now attempt kept h k =
    (between_joined later time.moment middle next.moment time.content (Some next.content) (between_kept leaves later time.moment middle time.content None kept h) k.0, k.1, k.2)
along_joined leaves later time (next ∷ rest) middle more now attempt kept h k =
    let ends : next.moment ≤ middle = along_now leaves next rest middle None h.2 in (
      between_kept leaves later time.moment next.moment time.content (Some next.content) (λ t image to left. kept t image (omega (arith, to, ends)) left) h.0,
      h.1,
      along_joined leaves later next rest middle more now attempt kept h.2 k,
    )

-- a stop leaves what a read gives, at the one moment
pub between_now : (seen : Option (List ℕ)) (moment : ℕ) (leaves : ℕ → List ℕ → Type 0) (s : List ℕ) (content : Content) → seen ≡ Some s → Only seen (leaves moment) → Holds s content
    → StopsBetween leaves moment moment content None
between_now seen moment leaves s content told settled held = record {
  later = omega arith;
  each = λ t image from to left.
      let now : t ≡ moment = omega (arith, from, to) in
      let only : Only (Some s) (leaves moment) = subst (λ (o : Option (List ℕ)). Only o (leaves moment)) told settled in
      subst (λ (c : List ℕ). Holds c content) (sym (only image (subst (λ (u : ℕ). leaves u image) now left))) held;
}

-- ---- what was made last

pub last_on : (found : Content) (xs ys : List Content) → last_of found (xs ++ ys) ≡ last_of (last_of found xs) ys
last_on found [] ys = refl
last_on found (x ∷ xs) ys = last_on x xs ys

pub rising_front : (found : Content) (xs ys : List Content) → AreRising found (xs ++ ys) → AreRising found xs
rising_front found [] ys h = tt
rising_front found (x ∷ xs) ys h = (h.0, rising_front x xs ys h.1)

pub rising_back : (found : Content) (xs ys : List Content) → AreRising found (xs ++ ys) → AreRising (last_of found xs) ys
rising_back found [] ys h = h
rising_back found (x ∷ xs) ys h = rising_back x xs ys h.1

-- ---- what each image holds

-- some content with P
pub record HoldsWith (P : Content → Type 0) (image : List ℕ) : Type 0 where
  pub content : Content
  pub held : Holds image content
  pub has : P content

held_with : (P : Content → Type 0) (content : Content) (other : Option Content) (image : List ℕ) → P content → IfSome other P → HoldsOneOf content other image → HoldsWith P image
held_with P content None image here there h = record { content = content; held = h; has = here }
held_with P content (Some other) image here there (inl h) = record { content = content; held = h; has = here }
held_with P content (Some other) image here there (inr h) = record { content = other; held = h; has = there }

first_has : (P : Content → Type 0) (rest : List Content) (first : Content) → All P (first ∷ rest) → P first
first_has P rest first each = each 0 first (omega arith)

rest_have : (P : Content → Type 0) (rest : List Content) (first : Content) → All P (first ∷ rest) → All P rest
rest_have P rest first each = λ k d within. each (suc k) d (omega arith)

along_each : (leaves : ℕ → List ℕ → Type 0) (P : Content → Type 0) (time : Time) (times : List Time) (now : ℕ) (attempt : Option Content) → StopsAlong leaves time times now attempt
    → P time.content → All P (contents_of times) → IfSome attempt P → (t : ℕ) (image : List ℕ) → time.moment ≤ t → t ≤ now → leaves t image → HoldsWith P image
along_each leaves P time [] now attempt h here each there t image from to left = held_with P time.content attempt image here there (h.each t image from to left)
along_each leaves P time (next ∷ rest) now attempt h here each there t image from to left = elim (cases_Bool (nat_le t next.moment)) [
  | inl early ↦ held_with P time.content (Some next.content) image here (first_has P (contents_of rest) next.content each) (h.0.each t image from (leb-true t next.moment early) left)
  | inr late ↦ along_each leaves P next rest now attempt h.2 (first_has P (contents_of rest) next.content each) (rest_have P (contents_of rest) next.content each) there t image (omega (arith, leb-false t next.moment late)) to left
]

front_each : (P : Content → Type 0) (made rest : List Content) → All P (made ++ rest) → All P made × All P rest
front_each P [] rest each = (All-nil P, each)
front_each P (x ∷ made) rest each =
    let others = front_each P made rest (rest_have P (made ++ rest) x each) in
    (All-cons P x made (first_has P (made ++ rest) x each) others.0, others.1)

next_has : (P : Content → Type 0) (rest : List Content) (attempt : Option Content) → All P rest → IfSome attempt (λ content. slice_get rest 0 ≡ Some content) → IfSome attempt P
next_has P rest None each next = tt
next_has P [] (Some content) each next = absurd (cc)
next_has P (x ∷ rest) (Some content) each next = subst P (same_Some x content next) (first_has P rest x each)

-- what holds of what was found and of all that is made of it holds of what each image holds
pub leave_each : (leaves : ℕ → List ℕ → Type 0) (P : Content → Type 0) (found : Time) (now : ℕ) (all : List Content) (times : List Time) (attempt : Option Content) → StopsLeave leaves found now all times attempt
    → P found.content → All P all → (t : ℕ) (image : List ℕ) → found.moment ≤ t → t ≤ now → leaves t image → HoldsWith P image
leave_each leaves P found now all times attempt h here each =
    let parts = front_each P (contents_of times) h.front.rest (subst (All P) (sym h.front.split) each) in
    along_each leaves P found times now attempt h.along here parts.0 (next_has P h.front.rest attempt parts.1 h.front.next)
