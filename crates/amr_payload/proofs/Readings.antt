-- What a reading took from the bytes, and which bytes give a reading.
use Rattle.std.proofs.Common.{◌≡◌, ℕ, suc, ◌<◌, Bool, true, false, List, [], ◌∷◌, ◌++◌, refl, sym, ap, subst, ◌∙◌, append_assoc, arith, All}
use Rattle.amr_payload.specs.Tests.{Left, Reading, bad, read, then_read, tested, read_also, read_joined}

abbrev pub left : ℕ → List ℕ → Left
left k bytes = record { place = k; bytes = bytes }

-- ---- bytes

abbrev pub AreBytes : List ℕ → Type 0
AreBytes [] = Unit {0}
AreBytes (b ∷ bs) = (b < 256) × AreBytes bs

pub are_bytes : (bs : List ℕ) → All (λ b. b < 256) bs → AreBytes bs
are_bytes [] small = tt
are_bytes (b ∷ bs) small = (small 0 0 (omega arith), are_bytes bs (λ k d inside. small (suc k) d (omega arith)))

-- ---- what was read

pub record WasRead {A B : Type 0} (q : Reading A) (next : A → Left → Reading B) (b : B) (e : Left) : Type 0 where
  pub value : A
  pub rest : Left
  pub first : q ≡ read value rest
  pub second : next value rest ≡ read b e

pub was_read : {A B : Type 0} (q : Reading A) (next : A → Left → Reading B) (b : B) (e : Left) → then_read q next ≡ read b e → WasRead q next b e
was_read (bad place) next b e h = absurd (cc)
was_read (read a rest) next b e h = record { value = a; rest = rest; first = refl; second = h }

pub record WasTested {A : Type 0} (test : Bool) (a b : A) (l e : Left) : Type 0 where
  pub passes : test ≡ true
  pub value : a ≡ b
  pub rest : l ≡ e

pub was_tested : {A : Type 0} (test : Bool) (place : ℕ) (a b : A) (l e : Left) → tested test place a l ≡ read b e → WasTested test a b l e
was_tested true place a b l e h = record { passes = refl; value = cc; rest = cc }
was_tested false place a b l e h = absurd (cc)

pub record AlsoRead {A : Type 0} (a : A) (q : Reading (List A)) (vs : List A) (e : Left) : Type 0 where
  pub others : List A
  pub first : q ≡ read others e
  pub all : vs ≡ a ∷ others

pub also_read : {A : Type 0} (a : A) (q : Reading (List A)) (vs : List A) (e : Left) → read_also a q ≡ read vs e → AlsoRead a q vs e
also_read a (bad place) vs e h = absurd (cc)
also_read a (read others rest) vs e h = record { others = others; first = let same : rest ≡ e = cc in ap (λ r. read others r) same; all = cc }

pub record JoinedRead {A : Type 0} (some : List A) (q : Reading (List A)) (vs : List A) (e : Left) : Type 0 where
  pub others : List A
  pub first : q ≡ read others e
  pub all : vs ≡ some ++ others

pub joined_read : {A : Type 0} (some : List A) (q : Reading (List A)) (vs : List A) (e : Left) → read_joined some q ≡ read vs e → JoinedRead some q vs e
joined_read some (bad place) vs e h = absurd (cc)
joined_read some (read others rest) vs e h = record { others = others; first = let same : rest ≡ e = cc in ap (λ r. read others r) same; all = cc }

-- ---- what it took

pub record Took (bytes : List ℕ) (r e : Left) : Type 0 where
  pub is : r.bytes ≡ bytes ++ e.bytes
  pub small : AreBytes e.bytes

pub took_then : (xs ys : List ℕ) (r a e : Left) → Took xs r a → Took ys a e → Took (xs ++ ys) r e
took_then xs ys r a e first second = record { is = first.is ∙ ap (λ bs. xs ++ bs) second.is ∙ sym (append_assoc xs ys e.bytes); small = second.small }

pub took_none : (r : Left) → AreBytes r.bytes → Took [] r r
took_none r small = record { is = refl; small = small }

pub took_same : (xs ys : List ℕ) (r a e : Left) → xs ≡ ys → a ≡ e → Took xs r a → Took ys r e
took_same xs ys r a e same end t = record { is = t.is ∙ (λ i. same i ++ (end i).bytes); small = subst (λ (l : Left). AreBytes l.bytes) end t.small }

-- ---- what gives it

pub record Gives {A : Type 0} (q : Reading A) (a : A) (bytes : List ℕ) : Type 0 where
  pub place : ℕ
  pub is : q ≡ read a (left place bytes)

pub gives : {A : Type 0} (k : ℕ) (a : A) (bytes : List ℕ) → Gives (read a (left k bytes)) a bytes
gives k a bytes = record { place = k; is = refl }

pub gives_then : {A B : Type 0} (q : Reading A) (next : A → Left → Reading B) (a : A) (b : B) (xs ys : List ℕ) → Gives q a xs → ((k : ℕ) → Gives (next a (left k xs)) b ys) → Gives (then_read q next) b ys
gives_then q next a b xs ys first second =
    let n = second first.place in
    record { place = n.place; is = ap (λ q. then_read q next) first.is ∙ n.is }

pub gives_tested : {A : Type 0} (test : Bool) (place k : ℕ) (a : A) (xs : List ℕ) → test ≡ true → Gives (tested test place a (left k xs)) a xs
gives_tested test place k a xs passes = record { place = k; is = ap (λ t. tested t place a (left k xs)) passes }

pub gives_also : {A : Type 0} (q : Reading (List A)) (a : A) (vs : List A) (xs : List ℕ) → Gives q vs xs → Gives (read_also a q) (a ∷ vs) xs
gives_also q a vs xs g = record { place = g.place; is = ap (λ q. read_also a q) g.is }

pub gives_at : {A : Type 0} (q : Left → Reading A) (k : ℕ) (a : A) (xs ys bs : List ℕ) → xs ≡ ys → Gives (q (left k ys)) a bs → Gives (q (left k xs)) a bs
gives_at q k a xs ys bs same g = record { place = g.place; is = ap (λ xs. q (left k xs)) same ∙ g.is }

pub gives_joined : {A : Type 0} (q : Reading (List A)) (some vs : List A) (xs : List ℕ) → Gives q vs xs → Gives (read_joined some q) (some ++ vs) xs
gives_joined q some vs xs g = record { place = g.place; is = ap (λ q. read_joined some q) g.is }
