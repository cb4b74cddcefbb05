-- Letters in parcels.
use Rattle.std.proofs.Common.{◌≡◌, ◌∙◌, ℕ, suc, ◌+◌, ◌<◌, refl, ap, sym, List, [], ◌∷◌, ◌++◌, length, arith}
use Rattle.std.specs.Prelude.{slice_index_or}
use Rattle.std.proofs.lemmas.List.{flat_map_more}
use Rattle.amr_ranks.specs.Items.{total}
use Rattle.amr_ranks.specs.Letters.{LetterOf}
use Rattle.amr_ranks.proofs.Sums.{total-append}
use Rattle.amr_post.specs.declared.post.Parcel.{Parcel}
use Rattle.amr_post.specs.Letters.{letter_of, letters_in}

pub same_letters : (ps qs : List Parcel) → length qs ≡ length ps → ((k : ℕ) (d : Parcel) → k < length ps → letter_of (slice_index_or qs k d) ≡ letter_of (slice_index_or ps k d))
    → letters_in qs ≡ letters_in ps
same_letters [] [] count h = refl
same_letters [] (q ∷ qs) count h = absurd (omega (arith, count))
same_letters (p ∷ ps) [] count h = absurd (omega (arith, count))
same_letters (p ∷ ps) (q ∷ qs) count h =
    let here : letter_of q ≡ letter_of p = h 0 p (omega arith) in
    let rest : letters_in qs ≡ letters_in ps = same_letters ps qs (omega (arith, count)) (λ k d lt. h (suc k) d (omega (arith, lt))) in
    λ i. here i ++ rest i

-- one more parcel
pub one_more : (weight : LetterOf → ℕ) (ps : List Parcel) (q : Parcel) → total weight (letters_in (ps ++ q ∷ [])) ≡ total weight (letters_in ps) + total weight (letter_of q)
one_more weight ps q = ap (total weight) (sym (flat_map_more letter_of [] ps q)) ∙ total-append weight (letters_in ps) (letter_of q)

-- a letter goes to a parcel
pub packed : (ps : List Parcel) (q : Parcel) (l : LetterOf) (old new all : List LetterOf) → letter_of q ≡ l ∷ [] → old ≡ new ++ l ∷ []
    → ((weight : LetterOf → ℕ) → total weight (letters_in ps) + total weight old ≡ total weight all) → (weight : LetterOf → ℕ)
    → total weight (letters_in (ps ++ q ∷ [])) + total weight new ≡ total weight all
packed ps q l old new all own popped so_far weight =
    let a = one_more weight ps q in
    let b : total weight (letter_of q) ≡ weight l + 0 = ap (total weight) own in
    let c : total weight old ≡ total weight new + (weight l + 0) = ap (total weight) popped ∙ total-append weight new (l ∷ []) in
    let d = so_far weight in
    omega arith
