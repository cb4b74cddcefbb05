-- The version of a table, and the keys that it hasn't.
use Rattle.std.proofs.Common.{◌≡◌, ◌∙◌, ap, sym, refl, ℕ, zero, suc, ◌≤◌, Bool, true, false, not, ℤ, pos, negsuc, ◌≤ℤ◌, inl, inr, List, Option, None, Some, Ordering, Less, Equal, Greater, is_eq, nat_cmp, find, arith}
use Rattle.std.specs.Prelude.{codes}
use Rattle.std.specs.Ordering.{match_ordering}
use Rattle.std.specs.Cmp.Lexicographic.{slice_cmp}
use Rattle.std.specs.Option.{option_or, option_map_or}
use Rattle.std.specs.Str.{bytes_eq}
use Rattle.std.proofs.lemmas.Bool.{cases_Bool, true≢false}
use Rattle.std.proofs.lemmas.Bool.Decides.{nat_tests}
use Rattle.std.proofs.lemmas.Int.{ints}
use Rattle.std.proofs.lemmas.Map.Text.{is_eq-slice_cmp}
use Rattle.std.proofs.lemmas.Option.{same_Some}
use Rattle.std.proofs.lemmas.Slice.Eq.{bytes_eq-Decides}
use Rattle.toml.specs.Data.{Data, integer, as_integer, Members, no_members, member, get_member}
use Rattle.amr_problem.specs.declared.fault.ProblemFault.TheVariants.{UnknownKey}
use Rattle.amr_problem.specs.declared.key.Key.TheVariants.{Version, Species}
use Rattle.amr_problem.specs.Faults.{keys_in, known_version, unknown_key, version_in}
use Rattle.amr_problem.specs.Keys.{holds, is_known, versions}
use Rattle.amr_problem.specs.Values.{◌>>=◌, number_at}
use Rattle.amr_problem.proofs.FirstSome.{option_map-none}

-- ---- the version

is_version : (v : ℕ) → 1 ≤ v → v ≤ 3 → holds versions (pos v) ≡ true
is_version v least most = grind (arith, nat_tests)

-- the version of a problem is the one whose keys are known
pub version_in-is : (table : Members) (v : ℕ) → number_at table Version ≡ Some (pos v) → 1 ≤ v → v ≤ 3 → version_in table ≡ v
version_in-is table v says least most = ap (λ (o : Option ℤ). option_map_or known_version o 1) says ∙ rw (is_version v least most) refl

-- ---- a key that is not known is absent

absent_here : (o : Ordering) (d : Data) (rest : Option Data) → is_eq o ≡ false → rest ≡ None → match_ordering o rest (Some d) rest ≡ None
absent_here Less d rest other none = none
absent_here Equal d rest other none = absurd (true≢false other)
absent_here Greater d rest other none = none

other_key : (known : List ℕ → Bool) (text key : List ℕ) → known text ≡ false → known key ≡ true → is_eq (slice_cmp nat_cmp text key) ≡ false
other_key known text key unknown is =
    elim (cases_Bool (bytes_eq text key)) [
      | inl same ↦ absurd (true≢false (sym is ∙ sym (ap known ((bytes_eq-Decides text key).0 same)) ∙ unknown))
      | inr other ↦ is_eq-slice_cmp text key ∙ other
    ]

unknown_absent : (known : List ℕ → Bool) (text : List ℕ) (table : Members) → known text ≡ false → find (λ key. not (known key)) (keys_in table) ≡ None → get_member text table ≡ None
unknown_absent known text no_members unknown none = refl
unknown_absent known text (member key d rest) unknown none =
    elim (cases_Bool (known key)) [
      | inl is ↦ absent_here (slice_cmp nat_cmp text key) d (get_member text rest) (other_key known text key unknown is) (unknown_absent known text rest unknown (rw is at none))
      | inr other ↦ absurd (let e = rw other at none in cc)
    ]

-- ---- the species before version 3

-- the first or the second version
early : (z : ℤ) → z ≤ℤ pos 2 → is_known (known_version z) (codes "species") ≡ false
early (negsuc n) h = refl
early (pos zero) h = refl
early (pos (suc zero)) h = refl
early (pos (suc (suc zero))) h = refl
early (pos (suc (suc (suc n)))) h = absurd (omega (arith, ints))

alone : (table : Members) → get_member (codes "species") table ≡ None → number_at table Species ≡ Some (pos 1)
unfolding number_at
alone table absent = ap (λ (o : Option Data). option_or o (Some (integer (pos 1))) >>= as_integer) absent

-- there is one species
pub one_species : (table : Members) (z s : ℤ) → unknown_key table ≡ None → number_at table Version ≡ Some z → number_at table Species ≡ Some s → z ≤ℤ pos 2 → s ≡ pos 1
one_species table z s none says many is_early =
    let unknown : is_known (version_in table) (codes "species") ≡ false = ap (λ (o : Option ℤ). is_known (option_map_or known_version o 1) (codes "species")) says ∙ early z is_early in
    let absent : get_member (codes "species") table ≡ None = unknown_absent (is_known (version_in table)) (codes "species") table unknown (option_map-none UnknownKey _ none) in
    same_Some _ _ (sym many ∙ alone table absent)
