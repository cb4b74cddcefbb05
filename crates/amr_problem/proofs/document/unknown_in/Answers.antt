use Rattle.std.proofs.Common.{◌≡◌, ◌∙◌, ap, refl, subst, not, ℕ, List, [], ◌∷◌, Option, Some, None, option_map, String, string_bytes, Global, Bor, find, inl, inr}
use Rattle.std.proofs.lemmas.Bool.{cases_Bool}
use Rattle.std.specs.Map.{keys_of}
use Rattle.toml.specs.View.{members_view, table_view}
use Rattle.toml.proofs.Views.{Entry}
use Rattle.amr_problem.specs.Keys.{is_known}
use Rattle.amr_problem.specs.Faults.{keys_in}
use Rattle.amr_problem.proofs.document.unknown_in.Goals as goal

pointed : (r : Option (Bor (String Global))) → option_map (λ s. string_bytes s.now) r ≡ option_map string_bytes (option_map (λ s. s.now) r)
pointed None = refl
pointed (Some x) = refl

found : (version : ℕ) (es : List Entry) → option_map string_bytes (find (λ key. not (is_known version (string_bytes key))) (keys_of es)) ≡ find (λ key. not (is_known version key)) (keys_in (members_view es))
found version [] = refl
found version (e ∷ es) =
    elim (cases_Bool (is_known version (string_bytes e.0))) [
      | inl known ↦ rw known (found version es)
      | inr unknown ↦ rw unknown
    ]

pub returns : goal.returns
returns c =
    let table = c.args.table.now in
    let version : ℕ = c.version_in.result in
    let read : option_map (λ s. string_bytes s.now) c.unknown_text.result ≡ find (λ key. not (is_known version key)) (keys_in (table_view table)) =
    pointed c.unknown_text.result ∙ ap (option_map string_bytes) c.unknown_text.ensures ∙ found version table.entries in
    subst (λ (v : ℕ). option_map (λ s. string_bytes s.now) c.unknown_text.result ≡ find (λ key. not (is_known v key)) (keys_in (table_view table))) c.version_in.ensures read
