use Rattle.std.proofs.Common.{◌≡◌, ◌≤◌, ◌∙◌, ap, sym, refl, Bool, true, not, List, [], ◌∷◌, length, get_or, map, String, string_bytes, Global, arith}
use Rattle.std.specs.List.{list_any}
use Rattle.amr_cli.specs.Words.{is_command_name, is_help, may_be_command}
use Rattle.amr_cli.proofs.words.may_be_command.Goals as goal

any_bytes : (words : List (String Global)) → list_any is_help (map string_bytes words) ≡ list_any (λ w. is_help (string_bytes w)) words
any_bytes [] = refl
any_bytes (w ∷ ws) = rw (any_bytes ws)

begins : (words : List (String Global)) (first : String Global) (b : Bool) → 1 ≤ length words → first ≡ get_or words 0 first → is_command_name (string_bytes first) ≡ true
    → b ≡ list_any (λ w. is_help (string_bytes w)) words → not b ≡ may_be_command (map string_bytes words)
begins [] first b some is named asks = absurd (omega arith)
begins (w ∷ ws) first b some is named asks =
    let here : is_command_name (string_bytes w) ≡ true = ap (λ (v : String Global). is_command_name (string_bytes v)) (sym is) ∙ named in
    rw (here, any_bytes ws) (ap not asks)

pub returns-then-is_command_name : goal.returns-then-is_command_name
returns-then-is_command_name c =
    begins c.args.words.now c.first-item.result c.any_is_help.result c.in-len1-up.len_at_least c.first-item.is
    (ap is_command_name (sym c.as_str.ensures.value) ∙ sym c.is_command_name.ensures ∙ c.if-is_command_name.true) c.any_is_help.ensures
