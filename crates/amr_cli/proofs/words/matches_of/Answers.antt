use Rattle.std.proofs.Common.{◌<◌, ◌∙◌, ⊎_elim, ap, sym, subst, [], ◌∷◌, length, map, string_bytes, List, ℕ, arith}
use Rattle.clap.specs.Words.{App, IsAmong, Kinds, fault_of, subcommand_of, is_simple, is_simple_and_free}
use Rattle.clap.specs.declared.error.kind.ErrorKind.{ErrorKind}
use Rattle.amr_cli.proofs.words.matches_of.Goals as goal

-- a list that a kind is among is not empty
some_kind : (k : ErrorKind) (ks : Kinds) → IsAmong k ks → 0 < length ks
some_kind k [] among = absurd among
some_kind k (x ∷ xs) among = omega arith

pub returns-in-Ok-clause-faultless : goal.returns-in-Ok-clause-faultless
returns-in-Ok-clause-faultless c =
    let words : List (List ℕ) = map string_bytes c.args.words.now in
    let app = c.in_ok-program.ensures in
    ap (λ (a : App). fault_of a words) (sym app) ∙ c.in-Ok.ensures.kinds (ap is_simple_and_free app)

pub returns-in-Ok-clause-found : goal.returns-in-Ok-clause-found
returns-in-Ok-clause-found c =
    let words : List (List ℕ) = map string_bytes c.args.words.now in
    let app = c.in_ok-program.ensures in
    let matches = c.in-Ok.ensures.matches (ap is_simple app) in
    matches.1 ∙ ap (λ (a : App). subcommand_of a words) app

pub returns-clause-usage : goal.returns-clause-usage
returns-clause-usage c = λ is.
    let words : List (List ℕ) = map string_bytes c.args.words.now in
    let app = c.in_ok-program.ensures in
    let kinds = c.in-Err.ensures.kinds (ap is_simple_and_free app) in
    ⊎_elim (λ memory. absurd (c.in_default.not-OutOfMemory (c.kind.ensures ∙ memory)))
    (λ among. subst (λ (a : App). 0 < length (fault_of a words)) app (some_kind _ _ among)) kinds
