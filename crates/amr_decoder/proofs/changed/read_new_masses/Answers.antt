use Rattle.std.proofs.Common.{◌≡◌, ◌+◌, ◌++◌, ◌∷◌, [], ℕ, List, drop, sym, ap, ◌∙◌, append_assoc, arith}
use Rattle.std.specs.Int.{w32}
use Rattle.amr_decoder.specs.Numbers.{numbers}
use Rattle.amr_decoder.proofs.MassReadings.{number_here, numbers_push}
use Rattle.amr_decoder.proofs.ChangedRows.{no_numbers}
use Rattle.amr_decoder.proofs.changed.read_new_masses.Goals as goal

pub loop-i-init : goal.loop-i-init
loop-i-init c = no_numbers c.args.masses.now.items (drop c.place-from.result c.bytes-bytes.result.now)

pub loop-i-preserved : goal.loop-i-preserved
loop-i-preserved c =
    let l = c.loop-i in
    let rest = drop c.place-from.result c.bytes-bytes.result.now in
    let out = c.args.masses.now.items in
    c.in_ok-push.ensures.items
    ∙ (λ t. l.invariant t ++ (c.word_at.ensures ∙ number_here w32 c.place-from.result l.i c.bytes-bytes.result.now) t ∷ [])
    ∙ append_assoc out (numbers w32 l.i rest) _ ∙ ap (λ (xs : List ℕ). out ++ xs) (numbers_push w32 l.i rest)

pub returns-clause-added : goal.returns-clause-added
returns-clause-added c =
    let l = c.loop-i in
    let out = c.args.masses.now.items in
    let all : l.i ≡ c.args.count = omega (arith, l.auto.i-end, c.loop-i-test.false) in
    l.invariant ∙ ap (λ (n : ℕ). out ++ numbers w32 n (drop c.place-from.result c.bytes-bytes.result.now)) all
    ∙ ap (λ (bs : List ℕ). out ++ numbers w32 c.args.count (drop c.place-from.result bs)) c.bytes-bytes.ensures
    ∙ ap (λ (bs : List ℕ). out ++ numbers w32 c.args.count bs) (sym c.place-from.ensures.left)
