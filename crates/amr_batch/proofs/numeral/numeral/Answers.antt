use Rattle.std.proofs.Common.{◌≡◌, ◌∙◌, true, Ok, sym, ap, subst, decimal, arith}
use Rattle.std.specs.Str.{IsUtf8}
use Rattle.std.proofs.lemmas.Fmt.{IsAscii-decimal, parse-decimal}
use Rattle.std.proofs.lemmas.Str.{IsUtf8-from_ascii}
use Rattle.amr_batch.proofs.numeral.numeral.Goals as goal

pub returns-in_default-clause-none : goal.returns-in_default-clause-none
returns-in_default-clause-none c n few e =
    let is_text : IsUtf8 c.args.digits.now = subst (λ bs. IsUtf8 bs) (sym e) (IsUtf8-from_ascii (decimal n) (IsAscii-decimal n (omega (arith, few)))) in
    c.in_default.ensures.cases.0 is_text

pub returns-in_default-parse-clause-none : goal.returns-in_default-parse-clause-none
returns-in_default-parse-clause-none c n few e =
    let read : c.parse.result ≡ Ok n = parse-decimal 32 n c.in-Ok.text.now c.parse.result (omega (arith, few)) (omega (arith, few)) (c.in-Ok.ensures.cases.0 ∙ e) c.parse.ensures.value.0 in
    cc

pub returns-then-n-gt-MOST-clause-none : goal.returns-then-n-gt-MOST-clause-none
returns-then-n-gt-MOST-clause-none c n few e =
    let read : c.parse.result ≡ Ok n = parse-decimal 32 n c.in-Ok.text.now c.parse.result (omega (arith, few)) (omega (arith, few)) (c.in-Ok.ensures.cases.0 ∙ e) c.parse.ensures.value.0 in
    let same : c.in-Ok-parse.n ≡ n = cc in
    omega (arith, same, few, c.if-n-gt-MOST.true)

pub returns-else-is_written-clause-none : goal.returns-else-is_written-clause-none
returns-else-is_written-clause-none c n few e =
    let read : c.parse.result ≡ Ok n = parse-decimal 32 n c.in-Ok.text.now c.parse.result (omega (arith, few)) (omega (arith, few)) (c.in-Ok.ensures.cases.0 ∙ e) c.parse.ensures.value.0 in
    let same : c.in-Ok-parse.n ≡ n = cc in
    let yes : c.is_written.result ≡ true = c.is_written.ensures.1 (e ∙ ap decimal (sym same)) in
    cc
