use Rattle.std.proofs.Common.{inl, inr}
use Rattle.std.proofs.lemmas.Bool.{cases_Bool, false≢true}
use Rattle.std.proofs.lemmas.Str.{is_utf8-from_IsUtf8, IsUtf8-from_is_utf8}
use Rattle.std.specs.Str.{is_utf8}
use Rattle.amr_problem.specs.Document.{document}
use Rattle.amr_problem.proofs.document.read.Goals as goal

pub returns-in-Ok-clause-read : goal.returns-in-Ok-clause-read
unfolding document
returns-in-Ok-clause-read c =
    let ok = c.in-Ok.ensures.ok in
    rw (is_utf8-from_IsUtf8 c.args.bytes.now ok.0) ok.1

pub returns-else-is_memory-clause-refused : goal.returns-else-is_memory-clause-refused
unfolding document
returns-else-is_memory-clause-refused c f is = (
  cc is,
  elim (cases_Bool (is_utf8 c.args.bytes.now)) [
    | inl text ↦ rw text (c.in-Err.ensures.refused (λ memory. false≢true (c.if-is_memory.ensures.1 memory)) (IsUtf8-from_is_utf8 c.args.bytes.now text))
    | inr bad ↦ rw bad
  ],
)
