use Rattle.std.proofs.Common.{◌≡◌, ◌||◌, ◌∙◌, Bool, true, false, refl, sym}
use Rattle.std.proofs.lemmas.Bool.{false≢true}
use Rattle.amr_store.specs.Stands.{is_shut}
use Rattle.amr_tests_store.proofs.store.latest_after_a_failed_sync.Goals as goal

or_true : (b : Bool) → (b || true) ≡ true
or_true true = refl
or_true false = refl

pub put-third-requires-clause-ready : goal.put-third-requires-clause-ready
put-third-requires-clause-ready g c =
    let fault = rw c.in-Err-DiskFault.field-0-is at c.in-Err-DiskFault.ensures.shuts.shut in
    let shut : is_shut c.put-2.new.self ≡ true = fault ∙ or_true _ in
    record { settled = λ open_now. absurd (false≢true (sym open_now ∙ shut)); stands = λ open_now s is. absurd (false≢true (sym open_now ∙ shut)) }
