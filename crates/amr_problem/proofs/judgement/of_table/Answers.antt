use Rattle.std.proofs.Common.{◌≡◌, ◌∙◌, sym, None, Result, Ok, Err, IfOk, OnOk}
use Rattle.std.specs.Option.{option_or}
use Rattle.toml.specs.View.{table_view}
use Rattle.amr_problem.specs.Faults.{unknown_key, missing_key, fault_in}
use Rattle.amr_problem.specs.Entries.{entry_fault}
use Rattle.amr_problem.proofs.FirstSome.{both_none}
use Rattle.amr_problem.proofs.JudgementLaws.{fault_in-entries, fits_basics, has_keys}
use Rattle.amr_problem.proofs.judgement.of_table.Goals as goal

IfOk-from_OnOk : {T E P Q : Type 0} (r : Result T E) → OnOk r P → (P → Q) → IfOk r (λ _. Q)
IfOk-from_OnOk (Ok x) p f = f p
IfOk-from_OnOk (Err e) p f = tt

IfOk-map : {T E : Type 0} {P Q : T → Type 0} (r : Result T E) → IfOk r P → ((x : T) → P x → Q x) → IfOk r Q
IfOk-map (Ok x) p f = f x p
IfOk-map (Err e) p f = tt

pub of_entries-requires : goal.of_entries-requires
of_entries-requires c =
    let table = table_view c.args.table.now in
    let known = both_none (unknown_key table) (missing_key table) (sym c.in_ok-fault.ensures ∙ c.in_default.is) in
    fits_basics table c.in_ok-read.field-0 known.first c.in_ok-read.ensures.read

same : (c : goal.After-of_entries) → fault_in (table_view c.args.table.now) ≡ entry_fault c.in_ok-read.field-0
same c =
    let absent : option_or (unknown_key (table_view c.args.table.now)) (missing_key (table_view c.args.table.now)) ≡ None =
    sym c.in_ok-fault.ensures ∙ c.in_default.is in
    fault_in-entries (table_view c.args.table.now) c.in_ok-read.field-0 absent c.in_ok-read.ensures.kinds c.in_ok-read.ensures.read

pub returns-clause-clean : goal.returns-clause-clean
returns-clause-clean c = IfOk-from_OnOk c.of_entries.result c.of_entries.ensures.clean (λ none. same c ∙ none)

pub returns-clause-keys : goal.returns-clause-keys
returns-clause-keys c = IfOk-map c.of_entries.result c.of_entries.ensures.values (λ q v. has_keys (table_view c.args.table.now) c.in_ok-read.field-0 q c.in_ok-read.ensures.read v)

pub returns-clause-refused : goal.returns-clause-refused
returns-clause-refused c f is = same c ∙ c.of_entries.ensures.refused f is
