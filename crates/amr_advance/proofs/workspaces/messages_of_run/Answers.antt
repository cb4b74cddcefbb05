use Rattle.std.proofs.Common.{◌*◌, ap, length, subst, arith}
use Rattle.amr_advance.proofs.MadeMessages.{AreMadeFor}
use Rattle.amr_advance.proofs.MadeWorkspaces.{box_made, few_places, in_row, in_column}
use Rattle.amr_advance.proofs.workspaces.messages_of_run.Goals as goal

pub overflow_mul-k : goal.overflow_mul-k
overflow_mul-k c = omega (arith, few_places c.args.k c.args.runs c.requires.there c.requires.few)

pub messages_for-requires : goal.messages_for-requires
messages_for-requires c = record { there = λ t lt. omega (arith, in_row c.args.k t c.args.runs c.requires.there lt, ap length c.deref.ensures.value, c.requires.copies) }

pub messages_for-requires-2 : goal.messages_for-requires-2
messages_for-requires-2 c = record { there = λ t lt. omega (arith, in_column c.args.k t c.args.runs c.requires.there lt, ap length c.deref-2.ensures.value, c.requires.copies) }

pub returns-clause-outbox : goal.returns-clause-outbox
returns-clause-outbox c =
    let made = c.in_ok-messages_for.ensures in
    box_made c.args.parts.now _ c.args.k c.args.runs (c.args.k * c.args.runs) 1 _ c.requires.there (λ t. omega arith)
    (subst (λ ls. AreMadeFor ls (c.args.k * c.args.runs) 1 c.args.k c.args.runs c.in_ok-messages_for.field-0.items) c.deref.ensures.value (record { count = made.count; copies = made.copies; empty = made.own; places = made.places }))

pub returns-clause-inbox : goal.returns-clause-inbox
returns-clause-inbox c =
    let made = c.in_ok-messages_for-2.ensures in
    box_made c.args.parts.now _ c.args.k c.args.runs c.args.k c.args.runs _ c.requires.there (λ t. omega arith)
    (subst (λ ls. AreMadeFor ls c.args.k c.args.runs c.args.k c.args.runs c.in_ok-messages_for-2.field-0.items) c.deref-2.ensures.value (record { count = made.count; copies = made.copies; empty = made.own; places = made.places }))
