use Rattle.std.proofs.Common.{◌≡◌, List, [], ◌∷◌, ◌++◌, sym, ap, ◌∙◌, subst, arith}
use Rattle.atomic_table.specs.Table.{Allows, Splits, Me, opening}
use Rattle.amr_mailbox.specs.declared.mail.Mail.{Mail}
use Rattle.amr_mailbox.specs.declared.mail.Mail.TheVariants.{Empty}
use Rattle.amr_mailbox.specs.declared.view.View.{View}
use Rattle.amr_mailbox.specs.Views.{first_view, parting_view, asker_view, worker_view, holding}
use Rattle.amr_mailbox.specs.Rule.{Rule, unopened}
use Rattle.amr_mailbox.proofs.Steps.{opens, parts}
use Rattle.amr_mailbox.proofs.mailbox.Mailbox.make.Goals as goal

pub new-requires : goal.new-requires
new-requires g c =
    let one = c.push_reserved.ensures.items ∙ ap (λ (l : List (Mail g.row.O.Denot g.row.A.Denot)). l ++ Empty ∷ []) c.in_ok-slots.ensures.items in
    record { stage = unopened; state = ap (λ (l : List (Mail g.row.O.Denot g.row.A.Denot)). opening (0 ∷ []) l (first_view {O = g.row.O.Denot} c.args.key.now)) one; sound = tt }

pub load-requires : goal.load-requires
load-requires g c =
    let o = c.in-Ok.ensures.ok in
    let shared = c.in-Ok.made.0.shared in
    let seat = c.in-Ok.made.1 in
    let me : ◌≡◌ {A = Me (Mail g.row.O.Denot g.row.A.Denot) (View g.row.O.Denot g.row.K.Denot)} seat.me (first_view shared.key, []) = o.4 ∙ ap (λ (k : g.row.K.Denot). (first_view k, [])) (sym o.5) in (
      o.2,
      (let n = o.0 in omega arith),
      subst
          (λ (m : Me (Mail g.row.O.Denot g.row.A.Denot) (View g.row.O.Denot g.row.K.Denot)). Allows (Rule g.E.Errand.may g.E.Errand.serves shared.key) shared.table_id.slots seat.id m 0 (λ n. n) (λ n w. w ≡ (parting_view m.0.key, holding Empty)))
          (sym me) (opens g.E.Errand.may g.E.Errand.serves shared.key shared.table_id.slots seat.id),
    )

pub split_seat-other-requires : goal.split_seat-other-requires
split_seat-other-requires g c =
    let o = c.in-Ok.ensures.ok in
    let shared = c.in-Ok.made.0.shared in
    let seat = c.in-Ok.made.1 in
    let me : ◌≡◌ {A = Me (Mail g.row.O.Denot g.row.A.Denot) (View g.row.O.Denot g.row.K.Denot)} seat.me (first_view shared.key, []) = o.4 ∙ ap (λ (k : g.row.K.Denot). (first_view k, [])) (sym o.5) in
    let view : c.load.new.seat.me.0 ≡ parting_view shared.key
    = ap (λ (m : Me (Mail g.row.O.Denot g.row.A.Denot) (View g.row.O.Denot g.row.K.Denot)). m.0) c.load.ensures.2 ∙ ap (λ (m : Me (Mail g.row.O.Denot g.row.A.Denot) (View g.row.O.Denot g.row.K.Denot)). parting_view m.0.key) me in (
      c.load.ensures.0 ∙ o.2,
      (let n = o.0 in omega arith),
      subst (λ (v : View g.row.O.Denot g.row.K.Denot). Splits (Rule g.E.Errand.may g.E.Errand.serves shared.key) c.load.new.seat.id v (asker_view v.key) (worker_view v.key)) (sym view)
          (parts g.E.Errand.may g.E.Errand.serves shared.key c.load.new.seat.id),
    )
