-- What a call knows of its end.
use Rattle.std.proofs.Common.{◌≡◌, ℕ, List, ◌∷◌, sym, ap, ◌∙◌}
use Rattle.atomic_table.specs.Seated.{TableId}
use Rattle.atomic_table.specs.Table.{Me, rest}
use Rattle.atomic_table.specs.declared.shared.Seat.{Seat}
use Rattle.amr_mailbox.specs.declared.mail.Mail.{Mail}
use Rattle.amr_mailbox.specs.declared.view.Role.{Role}
use Rattle.amr_mailbox.specs.declared.view.Role.TheVariants.{Asks, Works}
use Rattle.amr_mailbox.specs.declared.view.Turn.{Turn}
use Rattle.amr_mailbox.specs.declared.view.View.{View}
use Rattle.amr_mailbox.specs.Views.{view_of, holding, asker_slots, worker_slots}
use Rattle.amr_mailbox.specs.MailboxOf.{EndOf, end_of}

module _ {O A K : Type 0} where
  -- the seat is one of the table's, with this view and these slots
  pub record Knows (id : TableId) (view : View O K) (held : List (ℕ × Mail O A)) (seat : Seat (Mail O A) (View O K)) : Type 0 where
    pub table : seat.table_id ≡ id
    pub me : seat.me ≡ (view, held)

  knows : (role : Role) (id : TableId) (key : K) (turn : Turn O) (slots : Turn O → List (ℕ × Mail O A)) (seat : Seat (Mail O A) (View O K))
      → ◌≡◌ {A = EndOf O K} (end_of (record { id = seat.table_id; key = seat.me.0.key }) seat.me.0.turn) (end_of (record { id = id; key = key }) turn)
      → seat.me.0.role ≡ role → seat.me.1 ≡ slots seat.me.0.turn → Knows id (view_of key role turn) (slots turn) seat
  knows role id key turn slots seat is here held =
      let k : seat.me.0.key ≡ key = ap (λ (e : EndOf O K). e.mailbox.key) is in
      let t : seat.me.0.turn ≡ turn = ap (λ (e : EndOf O K). e.turn) is in
      let l : seat.me.1 ≡ slots turn = held ∙ ap slots t in
      record { table = ap (λ (e : EndOf O K). e.mailbox.id) is; me = λ i. (record { key = k i; role = here i; turn = t i }, l i) }

  pub asker_knows : (id : TableId) (key : K) (turn : Turn O) (seat : Seat (Mail O A) (View O K))
      → ◌≡◌ {A = EndOf O K} (end_of (record { id = seat.table_id; key = seat.me.0.key }) seat.me.0.turn) (end_of (record { id = id; key = key }) turn)
      → (seat.me.0.role ≡ Asks) × (seat.me.1 ≡ asker_slots seat.me.0.turn) → Knows id (view_of key Asks turn) (asker_slots turn) seat
  asker_knows id key turn seat is fits = knows Asks id key turn asker_slots seat is fits.0 fits.1

  pub worker_knows : (id : TableId) (key : K) (turn : Turn O) (seat : Seat (Mail O A) (View O K))
      → ◌≡◌ {A = EndOf O K} (end_of (record { id = seat.table_id; key = seat.me.0.key }) seat.me.0.turn) (end_of (record { id = id; key = key }) turn)
      → (seat.me.0.role ≡ Works) × (seat.me.1 ≡ worker_slots seat.me.0.turn) → Knows id (view_of key Works turn) (worker_slots turn) seat
  worker_knows id key turn seat is fits = knows Works id key turn worker_slots seat is fits.0 fits.1

  -- the mail was exchanged
  pub exchanged : (old new : Me (Mail O A) (View O K)) (view : View O K) (x y : Mail O A) → old ≡ (view, holding x) → new ≡ (old.0, (0, y) ∷ rest old.1) → new ≡ (view, holding y)
  exchanged old new view x y is made = made ∙ ap (λ (m : Me (Mail O A) (View O K)). (m.0, (0, y) ∷ rest m.1)) is

  pub held_now : (m : Me (Mail O A) (View O K)) (view : View O K) (x : Mail O A) → m ≡ (view, holding x) → m.1 ≡ (0, x) ∷ rest m.1
  held_now m view x is = let l : m.1 ≡ holding x = ap (λ (n : Me (Mail O A) (View O K)). n.1) is in l ∙ ap (λ r. (0, x) ∷ r) (sym (ap rest l))
