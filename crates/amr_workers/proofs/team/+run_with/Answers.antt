use Rattle.std.proofs.Common.{◌≡◌, ℕ, ◌+◌, ◌<◌, ◌≤◌, List, [], ◌∷◌, ◌++◌, sym, ap, ◌∙◌, subst, length, vec_capacity, arith}
use Rattle.std.specs.List.{All}
use Rattle.std.specs.Arc.{arc_value}
use Rattle.std.proofs.lemmas.List.Elements.{length_all_zip}
use Rattle.amr_board.specs.declared.view.View.{View}
use Rattle.amr_board.specs.BoardOf.{BoardOf, IsSeatOf, view}
use Rattle.amr_mailbox.proofs.Lists.{all_init, all_last, all_snoc, longer}
use Rattle.amr_workers.specs.declared.asked.Asked.{Asked}
use Rattle.amr_workers.specs.declared.helper.Helper.{Helper}
use Rattle.amr_workers.specs.declared.order.DrawOrder.{DrawOrder}
use Rattle.amr_workers.specs.Asked.{IsOut, Keeps}
use Rattle.amr_workers.specs.Helpers.{AdmitsWorker, IsHelper}
use Rattle.amr_workers.specs.Orders.{Admits, HasDrawn, HasDrawnOne, IsReady, MayAsk, MayDraw, Serves}
use Rattle.amr_workers.specs.Shares.{MayLend, whole}
use Rattle.amr_workers.proofs.Lists.{zip_parts}
use Rattle.amr_workers.proofs.Loans.{fewer}
use Rattle.amr_workers.proofs.Orders.{comes_back, due_once_asked, out_once_asked}
use Rattle.amr_workers.proofs.Seats.{both_drawn, drawn_one, gone_drawn}
use Rattle.amr_workers.proofs.team.+run_with.Goals as goal

-- so many may be lent one seat more
pub lend-seat-requires : goal.lend-seat-requires
lend-seat-requires g t c =
    let one : length c.args.helpers.now.items ≡ 1 + length c.pop.new.self.items = ap length c.in-Some.ensures.items ∙ longer c.pop.new.self.items c.in-Some.helper in
    subst (λ (x : BoardOf g.row.P.Denot). MayLend x 1 c.args.seats) (sym c.deref-2.ensures) (fewer (arc_value c.args.board.now) 1 (length c.args.helpers.now.items) c.args.seats (omega arith) c.requires.seats)

pub draw_rest-requires-clause-seats : goal.draw_rest-requires-clause-seats
draw_rest-requires-clause-seats g t c =
    subst (λ (x : BoardOf g.row.P.Denot). MayLend x 0 c.args.seats) (sym c.deref.ensures) (fewer (arc_value c.args.board.now) 0 (length c.args.helpers.now.items) c.args.seats (omega arith) c.requires.seats)

pub draw_rest-requires-in_default-clause-seats : goal.draw_rest-requires-in_default-clause-seats
draw_rest-requires-in_default-clause-seats g t c =
    subst (λ (x : BoardOf g.row.P.Denot). MayLend x 0 c.args.seats) (sym c.deref-in_default.ensures) (fewer (arc_value c.args.board.now) 0 (length c.args.helpers.now.items) c.args.seats (omega arith) c.requires.seats)

pub draw_rest-all-requires-clause-seats : goal.draw_rest-all-requires-clause-seats
draw_rest-all-requires-clause-seats g t c =
    let one : length c.args.helpers.now.items ≡ 1 + length c.pop.new.self.items = ap length c.in-Some.ensures.items ∙ longer c.pop.new.self.items c.in-Some.helper in
    let enough = fewer (arc_value c.args.board.now) 1 (length c.args.helpers.now.items) c.args.seats (omega arith) c.requires.seats in
    let others = c.lend-seat.ensures.others 0 (subst (λ (x : BoardOf g.row.P.Denot). MayLend x 1 c.args.seats) (sym c.deref-2.ensures) enough) in
    subst (λ (x : BoardOf g.row.P.Denot). MayLend x 0 c.lend-seat.result.1) (c.deref-2.ensures ∙ sym c.deref-in_default-draw.ensures) others

-- where a worker can't be had for the board, the others are asked
pub run_with-seat-requires : goal.run_with-seat-requires
run_with-seat-requires g t c κs within =
    let H : Type 0 = Helper g.row.P.Denot g.row.J.Denot g.row.G.Denot in
    let b = arc_value c.args.board.now in
    let is = c.in-Some.ensures.items in
    let left = c.pop.new.self.items in
    let Q : H → Type 0 = λ h. IsHelper {O = DrawOrder g.row.P.Denot} c.args.job.now c.args.gate.now 64 (arc_value h.mailbox) h.asker in
    let A : H → Type 0 = λ h. AdmitsWorker (g.G.Gate.admits c.args.gate.now) (arc_value h.mailbox) b in
    let one : length c.args.helpers.now.items ≡ 1 + length left = ap length is ∙ longer left c.in-Some.helper in
    let seats = fewer b (length left) (length c.args.helpers.now.items) c.args.seats (omega arith) c.requires.seats in
    let helpers = all_init Q left c.in-Some.helper (subst (λ (l : List H). All Q l) is c.requires.helpers) in
    let gate = all_init A left c.in-Some.helper (subst (λ (l : List H). All A l) is c.requires.gate) in
    let room : length left + length c.args.asked.now.items ≤ vec_capacity c.args.asked.now = (let enough = c.requires.asked_room in omega arith) in (
      (let d = c.decreases in let l = c.in-Some.ensures.len in omega arith),
      (
        within.0,
        (within.1.0, (within.1.1.0, (within.1.1.1, (seats, (helpers, (c.requires.asked, (room, (c.requires.ready, (gate, c.requires.caller))))))))),
      ),
    )

-- the order, whose seat has drawn its first task
pub new-requires-clause-may : goal.new-requires-clause-may
new-requires-clause-may g t c =
    let H : Type 0 = Helper g.row.P.Denot g.row.J.Denot g.row.G.Denot in
    let b = arc_value c.args.board.now in
    let here : arc_value c.in-Ok.shared ≡ b = c.in-Ok.ensures in
    let is = c.in-Some.ensures.items in
    let task = c.in-Some-draw.task in
    let Q : H → Type 0 = λ h. IsHelper {O = DrawOrder g.row.P.Denot} c.args.job.now c.args.gate.now 64 (arc_value h.mailbox) h.asker in
    let A : H → Type 0 = λ h. AdmitsWorker (g.G.Gate.admits c.args.gate.now) (arc_value h.mailbox) b in
    let helper = all_last Q c.pop.new.self.items c.in-Some.helper (subst (λ (l : List H). All Q l) is c.requires.helpers) in
    let admits = all_last A c.pop.new.self.items c.in-Some.helper (subst (λ (l : List H). All A l) is c.requires.gate) in
    let may = subst (λ (x : BoardOf g.row.P.Denot). MayDraw x c.lend-seat.result.0) c.deref-2.ensures c.lend-seat.ensures.seat in
    let one = drawn_one b c.lend-seat.result.0 c.draw.new.seat task may (subst (λ (x : BoardOf g.row.P.Denot). IsSeatOf x c.draw.new.seat) c.deref-3.ensures c.in-Some-draw.ensures.seat)
    (subst (λ (x : BoardOf g.row.P.Denot). task < length x.plan.tasks) c.deref-3.ensures c.in-Some-draw.ensures.drew.0) c.in-Some-draw.ensures.drew.1 in
    record {
      drawn = subst (λ (x : BoardOf g.row.P.Denot). HasDrawnOne x task c.draw.new.seat) (sym here) one;
      ready_is = subst (λ (x : BoardOf g.row.P.Denot). IsReady (g.J.Job.ready (arc_value c.in-Some.helper.mailbox).key.job.value) x) (sym here) (subst (λ (j : g.row.J.Denot). IsReady (g.J.Job.ready j) b) (sym helper.job_is) c.requires.ready);
      admitted = subst (λ (x : BoardOf g.row.P.Denot). Admits (g.G.Gate.admits (arc_value c.in-Some.helper.mailbox).key.gate.value (arc_value c.in-Some.helper.mailbox).key.number) x) (sym here)
          (subst (λ (j : g.row.G.Denot). Admits (g.G.Gate.admits j (arc_value c.in-Some.helper.mailbox).key.number) b) (sym helper.gate_is) admits);
    }

pub new-requires-clause-free : goal.new-requires-clause-free
new-requires-clause-free g t c =
    let H : Type 0 = Helper g.row.P.Denot g.row.J.Denot g.row.G.Denot in
    let Q : H → Type 0 = λ h. IsHelper {O = DrawOrder g.row.P.Denot} c.args.job.now c.args.gate.now 64 (arc_value h.mailbox) h.asker in
    (all_last Q c.pop.new.self.items c.in-Some.helper (subst (λ (l : List H). All Q l) c.in-Some.ensures.items c.requires.helpers)).waits

pub run_with-all-requires : goal.run_with-all-requires
run_with-all-requires g t c κs within =
    let H : Type 0 = Helper g.row.P.Denot g.row.J.Denot g.row.G.Denot in
    let K : Type 0 = Asked g.row.P.Denot g.row.J.Denot g.row.G.Denot in
    let b = arc_value c.args.board.now in
    let here : arc_value c.in-Ok.shared ≡ b = c.in-Ok.ensures in
    let is = c.in-Some.ensures.items in
    let left = c.pop.new.self.items in
    let task = c.in-Some-draw.task in
    let order : DrawOrder g.row.P.Denot = record { board = c.in-Ok.shared; seat = c.draw.new.seat; task = task } in
    let Q : H → Type 0 = λ h. IsHelper {O = DrawOrder g.row.P.Denot} c.args.job.now c.args.gate.now 64 (arc_value h.mailbox) h.asker in
    let A : H → Type 0 = λ h. AdmitsWorker (g.G.Gate.admits c.args.gate.now) (arc_value h.mailbox) b in
    let may : DrawOrder g.row.P.Denot → Type 0 = MayAsk (g.J.Job.ready c.args.job.now) (g.G.Gate.admits c.args.gate.now 0) in
    let one : length c.args.helpers.now.items ≡ 1 + length left = ap length is ∙ longer left c.in-Some.helper in
    let enough = subst (λ (n : ℕ). MayLend b n c.args.seats) one c.requires.seats in
    let seats = subst (λ (x : BoardOf g.row.P.Denot). MayLend x (length left) c.lend-seat.result.1) c.deref-2.ensures
    (c.lend-seat.ensures.others (length left) (subst (λ (x : BoardOf g.row.P.Denot). MayLend x (1 + length left) c.args.seats) (sym c.deref-2.ensures) enough)) in
    let helpers = all_init Q left c.in-Some.helper (subst (λ (l : List H). All Q l) is c.requires.helpers) in
    let gate = all_init A left c.in-Some.helper (subst (λ (l : List H). All A l) is c.requires.gate) in
    let lent = subst (λ (x : BoardOf g.row.P.Denot). MayDraw x c.lend-seat.result.0) c.deref-2.ensures c.lend-seat.ensures.seat in
    let first = drawn_one b c.lend-seat.result.0 c.draw.new.seat task lent (subst (λ (x : BoardOf g.row.P.Denot). IsSeatOf x c.draw.new.seat) c.deref-3.ensures c.in-Some-draw.ensures.seat)
    (subst (λ (x : BoardOf g.row.P.Denot). task < length x.plan.tasks) c.deref-3.ensures c.in-Some-draw.ensures.drew.0) c.in-Some-draw.ensures.drew.1 in
    let fine : may order = record {
      drawn = subst (λ (x : BoardOf g.row.P.Denot). HasDrawnOne x task c.draw.new.seat) (sym here) first;
      ready_is = subst (λ (x : BoardOf g.row.P.Denot). IsReady (g.J.Job.ready c.args.job.now) x) (sym here) c.requires.ready;
      admitted = subst (λ (x : BoardOf g.row.P.Denot). Admits (g.G.Gate.admits c.args.gate.now 0) x) (sym here) c.requires.caller;
    } in
    let out = out_once_asked c.in-Some.helper order c.new.result c.new.ensures may fine in
    let asked = subst (λ (l : List K). All (IsOut may) l) (sym c.push_reserved-2.ensures.items) (all_snoc (IsOut may) c.args.asked.now.items c.new.result c.requires.asked out) in
    let room : length left + length c.push_reserved-2.new.self.items ≤ vec_capacity c.push_reserved-2.new.self
    = (let more = c.push_reserved-2.ensures.len in let same = c.push_reserved-2.ensures.capacity in let had = c.requires.asked_room in omega arith) in (
      (let d = c.decreases in let l = c.in-Some.ensures.len in omega arith),
      (
        within.0,
        (within.1.0, (within.1.1.0, (within.1.1.1, (seats, (helpers, (asked, (room, (c.requires.ready, (gate, c.requires.caller))))))))),
      ),
    )

-- the worker that was asked last is still there
pub unreachable-requires : goal.unreachable-requires
unreachable-requires g t c =
    omega (arith, length_all_zip (Keeps Serves) c.push_reserved-2.new.self.items c.run_with-all.new.asked.items c.run_with-all.ensures.asked, c.push_reserved-2.ensures.len, c.in_default-pop.ensures.cases)

pub finish-back-requires : goal.finish-back-requires
finish-back-requires g t c =
    let order : DrawOrder g.row.P.Denot = record { board = c.in-Ok.shared; seat = c.draw.new.seat; task = c.in-Some-draw.task } in
    let parts = zip_parts (Keeps Serves) c.push_reserved-2.new.self.items c.args.asked.now.items c.new.result c.pop-2.new.self.items c.in-Some-pop.last c.run_with-all.new.asked.items
    c.push_reserved-2.ensures.items c.in-Some-pop.ensures.items c.run_with-all.ensures.asked in
    (order, due_once_asked c.in-Some.helper order c.new.result c.new.ensures Serves c.in-Some-pop.last parts.1)

pub returns-clause-asked : goal.returns-clause-asked
returns-clause-asked g t c =
    (zip_parts (Keeps Serves) c.push_reserved-2.new.self.items c.args.asked.now.items c.new.result c.pop-2.new.self.items c.in-Some-pop.last c.run_with-all.new.asked.items
    c.push_reserved-2.ensures.items c.in-Some-pop.ensures.items c.run_with-all.ensures.asked).0

-- the last helper is as it was, once its seat is back
pub returns-clause-helpers : goal.returns-clause-helpers
returns-clause-helpers g t c =
    let H : Type 0 = Helper g.row.P.Denot g.row.J.Denot g.row.G.Denot in
    let order : DrawOrder g.row.P.Denot = record { board = c.in-Ok.shared; seat = c.draw.new.seat; task = c.in-Some-draw.task } in
    let helper = c.in-Some.helper in
    let is = c.in-Some.ensures.items in
    let Q : H → Type 0 = λ h. IsHelper {O = DrawOrder g.row.P.Denot} c.args.job.now c.args.gate.now 64 (arc_value h.mailbox) h.asker in
    let waits = (all_last Q c.pop.new.self.items helper (subst (λ (l : List H). All Q l) is c.requires.helpers)).waits in
    let parts = zip_parts (Keeps Serves) c.push_reserved-2.new.self.items c.args.asked.now.items c.new.result c.pop-2.new.self.items c.in-Some-pop.last c.run_with-all.new.asked.items
    c.push_reserved-2.ensures.items c.in-Some-pop.ensures.items c.run_with-all.ensures.asked in
    let back : c.finish-back.result.1 ≡ helper = comes_back helper order c.new.result c.new.ensures Serves c.in-Some-pop.last parts.1 c.finish-back.result.1 waits c.finish-back.ensures.helper in
    c.push_reserved-3.ensures.items ∙ ((λ i. c.run_with-all.ensures.helpers i ++ back i ∷ []) ∙ sym is)

-- what the caller drew on, and what was lent, make the share of before
pub returns-clause-seat : goal.returns-clause-seat
returns-clause-seat g t c =
    let b = arc_value c.args.board.now in
    let here : arc_value c.in-Ok.shared ≡ b = c.in-Ok.ensures in
    let order : DrawOrder g.row.P.Denot = record { board = c.in-Ok.shared; seat = c.draw.new.seat; task = c.in-Some-draw.task } in
    let parts = zip_parts (Keeps Serves) c.push_reserved-2.new.self.items c.args.asked.now.items c.new.result c.pop-2.new.self.items c.in-Some-pop.last c.run_with-all.new.asked.items
    c.push_reserved-2.ensures.items c.in-Some-pop.ensures.items c.run_with-all.ensures.asked in
    let back = c.finish-back.ensures.serves order (due_once_asked c.in-Some.helper order c.new.result c.new.ensures Serves c.in-Some-pop.last parts.1) in
    let same : (view c.draw.new.seat).share ≡ (view c.lend-seat.result.0).share = ap (λ (v : View g.row.P.Denot). v.share) c.in-Some-draw.ensures.drew.1 in
    both_drawn b (whole c.lend-seat.result.1) (view c.lend-seat.result.0).share (whole c.args.seats) c.run_with-all.result c.finish-back.result.0 c.join-2.new.seat
    c.lend-seat.ensures.whole c.run_with-all.ensures.seat
    (subst (λ n. HasDrawn b n c.finish-back.result.0) same (subst (λ (x : BoardOf g.row.P.Denot). HasDrawn x (view c.draw.new.seat).share c.finish-back.result.0) here back))
    (subst (λ (x : BoardOf g.row.P.Denot). IsSeatOf x c.join-2.new.seat) c.deref-4.ensures c.join-2.ensures.seat) c.join-2.ensures.view

-- where no task was left for the seat
pub returns-in_default-draw-clause-seat : goal.returns-in_default-draw-clause-seat
returns-in_default-draw-clause-seat g t c =
    let b = arc_value c.args.board.now in
    let lent = subst (λ (x : BoardOf g.row.P.Denot). MayDraw x c.lend-seat.result.0) c.deref-2.ensures c.lend-seat.ensures.seat in
    let back = gone_drawn b c.lend-seat.result.0 c.draw.new.seat lent (subst (λ (x : BoardOf g.row.P.Denot). IsSeatOf x c.draw.new.seat) c.deref-3.ensures c.in_default-draw.ensures.seat) c.in_default-draw.ensures.drew in
    both_drawn b (whole c.lend-seat.result.1) (view c.lend-seat.result.0).share (whole c.args.seats) c.draw_rest-all.result c.draw.new.seat c.join.new.seat
    c.lend-seat.ensures.whole (subst (λ (x : BoardOf g.row.P.Denot). HasDrawn x (whole c.lend-seat.result.1) c.draw_rest-all.result) c.deref-in_default-draw.ensures c.draw_rest-all.ensures.seat)
    back (subst (λ (x : BoardOf g.row.P.Denot). IsSeatOf x c.join.new.seat) c.deref-in_default-draw-2.ensures c.join.ensures.seat) c.join.ensures.view

-- the seat that came back is one of the board, and holds no task
pub join-requires-2-clause-other : goal.join-requires-2-clause-other
join-requires-2-clause-other g t c =
    let order : DrawOrder g.row.P.Denot = record { board = c.in-Ok.shared; seat = c.draw.new.seat; task = c.in-Some-draw.task } in
    let parts = zip_parts (Keeps Serves) c.push_reserved-2.new.self.items c.args.asked.now.items c.new.result c.pop-2.new.self.items c.in-Some-pop.last c.run_with-all.new.asked.items
    c.push_reserved-2.ensures.items c.in-Some-pop.ensures.items c.run_with-all.ensures.asked in
    let back = c.finish-back.ensures.serves order (due_once_asked c.in-Some.helper order c.new.result c.new.ensures Serves c.in-Some-pop.last parts.1) in
    subst (λ (x : BoardOf g.row.P.Denot). IsSeatOf x c.finish-back.result.0) (c.in-Ok.ensures ∙ sym c.deref-4.ensures) back.seat_of

pub join-requires-2-clause-other_none : goal.join-requires-2-clause-other_none
join-requires-2-clause-other_none g t c =
    let order : DrawOrder g.row.P.Denot = record { board = c.in-Ok.shared; seat = c.draw.new.seat; task = c.in-Some-draw.task } in
    let parts = zip_parts (Keeps Serves) c.push_reserved-2.new.self.items c.args.asked.now.items c.new.result c.pop-2.new.self.items c.in-Some-pop.last c.run_with-all.new.asked.items
    c.push_reserved-2.ensures.items c.in-Some-pop.ensures.items c.run_with-all.ensures.asked in
    (c.finish-back.ensures.serves order (due_once_asked c.in-Some.helper order c.new.result c.new.ensures Serves c.in-Some-pop.last parts.1)).none
