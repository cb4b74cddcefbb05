use Rattle.std.proofs.Common.{◌≡◌, ◌∙◌, ◌+◌, ◌∷◌, ◌++◌, [], List, Some, length, ap, refl, sym, subst, arith}
use Rattle.std.proofs.lemmas.List.{length-append, length_push, nil_from_length}
use Rattle.std.proofs.lemmas.List.Elements.{All-pop}
use Rattle.crossbeam_channel.specs.Claims.{view, IsSeatAt}
use Rattle.crossbeam_channel.specs.Ends.{sends_on}
use Rattle.amr_ranks.specs.declared.node.Taken.{Taken}
use Rattle.amr_ranks.specs.Items.{total}
use Rattle.amr_ranks.specs.Letters.{LetterOf}
use Rattle.amr_ranks.specs.Nodes.{taking}
use Rattle.amr_post.specs.declared.channel.Hand.{Hand}
use Rattle.amr_post.specs.declared.post.Parcel.{Parcel}
use Rattle.amr_post.specs.Rounds.{rooms}
use Rattle.amr_post.specs.Letters.{IsParcel, IsUnderWay, letters_in}
use Rattle.amr_post.proofs.UnderWay.{all_ready, back_on, begun, fits_back, fits_got, got_on, has_all, left_on, stays, to_got}
use Rattle.amr_post.proofs.post.deliver_all.Goals as goal

pub loop-parcel-init : goal.loop-parcel-init
loop-parcel-init g c =
    let post = c.requires in
    let first = c.args.node.now in
    let all = letters_in c.args.parcels.now.items in
    let room = ap (λ (v : Hand). v.room) post.unused in
    let sent = ap (λ (v : Hand). length v.sent) post.unused in
    record {
      under_way = subst (λ (s : List LetterOf). IsUnderWay first all all s [] first) (sym (ap (λ (v : Hand). v.sent) post.unused))
          (begun first all c.requires.expects.0 c.requires.expects.1 c.requires.expects.2 c.args.parcels.now.items refl);
      parcels = post.parcels;
      seat = post.seat;
      seats = post.seats;
      rooms_are = omega (arith, room, sent, post.few);
      some = post.few;
      none_got = ap (λ (v : Hand). v.got) post.unused;
      sent_is = sym sent;
    }

pub take_back-sent-requires-clause-channel : goal.take_back-sent-requires-clause-channel
take_back-sent-requires-clause-channel g c = (
  c.loop-parcel.invariant.seat,
  (All-pop (λ (q : Parcel). IsSeatAt (sends_on c.args.outlet.now) q.pass) c.loop-parcel.parcels.items c.pop.new.self.items (Some c.in-Some.parcel) c.in-Some.ensures.items c.loop-parcel.invariant.seats).1,
)

pub take_back-sent-requires-clause-parcel : goal.take_back-sent-requires-clause-parcel
take_back-sent-requires-clause-parcel g c = (All-pop IsParcel c.loop-parcel.parcels.items c.pop.new.self.items (Some c.in-Some.parcel) c.in-Some.ensures.items c.loop-parcel.invariant.parcels).1

pub take_back-sent-requires-clause-fits : goal.take_back-sent-requires-clause-fits
take_back-sent-requires-clause-fits g c =
    fits_back c.args.node.now (letters_in c.args.parcels.now.items) c.requires.expects.0 c.requires.expects.1 c.requires.expects.2 c.loop-parcel.parcels.items c.pop.new.self.items c.in-Some.parcel
    (view c.loop-parcel.pass).sent c.loop-parcel.node c.in-Some.ensures.items c.loop-parcel.invariant.under_way

pub overflow_add-sent : goal.overflow_add-sent
overflow_add-sent g c =
    let own = (All-pop IsParcel c.loop-parcel.parcels.items c.pop.new.self.items (Some c.in-Some.parcel) c.in-Some.ensures.items c.loop-parcel.invariant.parcels).1 in
    omega (arith, c.loop-parcel.invariant.rooms_are, c.loop-parcel.invariant.sent_is, c.take_back-sent.ensures.sent, own.room)

pub loop-parcel-preserved : goal.loop-parcel-preserved
loop-parcel-preserved g c =
    let first = c.args.node.now in
    let all = letters_in c.args.parcels.now.items in
    let inv = c.loop-parcel.invariant in
    let ps = c.loop-parcel.parcels.items in
    let rest = c.pop.new.self.items in
    let q = c.in-Some.parcel in
    let popped : ps ≡ rest ++ q ∷ [] = c.in-Some.ensures.items in
    let own = All-pop IsParcel ps rest (Some q) popped inv.parcels in
    let said = c.take_back-sent.ensures in
    let v = view c.loop-parcel.pass in
    let w = view q.pass in
    let room = ap (λ (u : Hand). u.room) said.both in
    let sent = ap (λ (u : Hand). length u.sent) said.both ∙ length-append v.sent w.sent in
    let fewer = ap length popped ∙ length_push rest q in
    record {
      under_way = subst (λ (s : List LetterOf). IsUnderWay first all (letters_in rest) s [] c.take_back-sent.new.node) (sym (ap (λ (u : Hand). u.sent) said.both))
          (back_on first all c.requires.expects.0 c.requires.expects.1 c.requires.expects.2 ps rest q v.sent c.loop-parcel.node popped inv.under_way c.take_back-sent.new.node said.node);
      parcels = own.0;
      seat = said.channel;
      seats = (All-pop (λ (p : Parcel). IsSeatAt (sends_on c.args.outlet.now) p.pass) ps rest (Some q) popped inv.seats).0;
      rooms_are = omega (arith, inv.rooms_are, room, sent, fewer, own.1.room);
      some = omega (arith, inv.some, fewer);
      none_got = ap (λ (u : Hand). u.got) said.both ∙ (λ i. inv.none_got i ++ own.1.none_got i);
      sent_is = omega (arith, inv.sent_is, sent, said.sent);
    }

pub loop-letter-init : goal.loop-letter-init
loop-letter-init g c =
    let inv = c.loop-parcel.invariant in
    let v = view c.loop-parcel.pass in
    let first = c.args.node.now in
    let all = letters_in c.args.parcels.now.items in
    let none : c.loop-parcel.parcels.items ≡ [] = nil_from_length c.loop-parcel.parcels.items (omega (arith, c.in_default.ensures.cases.0, c.loop-parcel.parcels.ok.0)) in
    let no_more = ap length none in
    record {
      under_way = subst (λ (got : List LetterOf). IsUnderWay first all [] v.sent got c.loop-parcel.node) (sym inv.none_got)
          (subst (λ (ps : List Parcel). IsUnderWay first all (letters_in ps) v.sent [] c.loop-parcel.node) none inv.under_way);
      seat = subst (λ r. IsSeatAt r c.loop-parcel.pass) (sym c.requires.channel) inv.seat;
      rooms_are = omega (arith, inv.rooms_are, no_more);
      sent_is = inv.sent_is;
      got_is = ap length inv.none_got;
      left = (v.sent, λ weight. (let a = ap (total weight) inv.none_got in omega (arith, a)));
    }

pub take-requires-clause-to : goal.take-requires-clause-to
take-requires-clause-to g c =
    to_got c.args.node.now (letters_in c.args.parcels.now.items) c.requires.expects.0 c.requires.expects.1 c.requires.expects.2 (view c.loop-letter.pass) c.loop-letter.node c.loop-letter.invariant.under_way
    c.receive-letter.result c.receive-letter.ensures.left

pub take-requires-clause-fits : goal.take-requires-clause-fits
take-requires-clause-fits g c = λ _.
    fits_got c.args.node.now (letters_in c.args.parcels.now.items) c.requires.expects.0 c.requires.expects.1 c.requires.expects.2 (view c.loop-letter.pass) c.loop-letter.node
    c.loop-letter.invariant.under_way c.receive-letter.result c.receive-letter.ensures.left

pub loop-letter-preserved : goal.loop-letter-preserved
loop-letter-preserved g c =
    let first = c.args.node.now in
    let all = letters_in c.args.parcels.now.items in
    let inv = c.loop-letter.invariant in
    let v = view c.loop-letter.pass in
    let x = c.receive-letter.result in
    let n = c.loop-letter.node in
    let said = c.receive-letter.ensures in
    let more = ap (λ (u : Hand). length u.got) said.got ∙ length_push v.got x in
    record {
      under_way = subst (λ (u : Hand). IsUnderWay first all [] u.sent u.got c.take.new.self) (sym said.got)
          (got_on first all c.requires.expects.0 c.requires.expects.1 c.requires.expects.2 v n inv.under_way x said.left c.take.new.self
          (c.take.ensures.after ∙ ap (λ (t : Taken). taking t n x) c.take.ensures.answer));
      seat = said.channel;
      rooms_are = ap rooms said.got ∙ inv.rooms_are;
      sent_is = inv.sent_is ∙ sym (ap (λ (u : Hand). length u.sent) said.got);
      got_is = omega (arith, more, inv.got_is);
      left = (said.left.0, λ weight. subst (λ (u : Hand). total weight u.sent ≡ total weight u.got + total weight said.left.0) (sym said.got) (left_on v x said.left weight));
    }

pub returns-clause-stays : goal.returns-clause-stays
returns-clause-stays g c =
    let inv = c.loop-letter.invariant in
    let v = view c.loop-letter.pass in
    stays c.args.node.now (letters_in c.args.parcels.now.items) c.requires.expects.0 c.requires.expects.1 c.requires.expects.2 v.sent v.got inv.left.0 c.loop-letter.node inv.under_way inv.left.1
    (omega (arith, inv.got_is, inv.sent_is))

pub returns-clause-ready : goal.returns-clause-ready
returns-clause-ready g c =
    let inv = c.loop-letter.invariant in
    let v = view c.loop-letter.pass in
    all_ready c.args.node.now (letters_in c.args.parcels.now.items) c.requires.expects.0 c.requires.expects.1 c.requires.expects.2 v.sent v.got inv.left.0 c.loop-letter.node inv.under_way inv.left.1
    (omega (arith, inv.got_is, inv.sent_is))

pub returns-clause-node : goal.returns-clause-node
returns-clause-node g c =
    let inv = c.loop-letter.invariant in
    let v = view c.loop-letter.pass in
    has_all c.args.node.now (letters_in c.args.parcels.now.items) c.requires.expects.0 c.requires.expects.1 c.requires.expects.2 v.sent v.got inv.left.0 c.loop-letter.node inv.under_way inv.left.1
    (omega (arith, inv.got_is, inv.sent_is))
