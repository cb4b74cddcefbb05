use Rattle.std.proofs.Common.{◌≡◌, ◌∙◌, ◌<◌, ℕ, List, [], ◌∷◌, ◌++◌, Some, length, get_or, sym, ap, subst, length-append, arith}
use Rattle.std.proofs.lemmas.List.{get_or_default, length-set}
use Rattle.amr_batch.specs.Replies.{job_at}
use Rattle.amr_batch.proofs.Placing.{last_to, others_to, placed}
use Rattle.amr_batch.proofs.replies.Work.place.Goals as goal

pub loop-reply-preserved : goal.loop-reply-preserved
loop-reply-preserved g c =
    let l = c.loop-reply in
    let answers = g.S.Solve.answers c.args.self.now.solve.now in
    let bytes = c.args.self.now.bytes.now in
    let spans = c.args.self.now.spans.now in
    let numbers : List ℕ = c.args.lot.numbers.items in
    let less = c.pop.new.self.items in
    let x = c.in-Some.reply in
    let is : l.replies.items ≡ less ++ x ∷ [] = c.in-Some.ensures.items in
    let has = l.invariant.left in
    let below : length less < length numbers = omega (arith, has.count, ap length is, length-append less (x ∷ [])) in
    let number : ℕ = c.index-number.result.now in
    let at : c.len.result ≡ length less = omega (arith, c.len.ensures, c.pop.new.self.ok.0) in
    let here : number ≡ get_or numbers (length less) 0 = c.index-number.ensures ∙ ap (λ (k : ℕ). get_or numbers k number) at ∙ get_or_default numbers (length less) number 0 below in
    let inside : number < length l.places = omega (arith, here, c.requires.numbers (length less) 0 below, l.invariant.long) in
    record {
      left = others_to answers bytes spans numbers l.replies.items less x is has;
      long = length-set l.places number (Some x) ∙ l.invariant.long;
      filled = placed answers bytes spans l.places number x l.invariant.filled inside (subst (λ (k : ℕ). answers (job_at bytes spans k) x) (sym here) (last_to answers bytes spans numbers l.replies.items less x is has));
    }

pub loop-reply-preserved-in-Some : goal.loop-reply-preserved-in-Some
loop-reply-preserved-in-Some g c =
    let l = c.loop-reply in
    let answers = g.S.Solve.answers c.args.self.now.solve.now in
    let bytes = c.args.self.now.bytes.now in
    let spans = c.args.self.now.spans.now in
    let numbers : List ℕ = c.args.lot.numbers.items in
    let less = c.pop.new.self.items in
    let x = c.in-Some.reply in
    let is : l.replies.items ≡ less ++ x ∷ [] = c.in-Some.ensures.items in
    let has = l.invariant.left in
    let below : length less < length numbers = omega (arith, has.count, ap length is, length-append less (x ∷ [])) in
    let number : ℕ = c.index-number.result.now in
    let at : c.len.result ≡ length less = omega (arith, c.len.ensures, c.pop.new.self.ok.0) in
    let here : number ≡ get_or numbers (length less) 0 = c.index-number.ensures ∙ ap (λ (k : ℕ). get_or numbers k number) at ∙ get_or_default numbers (length less) number 0 below in
    let inside : number < length l.places = omega (arith, here, c.requires.numbers (length less) 0 below, l.invariant.long) in
    record {
      left = others_to answers bytes spans numbers l.replies.items less x is has;
      long = length-set l.places number (Some x) ∙ l.invariant.long;
      filled = placed answers bytes spans l.places number x l.invariant.filled inside (subst (λ (k : ℕ). answers (job_at bytes spans k) x) (sym here) (last_to answers bytes spans numbers l.replies.items less x is has));
    }
