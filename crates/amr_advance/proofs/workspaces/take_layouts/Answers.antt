use Rattle.std.proofs.Common.{◌≡◌, ◌∙◌, ◌+◌, ◌<◌, length, take, drop, sym, ap, subst, arith}
use Rattle.std.proofs.lemmas.List.{get_or_default}
use Rattle.amr_layout.specs.declared.PatchLayout.{PatchLayout}
use Rattle.amr_advance.proofs.TakenLayouts.{AreTakenTo, none_taken, one_taken}
use Rattle.amr_advance.proofs.workspaces.take_layouts.Goals as goal

pub loop-k-init : goal.loop-k-init
loop-k-init c = record {
  room = omega (arith, c.in_ok-run.ensures.capacity);
  taken = subst (AreTakenTo c.args.first 0 c.args.layouts.now c.args.layouts.now) (sym c.in_ok-run.ensures.items) (none_taken c.args.first c.args.layouts.now);
}

pub loop-k-preserved : goal.loop-k-preserved
loop-k-preserved c =
    let done = c.loop-k.invariant in
    let place = c.args.first + c.loop-k.k in
    let x : PatchLayout = c.replace-layout.result in
    let lt : place < length c.args.layouts.now = omega (arith, c.requires, c.loop-k-test.true) in
    let there : place < length c.loop-k.layouts = omega (arith, lt, done.taken.count) in
    record {
      room = omega (arith, done.room, c.push_reserved.ensures.capacity);
      taken = one_taken c.args.first c.loop-k.k c.args.layouts.now c.loop-k.layouts c.loop-k.run.items c.push_reserved.new.self.items x c.replace-layout.new.dest done.taken lt
          (c.replace-layout.ensures.value ∙ get_or_default c.loop-k.layouts place c.index-layouts-first.result x there) c.push_reserved.ensures.items;
    }

pub returns-clause-taken : goal.returns-clause-taken
returns-clause-taken c = let e : c.loop-k.k ≡ c.args.count = omega (arith, c.loop-k-test.false) in c.loop-k.invariant.taken.items ∙ ap (λ n. take n (drop c.args.first c.args.layouts.now)) e

pub returns-clause-rest : goal.returns-clause-rest
returns-clause-rest c =
    let e : c.loop-k.k ≡ c.args.count = omega (arith, c.loop-k-test.false) in
    ap (λ n. drop (c.args.first + n) c.loop-k.layouts) (sym e) ∙ c.loop-k.invariant.taken.rest ∙ ap (λ n. drop (c.args.first + n) c.args.layouts.now) e

pub returns-clause-count : goal.returns-clause-count
returns-clause-count c = c.loop-k.invariant.taken.count
