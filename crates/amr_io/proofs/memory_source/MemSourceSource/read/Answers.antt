use Rattle.std.proofs.Common.{◌≡◌, ◌≤◌, ◌<◌, ◌+◌, ◌-◌, ℕ, List, length, drop, take, arith, length-take, length-drop, length-append, ap, sym, ◌∙◌, min}
use Rattle.std.proofs.lemmas.List.{take_all, drop_all}
use Rattle.amr_io.specs.Memory.{SourceState}
use Rattle.amr_io.proofs.Reading.{source_read}
use Rattle.amr_io.proofs.memory_source.MemSourceSource.read.Goals as goal

pub returns-clause-bytes : goal.returns-clause-bytes
returns-clause-bytes c =
    let items : List ℕ = c.self.inside.bytes.items in
    let at : ℕ = c.self.inside.at in
    let n : ℕ = c.min-n.result in
    let within : at ≤ length items = c.self.invariant.0 in
    let some : 0 < c.self.inside.most = c.self.invariant.1 in
    let left : c.args.self.now.left ≡ drop at items = sym (ap (λ (s : SourceState). s.left) c.self.view_is) in
    let rest : List ℕ = take (length c.deref.result.now - at) (drop at c.deref.result.now) in
    let all : c.deref.result.now ≡ items = c.deref.ensures.value in
    let same : rest ≡ drop at items = take_all _ _ (omega (arith, length-drop at c.deref.result.now)) ∙ ap (λ (l : List ℕ). drop at l) all in
    let sizes : length rest ≡ length items - at = ap length same ∙ length-drop at items in
    let least : n ≡ min (length c.args.into.now) (min c.self.inside.most (length rest)) = c.min-n.ensures ∙ ap (λ (k : ℕ). min (length c.args.into.now) k) c.min.ensures in
    let new_is : c.copy_from_slice.new.self ≡ take n (drop at items) = c.copy_from_slice.ensures.after ∙ ap (λ (l : List ℕ). take n l) same in
    let size : length c.copy_from_slice.new.self ≡ n = ap length new_is ∙ length-take n (drop at items) ∙ omega (arith, length-drop at items) in (
      left ∙ source_read items at n c.copy_from_slice.new.self (drop n c.args.into.now) new_is size,
      λ none room. drop_all (at + n) items (omega (arith, length-append c.copy_from_slice.new.self (drop n c.args.into.now), length-drop n c.args.into.now)),
    )
