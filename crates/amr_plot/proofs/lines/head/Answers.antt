use Rattle.std.proofs.Common.{◌≡◌, ℕ, List, [], ◌∷◌, ◌++◌, Bool, true, false, refl, sym, subst, ap, ◌∙◌, arith}
use Rattle.std.specs.Prelude.{codes, decimal, if◌then◌else◌, nat_le}
use Rattle.std.specs.Borrow.{Bor}
use Rattle.std.specs.Str.{IsUtf8}
use Rattle.std.proofs.lemmas.Bool.Decides.{nat_tests}
use Rattle.std.proofs.lemmas.Fmt.{decimal_digit}
use Rattle.std.proofs.lemmas.Str.{IsUtf8-from_ascii}
use Rattle.amr_def.specs.Plot.{names_species}
use Rattle.amr_plot.proofs.Fragments.{head_fragments, name_ascii}
use Rattle.amr_plot.proofs.lines.head.Goals as goal
use Rattle.amr_plot.proofs.lines.head.Goals.{then-p-ge3, else-p-ge3}

pub unreachable-requires : goal.unreachable-requires
unreachable-requires c =
    let p = c.args.p.now in
    let is_text : IsUtf8 c.bytes.result.now = subst (λ (bs : List ℕ). IsUtf8 bs) (sym c.bytes.ensures) (IsUtf8-from_ascii p.name (name_ascii p.name p.limits.name_bytes)) in
    c.in-Err.ensures.cases.0 is_text

pub returns : goal.returns
returns c =
    let p = c.args.p.now in
    let name = c.in-Ok.ensures.cases.0 ∙ c.bytes.ensures in
    let format : c.if-p-ge3.format.now ≡ decimal (if names_species p then 2 else 1) = elim c.if-p-ge3.branch [
      | then-p-ge3 w ↦
          let yes : names_species p ≡ true = let h = w.if-p-ge3.true in grind (arith, nat_tests) in
          ap (λ (b : Bor (List ℕ)). b.now) w.format-is ∙ sym (decimal_digit 2 (omega arith)) ∙ ap (λ (t : Bool). decimal (if t then 2 else 1)) (sym yes)
      | else-p-ge3 w ↦
          let no : names_species p ≡ false = let h = w.if-p-ge3.false in grind (arith, nat_tests) in
          ap (λ (b : Bor (List ℕ)). b.now) w.format-is ∙ sym (decimal_digit 1 (omega arith)) ∙ ap (λ (t : Bool). decimal (if t then 2 else 1)) (sym no)
    ] in
    (λ i. codes "amr-plot " ++ (c.if-p-ge3.format.now ++ (10 ∷ (codes "name " ++ (name i ++ (10 ∷ (codes "step " ++ (decimal (c.from.ensures i) ++ (10 ∷ []))))))))) ∙ head_fragments p c.args.step c.if-p-ge3.format.now format
