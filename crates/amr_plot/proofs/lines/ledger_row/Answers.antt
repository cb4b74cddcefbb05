use Rattle.std.proofs.Common.{◌≡◌, ℕ, List, ◌++◌, ◌∷◌, [], Bool, get_or, sym, ap, ◌∙◌}
use Rattle.std.specs.Prelude.{codes, decimal}
use Rattle.amr_def.specs.Plot.{ledger_line}
use Rattle.amr_io.specs.Buffered.{fragment_text}
use Rattle.amr_io.specs.declared.fragment.Fragment.{Fragment}
use Rattle.amr_io.specs.declared.fragment.Fragment.TheVariants.{Str}
use Rattle.amr_plot.proofs.Fragments.{ledger_fragments, species_ledger_fragments}
use Rattle.amr_plot.proofs.lines.ledger_row.Goals as goal
use Rattle.amr_plot.proofs.lines.ledger_row.Goals.{then-named, else-named}

pub returns : goal.returns
returns c =
    let r = c.args.row in
    let none : Fragment = Str (record { ref_ptr = (0, 0); now = [] }) in
    let text : List Fragment → ℕ → List ℕ = λ number k.
    codes "ledger " ++ (decimal k ++ (fragment_text (get_or number 0 none) ++ (fragment_text (get_or number 1 none)
    ++ (codes " " ++ (decimal r.mass ++ (codes " " ++ (decimal r.inflow ++ (codes " " ++ (decimal r.outflow ++ (10 ∷ [])))))))))) in
    elim c.if-named.branch [
      | then-named w ↦ ap (text c.if-named.number) c.from.ensures ∙ ap (λ (n : List Fragment). text n c.args.k) w.number-is ∙ species_ledger_fragments c.args.k c.args.species r
          ∙ ap (λ (t : Bool). ledger_line t c.args.k c.args.species r) (sym w.if-named.true)
      | else-named w ↦ ap (text c.if-named.number) c.from.ensures ∙ ap (λ (n : List Fragment). text n c.args.k) w.number-is ∙ ledger_fragments c.args.k c.args.species r
          ∙ ap (λ (t : Bool). ledger_line t c.args.k c.args.species r) (sym w.if-named.false)
    ]
