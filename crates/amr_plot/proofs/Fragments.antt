-- The lines of a plot, as the fragments that are put.
use Rattle.std.proofs.Common.{◌≡◌, pos, length, ℕ, zero, suc, ◌<◌, true, false, List, [], ◌∷◌, ◌++◌, sym, ap, ◌∙◌, append_assoc, arith}
use Rattle.std.specs.Prelude.{codes, decimal, if◌then◌else◌}
use Rattle.amr_def.specs.declared.problem.Problem.{Problem}
use Rattle.amr_def.specs.declared.problem.Row.{Row}
use Rattle.std.proofs.lemmas.Bool.Decides.{nat_tests}
use Rattle.std.specs.List.{list_all}
use Rattle.std.specs.Str.{IsAscii}
use Rattle.amr_def.specs.Limits.{is_name_byte}
use Rattle.std.specs.Fmt.{signed_decimal}
use Rattle.std.proofs.lemmas.Bool.{and_parts}
use Rattle.amr_box.specs.Cells.{Extent}
use Rattle.amr_def.specs.State.{Level}
use Rattle.amr_def.specs.Plot.{box_line, head_text, ledger_line, level_line, line, names_species}
use Rattle.amr_plot.specs.Texts.{level_head}

-- a word goes before what is left, and the end of the line after it
word_then : (word rest end : List ℕ) → (32 ∷ (word ++ rest)) ++ end ≡ 32 ∷ (word ++ (rest ++ end))
word_then word rest end = ap (λ (l : List ℕ). 32 ∷ l) (append_assoc word rest end)

after_word : (word : List ℕ) {l m : List ℕ} → l ≡ m → 32 ∷ (word ++ l) ≡ 32 ∷ (word ++ m)
after_word word e = ap (λ (l : List ℕ). 32 ∷ (word ++ l)) e

pub four_words : (a b c d end : List ℕ) → (32 ∷ (a ++ (32 ∷ (b ++ (32 ∷ (c ++ (32 ∷ (d ++ [])))))))) ++ end ≡ 32 ∷ (a ++ (32 ∷ (b ++ (32 ∷ (c ++ (32 ∷ (d ++ end)))))))
four_words a b c d end = word_then a _ end ∙ after_word a (word_then b _ end ∙ after_word b (word_then c _ end ∙ after_word c (word_then d [] end)))

pub two_words : (a b end : List ℕ) → (32 ∷ (a ++ (32 ∷ (b ++ [])))) ++ end ≡ 32 ∷ (a ++ (32 ∷ (b ++ end)))
two_words a b end = word_then a _ end ∙ after_word a (word_then b [] end)

pub level_fragments : (l : ℕ) (k : Level) → level_head l (length k.boxes) ≡ level_line l k
unfolding level_line
level_fragments l k = ap (λ (t : List ℕ). codes "level" ++ t) (sym (two_words (decimal l) (decimal (length k.boxes)) (10 ∷ [])))

-- the line of a box by its coordinates, none below 0
pub box_fragments : (b : Extent) (west south east north : ℕ) → pos west ≡ b.lo.x → pos south ≡ b.lo.y → pos east ≡ b.hi.x → pos north ≡ b.hi.y
    → codes "box " ++ (decimal west ++ (codes " " ++ (decimal south ++ (codes " " ++ (decimal east ++ (codes " " ++ (decimal north ++ (10 ∷ [])))))))) ≡ box_line b
unfolding box_line
box_fragments b west south east north w s e n =
    ap (λ (t : List ℕ). codes "box" ++ t) (sym (four_words (decimal west) (decimal south) (decimal east) (decimal north) (10 ∷ [])))
    ∙ (λ i. (codes "box" ++ (32 ∷ (signed_decimal (w i) ++ (32 ∷ (signed_decimal (s i) ++ (32 ∷ (signed_decimal (e i) ++ (32 ∷ (signed_decimal (n i) ++ []))))))))) ++ 10 ∷ [])

three_words : (a b c end : List ℕ) → (32 ∷ (a ++ (32 ∷ (b ++ (32 ∷ (c ++ [])))))) ++ end ≡ 32 ∷ (a ++ (32 ∷ (b ++ (32 ∷ (c ++ end)))))
three_words a b c end = word_then a _ end ∙ after_word a (word_then b _ end ∙ after_word b (word_then c [] end))

-- a row without and with the number of its species
pub ledger_fragments : (k s : ℕ) (r : Row) → codes "ledger " ++ (decimal k ++ (codes " " ++ (decimal r.mass ++ (codes " " ++ (decimal r.inflow ++ (codes " " ++ (decimal r.outflow ++ (10 ∷ [])))))))) ≡ ledger_line false k s r
unfolding ledger_line
ledger_fragments k s r = ap (λ (l : List ℕ). codes "ledger" ++ l) (sym (four_words (decimal k) (decimal r.mass) (decimal r.inflow) (decimal r.outflow) (10 ∷ [])))

pub species_ledger_fragments : (k s : ℕ) (r : Row)
    → codes "ledger " ++ (decimal k ++ (codes " " ++ (decimal s ++ (codes " " ++ (decimal r.mass ++ (codes " " ++ (decimal r.inflow ++ (codes " " ++ (decimal r.outflow ++ (10 ∷ [])))))))))) ≡ ledger_line true k s r
unfolding ledger_line
species_ledger_fragments k s r =
    ap (λ (l : List ℕ). codes "ledger " ++ (decimal k ++ l)) (sym (four_words (decimal s) (decimal r.mass) (decimal r.inflow) (decimal r.outflow) (10 ∷ [])))
    ∙ ap (λ (l : List ℕ). codes "ledger" ++ l) (sym (word_then (decimal k) _ (10 ∷ [])))

pub head_fragments : (p : Problem) (step : ℕ) (format : List ℕ) → format ≡ decimal (if names_species p then 2 else 1)
    → codes "amr-plot " ++ (format ++ (10 ∷ (codes "name " ++ (p.name ++ (10 ∷ (codes "step " ++ (decimal step ++ (10 ∷ [])))))))) ≡ head_text p step
unfolding head_text
head_fragments p step format is =
    let f = decimal (if names_species p then 2 else 1) in
    let rest = line (codes "step " ++ decimal step) in
    let begun : codes "amr-plot " ++ (format ++ (10 ∷ (codes "name " ++ (p.name ++ (10 ∷ (codes "step " ++ (decimal step ++ (10 ∷ []))))))))
    ≡ codes "amr-plot " ++ (f ++ (10 ∷ (codes "name " ++ (p.name ++ (10 ∷ rest))))) = ap (λ (t : List ℕ). codes "amr-plot " ++ (t ++ (10 ∷ (codes "name " ++ (p.name ++ (10 ∷ rest)))))) is in
    let named : codes "name " ++ (p.name ++ (10 ∷ rest)) ≡ line (codes "name " ++ p.name) ++ rest = ap (λ (l : List ℕ). codes "name " ++ l) (sym (append_assoc p.name (10 ∷ []) rest)) in
    let formatted : codes "amr-plot " ++ (f ++ (10 ∷ (line (codes "name " ++ p.name) ++ rest))) ≡ line (codes "amr-plot " ++ f) ++ (line (codes "name " ++ p.name) ++ rest) =
    ap (λ (l : List ℕ). codes "amr-plot " ++ l) (sym (append_assoc f (10 ∷ []) (line (codes "name " ++ p.name) ++ rest))) in
    begun ∙ ap (λ (l : List ℕ). codes "amr-plot " ++ (f ++ (10 ∷ l))) named ∙ formatted
    ∙ sym (append_assoc (line (codes "amr-plot " ++ f)) (line (codes "name " ++ p.name)) rest)

-- ---- the name is text

name_byte_small : (b : ℕ) → is_name_byte b ≡ true → b < 128
name_byte_small b e = grind (arith, nat_tests)

pub name_ascii : (bs : List ℕ) → list_all is_name_byte bs ≡ true → IsAscii bs
name_ascii [] e i = omega arith
name_ascii (b ∷ bs) e zero = name_byte_small b (and_parts (is_name_byte b) (list_all is_name_byte bs) e).0
name_ascii (b ∷ bs) e (suc i) = name_ascii bs (and_parts (is_name_byte b) (list_all is_name_byte bs) e).1 i
