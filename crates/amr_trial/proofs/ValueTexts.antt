-- Texts of numbers and arrays, as TOML writes them.
use Rattle.std.proofs.Common.{◌≡◌, ◌∙◌, ℕ, pos, ◌<◌, ◌^◌, Bool, true, false, List, [], ◌∷◌, ◌++◌, map, refl, sym, ap, subst, append_assoc, arith}
use Rattle.std.specs.Prelude.{codes, decimal}
use Rattle.std.specs.List.{flat_map}
use Rattle.amr_def.specs.Plot.{line}
use Rattle.toml.specs.Data.{Data, integer, Items, no_items, item}
use Rattle.toml.specs.Data.{array as array_data}
use Rattle.toml.specs.Tables.{Expression, key_value}
use Rattle.toml.specs.Text.{IsItemsText, IsLinesText, IsValueText, breaks_lines}
use Rattle.toml_writer.specs.Text.{key_text}
use Rattle.amr_trial.specs.Document.{items}
use Rattle.amr_trial.specs.Trial.{array}

abbrev pub AreTexts : List (List ℕ) → List Data → Type 0
AreTexts [] [] = Unit {0}
AreTexts (w ∷ ws) (d ∷ ds) = IsValueText false d w × AreTexts ws ds
AreTexts _ _ = ⊥

pub number_text : (n : ℕ) → n < 2 ^ 63 → IsValueText false (integer (pos n)) (decimal n)
number_text n small = (refl, omega arith)

no_breaks : (ds : Items) → breaks_lines false ds ≡ false
no_breaks no_items = refl
no_breaks (item d no_items) = refl
no_breaks (item d (item e ds)) = refl

items_text : (ws : List (List ℕ)) (ds : List Data) → AreTexts ws ds → IsItemsText false false false (items ds) (flat_map (λ w. codes ", " ++ w) ws ++ codes "]")
items_text [] [] are = refl
items_text [] (d ∷ ds) are = elim are [ ]
items_text (w ∷ ws) [] are = elim are [ ]
items_text (w ∷ ws) (d ∷ ds) are =
    let rest : List ℕ = flat_map (λ w. codes ", " ++ w) ws ++ codes "]" in
    (w, rest, ap (λ (l : List ℕ). codes ", " ++ l) (append_assoc w (flat_map (λ w. codes ", " ++ w) ws) (codes "]")), are.0, items_text ws ds are.1)

pub array_text : (w : List ℕ) (ws : List (List ℕ)) (d : Data) (ds : List Data) → IsValueText false d w → AreTexts ws ds → IsValueText false (array_data (items (d ∷ ds))) (array (w ∷ ws))
array_text w ws d ds is are =
    let others : List ℕ = flat_map (λ w. codes ", " ++ w) ws in
    let whole : IsItemsText false false true (items (d ∷ ds)) ((w ++ others) ++ codes "]") = (w, others ++ codes "]", append_assoc w others (codes "]"), is, items_text ws ds are) in
    ((w ++ others) ++ codes "]", refl, subst (λ b. IsItemsText false b true (items (d ∷ ds)) ((w ++ others) ++ codes "]")) (sym (no_breaks (items (d ∷ ds)))) whole)

pub texts_of_map : {A : Type 0} (f : A → List ℕ) (g : A → Data) (xs : List A) → ((x : A) → IsValueText false (g x) (f x)) → AreTexts (map f xs) (map g xs)
texts_of_map f g [] h = tt
texts_of_map f g (x ∷ xs) h = (h x, texts_of_map f g xs h)

-- a line before other lines
pub lines_more : (started : Bool) (k v : List ℕ) (d : Data) (es : List Expression) (rest : List ℕ) → key_text k ≡ k → IsValueText false d v → IsLinesText false true es rest → IsLinesText false started ((([], k), key_value d) ∷ es) (line ((k ++ codes " = ") ++ v) ++ rest)
lines_more started k v d es rest bare is more =
    (line ((k ++ codes " = ") ++ v), rest, refl, (v, ap (λ (l : List ℕ). l ++ (10 ∷ [])) (append_assoc k (codes " = ") v) ∙ append_assoc k (codes " = " ++ v) (10 ∷ []) ∙ ap (λ (l : List ℕ). l ++ (codes " = " ++ (v ++ 10 ∷ []))) (sym bare), is), more)
