-- Texts that are put one after another.
use Rattle.std.proofs.Common.{◌≡◌, ℕ, zero, suc, ◌+◌, ◌*◌, ◌<◌, List, [], ◌∷◌, ◌++◌, length, map, take, get_or, sym, ap, ◌∙◌, append_assoc, arith}
use Rattle.std.specs.Prelude.{codes, decimal}
use Rattle.std.specs.List.{flat_map, range_with_len}
use Rattle.std.proofs.lemmas.List.{flat_map_more}
use Rattle.std.proofs.lemmas.List.Concat.{flat_map-append}
use Rattle.std.proofs.lemmas.List.FromFn.{map-range_with_len_more}
use Rattle.amr_def.specs.declared.problem.Block.{Block}
use Rattle.amr_def.specs.Plot.{line}
use Rattle.amr_def.specs.Run.{times}
use Rattle.amr_io.specs.declared.fragment.Fragment.{Fragment}
use Rattle.amr_io.specs.Buffered.{fragment_text, fragments_text}
use Rattle.amr_io.proofs.Sending.{fragments_one_more}
use Rattle.amr_trial.specs.Generator.{after, draw, moved}
use Rattle.amr_trial.specs.Trial.{array, block_from, blocks, block_text, courant_x, courant_y, text}
use Rattle.amr_trial.specs.Parts.{blocks_line, head, head_lines, more_blocks}

-- one fragment more
pub one_more_fragment : (start before next : List ℕ) (ps : List Fragment) (i : ℕ) (d : Fragment) → i < length ps → before ≡ start ++ fragments_text (take i ps) → next ≡ before ++ fragment_text (get_or ps i d) → next ≡ start ++ fragments_text (take (i + 1) ps)
one_more_fragment start before next ps i d within so_far put =
    put ∙ ap (λ (l : List ℕ). l ++ fragment_text (get_or ps i d)) so_far ∙ append_assoc start (fragments_text (take i ps)) (fragment_text (get_or ps i d))
    ∙ ap (λ (l : List ℕ). start ++ l) (sym (fragments_one_more ps i d within))

-- one text and then another
pub put_twice : (a b c x y : List ℕ) → b ≡ a ++ x → c ≡ b ++ y → c ≡ a ++ (x ++ y)
put_twice a b c x y first second = second ∙ ap (λ (l : List ℕ). l ++ y) first ∙ append_assoc a x y

-- ---- draws

draws_in_turn : (m n state : ℕ) → times moved (m + n) state ≡ times moved n (times moved m state)
draws_in_turn zero n state = let e : 0 + n ≡ n = omega arith in ap (λ k. times moved k state) e
draws_in_turn (suc m) n state = let e : suc m + n ≡ suc (m + n) = omega arith in ap (λ k. times moved k state) e ∙ draws_in_turn m n (moved state)

-- the draws of one block more
pub one_more_block : (k start before next : ℕ) → before ≡ after (5 * k) start → next ≡ after 5 before → next ≡ after (5 * (k + 1)) start
one_more_block k start before next so_far drawn =
    let e : 5 * k + 5 ≡ 5 * (k + 1) = omega arith in
    drawn ∙ ap (after 5) so_far ∙ sym (draws_in_turn (5 * k) 5 start) ∙ ap (λ n. after n start) e

-- ---- text

-- a word goes before what is left, behind a comma
word_then : (word rest end : List ℕ) → (44 ∷ 32 ∷ (word ++ rest)) ++ end ≡ 44 ∷ 32 ∷ (word ++ (rest ++ end))
word_then word rest end = ap (λ (l : List ℕ). 44 ∷ 32 ∷ l) (append_assoc word rest end)

name_line : (number size rest : List ℕ) → line (((number ++ (45 ∷ [])) ++ size) ++ (34 ∷ [])) ++ rest ≡ number ++ (45 ∷ (size ++ (34 ∷ 10 ∷ rest)))
name_line number size rest =
    append_assoc (((number ++ (45 ∷ [])) ++ size) ++ (34 ∷ [])) (10 ∷ []) rest
    ∙ append_assoc ((number ++ (45 ∷ [])) ++ size) (34 ∷ []) (10 ∷ rest)
    ∙ append_assoc (number ++ (45 ∷ [])) size (34 ∷ 10 ∷ rest)
    ∙ append_assoc number (45 ∷ []) (size ++ (34 ∷ 10 ∷ rest))

-- the end of an array, and of its line
array_end : (first others rest : List ℕ) → line ((first ++ others) ++ (93 ∷ [])) ++ rest ≡ first ++ (others ++ (93 ∷ 10 ∷ rest))
array_end first others rest =
    append_assoc ((first ++ others) ++ (93 ∷ [])) (10 ∷ []) rest
    ∙ append_assoc (first ++ others) (93 ∷ []) (10 ∷ rest)
    ∙ append_assoc first others (93 ∷ 10 ∷ rest)

two_words_end : (a b others rest : List ℕ) → line ((a ++ (44 ∷ 32 ∷ (b ++ others))) ++ (93 ∷ [])) ++ rest ≡ a ++ (44 ∷ 32 ∷ (b ++ (others ++ (93 ∷ 10 ∷ rest))))
two_words_end a b others rest = array_end a (44 ∷ 32 ∷ (b ++ others)) rest ∙ ap (λ (l : List ℕ). a ++ l) (word_then b others (93 ∷ 10 ∷ rest))

last_keys : List ℕ
last_keys = codes "sides = [-1, -1, 0, 0]\nmax_level = 2\ntag = [64, 16]\nmax_grid_size = 16\n"

pub head_fragments : (number size cx cy : ℕ) → codes "version = 1\nname = \"trial-" ++ (decimal number ++ (codes "-" ++ (decimal size ++ (codes "\"\ncells = [" ++ (decimal size ++ (codes ", " ++ (decimal size ++ (codes "]\nsteps = 16\ncourant = [" ++ (decimal cx ++ (codes ", " ++ (decimal cy ++ (codes ", 8]\nsides = [-1, -1, 0, 0]\nmax_level = 2\ntag = [64, 16]\nmax_grid_size = 16\n" ++ [])))))))))))) ≡ head number size cx cy
unfolding head last_keys
head_fragments number size cx cy =
    let n : List ℕ = decimal number in
    let s : List ℕ = decimal size in
    let x : List ℕ = decimal cx in
    let y : List ℕ = decimal cy in
    let numbers : List ℕ = line ((x ++ (44 ∷ 32 ∷ (y ++ (44 ∷ 32 ∷ 56 ∷ [])))) ++ (93 ∷ [])) ++ last_keys in
    let cells : List ℕ = line ((s ++ (44 ∷ 32 ∷ (s ++ []))) ++ (93 ∷ [])) ++ (codes "steps = 16\ncourant = [" ++ numbers) in
    sym (ap (λ (l : List ℕ). codes "version = 1\nname = \"trial-" ++ l)
    (name_line n s (codes "cells = [" ++ cells)
    ∙ ap (λ (l : List ℕ). n ++ (45 ∷ (s ++ (34 ∷ 10 ∷ (codes "cells = [" ++ l)))))
    (two_words_end s s [] (codes "steps = 16\ncourant = [" ++ numbers)
    ∙ ap (λ (l : List ℕ). s ++ (44 ∷ 32 ∷ (s ++ (codes "]\nsteps = 16\ncourant = [" ++ l)))) (two_words_end x y (44 ∷ 32 ∷ 56 ∷ []) last_keys))))

-- the text in its parts
pub text_in_parts : (number size : ℕ) → head number size (courant_x number) (courant_y number) ++ blocks_line size (after 2 number) ≡ text number size
unfolding head blocks_line text
text_in_parts number size =
    let state = after 2 number in
    ap (λ (l : List ℕ). head number size (courant_x number) (courant_y number) ++ (codes "blocks = [" ++ l)) (sym (array_end (block_text (block_from size state)) (more_blocks 7 size (after 5 state)) []))
    ∙ sym (flat_map-append line (head_lines number size (courant_x number) (courant_y number)) ((codes "blocks = " ++ array (map block_text (blocks number size))) ∷ []))

-- one block more, behind a comma
pub one_more_entry : (size k state : ℕ) (start o0 o1 o2 entry : List ℕ) → o0 ≡ start ++ more_blocks k size state → o1 ≡ o0 ++ (codes ", " ++ []) → o2 ≡ o1 ++ entry → entry ≡ block_text (block_from size (after (5 * k) state)) → o2 ≡ start ++ more_blocks (k + 1) size state
one_more_entry size k state start o0 o1 o2 entry so_far comma put is =
    let f : ℕ → List ℕ = λ i. block_text (block_from size (after (5 * i) state)) in
    let g : List ℕ → List ℕ = λ e. codes ", " ++ e in
    let here : 0 + k ≡ k = omega arith in
    put_twice o0 o1 o2 (codes ", ") entry comma put
    ∙ (λ t. so_far t ++ g (is t))
    ∙ flat_map_more g start (map f (range_with_len 0 k)) (f k)
    ∙ ap (λ (es : List (List ℕ)). start ++ flat_map g es) (sym (map-range_with_len_more f 0 k k here))

-- ---- the calls

-- the line of blocks, put by four calls
pub blocks_put : (size g0 g1 : ℕ) (first : Block) (start o1 o2 o3 : List ℕ) → g1 ≡ after 5 g0 → first ≡ block_from size g0 → o1 ≡ start ++ codes "blocks = [" → o2 ≡ o1 ++ block_text first → o3 ≡ o2 ++ more_blocks 7 size g1 → o3 ++ codes "]\n" ≡ start ++ blocks_line size g0
unfolding blocks_line
blocks_put size g0 g1 first start o1 o2 o3 moves is key one more =
    let end : List ℕ = codes "]\n" in
    let others : List ℕ = more_blocks 7 size g1 ++ end in
    ap (λ (l : List ℕ). l ++ end) more
    ∙ append_assoc o2 (more_blocks 7 size g1) end
    ∙ ap (λ (l : List ℕ). l ++ others) one
    ∙ append_assoc o1 (block_text first) others
    ∙ ap (λ (l : List ℕ). l ++ (block_text first ++ others)) key
    ∙ append_assoc start (codes "blocks = [") (block_text first ++ others)
    ∙ (λ t. start ++ (codes "blocks = [" ++ (block_text (is t) ++ (more_blocks 7 size (moves t) ++ end))))

-- the whole text, by the two draws before its blocks
pub text_put : (number size g0 g1 g2 cx cy : ℕ) (o0 o1 o2 : List ℕ) → g0 ≡ number → g1 ≡ moved g0 → g2 ≡ moved g1 → cx ≡ draw g0 0 5 → cy ≡ draw g1 0 4 → o0 ≡ [] → o1 ≡ o0 ++ head number size cx cy → o2 ≡ o1 ++ blocks_line size g2 → o2 ≡ text number size
text_put number size g0 g1 g2 cx cy o0 o1 o2 begins first second is_x is_y empty head_put rest_put =
    let s1 : g1 ≡ moved number = first ∙ ap moved begins in
    let s2 : g2 ≡ after 2 number = second ∙ ap moved s1 in
    let x : cx ≡ courant_x number = is_x ∙ ap (λ s. draw s 0 5) begins in
    let y : cy ≡ courant_y number = is_y ∙ ap (λ s. draw s 0 4) s1 in
    let before : o1 ≡ head number size (courant_x number) (courant_y number) = head_put ∙ ap (λ (l : List ℕ). l ++ head number size cx cy) empty ∙ (λ t. head number size (x t) (y t)) in
    rest_put ∙ (λ t. before t ++ blocks_line size (s2 t)) ∙ text_in_parts number size
