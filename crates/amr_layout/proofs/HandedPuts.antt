-- Each patch is handed its puts, and keeps what it reads.
use Rattle.std.proofs.Common.{◌≡◌, ◌≢◌, ◌∙◌, ℕ, ◌+◌, ◌<◌, ◌≤◌, ◌⊎◌, inl, inr, Bool, List, length, get_or, set, map, refl, sym, ap, arith}
use Rattle.std.specs.Global.{Vec}
use Rattle.std.proofs.lemmas.Bool.{cases_eq}
use Rattle.std.proofs.lemmas.List.{get_or-set_other, get_or-set_same, length-set}
use Rattle.amr_phase.proofs.Sums.{same_default}
use Rattle.amr_layout.specs.declared.PatchLayout.{PatchLayout}
use Rattle.amr_layout.specs.declared.PutAt.{PutAt}
use Rattle.amr_layout.proofs.Planned.{images_alike}

-- the first i patches have their puts, and those of the others are still there
pub record AreHanded (lists : List (Vec PutAt)) (old : List PatchLayout) (left : List (Vec PutAt)) (new : List PatchLayout) (i : ℕ) : Type 0 where
  pub count : length new ≡ length old
  pub left_count : length left ≡ length lists
  pub others : (k : ℕ) (v : Vec PutAt) → i ≤ k → get_or left k v ≡ get_or lists k v
  pub puts : (k : ℕ) (t : PatchLayout) (v : Vec PutAt) → k < i → k < length old → (get_or new k t).puts.items ≡ (get_or lists k v).items
  pub border : (k : ℕ) (t : PatchLayout) → k < length old → (get_or new k t).border.items ≡ (get_or old k t).border.items
  pub mask : (k : ℕ) (t : PatchLayout) → k < length old → (get_or new k t).mask.items ≡ (get_or old k t).mask.items

pub none_handed : (lists : List (Vec PutAt)) (old : List PatchLayout) → AreHanded lists old lists old 0
none_handed lists old = record { count = refl; left_count = refl; others = λ k v le. refl; puts = λ k t v lt below. absurd (omega (arith, lt)); border = λ k t lt. refl; mask = λ k t lt. refl }

-- one more
module _ (lists : List (Vec PutAt)) (old : List PatchLayout) (left : List (Vec PutAt)) (new : List PatchLayout) (i : ℕ) (h : AreHanded lists old left new i) (there : i < length new) (same_count : length lists ≡ length old)
    (was now : PatchLayout) (empty puts : Vec PutAt) (at : was ≡ get_or new i was) (taken : puts ≡ get_or left i puts) (given : now.puts ≡ puts) (border_stays : now.border ≡ was.border) (mask_stays : now.mask ≡ was.mask) where
  abbrev after : List PatchLayout
  after = set new i now

  here : (t : PatchLayout) → get_or after i t ≡ now
  here t = get_or-set_same new i now t there

  -- what the new layout has of the one before stays
  stays : {A : Type 0} (f : PatchLayout → A) → (f now ≡ f was) → ((k : ℕ) (t : PatchLayout) → k < length old → f (get_or new k t) ≡ f (get_or old k t)) → (k : ℕ) (t : PatchLayout) → k < length old → f (get_or after k t) ≡ f (get_or old k t)
  stays f same before k t lt = from (cases_eq k i)
    where
      from : (k ≡ i) ⊎ (k ≢ i) → f (get_or after k t) ≡ f (get_or old k t)
      from (inl e) =
          ap (λ n. f (get_or after n t)) e ∙ ap f (here t) ∙ same ∙ ap f at ∙ ap f (same_default new i was t there) ∙ ap (λ n. f (get_or new n t)) (sym e) ∙ before k t lt
      from (inr ne) = ap f (get_or-set_other new i k now t ne) ∙ before k t lt

  puts_now : (k : ℕ) (t : PatchLayout) (v : Vec PutAt) → k < i + 1 → k < length old → (get_or after k t).puts.items ≡ (get_or lists k v).items
  puts_now k t v lt below = from (cases_eq k i)
    where
      from : (k ≡ i) ⊎ (k ≢ i) → (get_or after k t).puts.items ≡ (get_or lists k v).items
      from (inl e) =
          ap (λ n. (get_or after n t).puts.items) e ∙ ap (λ (x : PatchLayout). x.puts.items) (here t)
          ∙ ap (λ (w : Vec PutAt). w.items) (given ∙ taken ∙ h.others i puts (omega arith) ∙ same_default lists i puts v (omega (arith, there, h.count, same_count)) ∙ ap (λ n. get_or lists n v) (sym e))
      from (inr ne) = ap (λ (x : PatchLayout). x.puts.items) (get_or-set_other new i k now t ne) ∙ h.puts k t v (omega (arith, lt, ne)) below

  pub one_handed : AreHanded lists old (set left i empty) after (i + 1)
  one_handed = record {
    count = length-set new i now ∙ h.count;
    left_count = length-set left i empty ∙ h.left_count;
    others = λ k v le. let ne : k ≢ i = λ e. omega (arith, e, le) in get_or-set_other left i k empty v ne ∙ h.others k v (omega (arith, le));
    puts = puts_now;
    border = stays (λ (x : PatchLayout). x.border.items) (ap (λ (w : Vec ℕ). w.items) border_stays) h.border;
    mask = stays (λ (x : PatchLayout). x.mask.items) (ap (λ (w : Vec Bool). w.items) mask_stays) h.mask;
  }

-- all
module _ (lists : List (Vec PutAt)) (old : List PatchLayout) (left : List (Vec PutAt)) (new : List PatchLayout) (i : ℕ) (h : AreHanded lists old left new i) (all : length new ≤ i) (same_count : length lists ≡ length old) where
  pub all_puts : map (λ (t : PatchLayout). t.puts.items) new ≡ map (λ (v : Vec PutAt). v.items) lists
  all_puts = images_alike (λ (t : PatchLayout). t.puts.items) (λ (v : Vec PutAt). v.items) new lists (omega (arith, h.count, same_count)) (λ k t v lt. h.puts k t v (omega (arith, lt, all, h.count, same_count)) (omega (arith, lt, same_count)))

  pub all_borders : map (λ (t : PatchLayout). t.border.items) new ≡ map (λ (t : PatchLayout). t.border.items) old
  all_borders = images_alike (λ (t : PatchLayout). t.border.items) (λ (t : PatchLayout). t.border.items) new old h.count (λ k t u lt. h.border k t lt ∙ ap (λ (x : PatchLayout). x.border.items) (same_default old k t u lt))

  pub all_masks : map (λ (t : PatchLayout). t.mask.items) new ≡ map (λ (t : PatchLayout). t.mask.items) old
  all_masks = images_alike (λ (t : PatchLayout). t.mask.items) (λ (t : PatchLayout). t.mask.items) new old h.count (λ k t u lt. h.mask k t lt ∙ ap (λ (x : PatchLayout). x.mask.items) (same_default old k t u lt))
