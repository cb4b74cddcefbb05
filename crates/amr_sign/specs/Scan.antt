-- A pass over the places of a signature.
use Rattle.std.specs.Prelude.{ℕ, ◌+◌, ◌-◌, Bool, cond, ◌&&◌, ◌||◌, List, length, nat_lt, nat_le, ◌==◌}
use Rattle.std.specs.declared.option.Option.{Option}
use Rattle.std.specs.declared.option.Option.TheVariants.{None, Some}
use Rattle.amr_def.specs.Signature.{second_difference}
use Rattle.amr_def.specs.Cut.{Cut, jump, opposite, nearer}
use Rattle.amr_box.specs.declared.Axis.{Axis}
use Rattle.amr_sign.specs.declared.cuts.Cut.{Cut as CutStruct}
use Rattle.amr_sign.specs.declared.cuts.Inflection.{Inflection}

-- the cut that a value of the program stands for
abbrev pub defined_cut : CutStruct → Cut
defined_cut k = record { axis = k.axis; at = k.at }

abbrev pub is_legal : ℕ → List ℕ → ℕ → Bool
is_legal w s i = nat_le w i && nat_le (i + w) (length s)

abbrev pub is_inflection : List ℕ → ℕ → Bool
is_inflection s i = nat_lt 1 i && (nat_lt (i + 1) (length s) && opposite (second_difference s (i - 1)) (second_difference s i))

abbrev pub inflection_of : List ℕ → ℕ → Inflection
inflection_of s i = record { at = i; jump = jump s i }

-- the best so far, and one that comes after it
abbrev pub challenged : {A : Type 0} → (A → A → Bool) → Option A → A → A
challenged better None a = a
challenged better (Some b) a = cond (better a b) a b

-- which of two inflections comes first, where the first is the later
abbrev pub is_sharper : List ℕ → Inflection → Inflection → Bool
is_sharper s a b = nat_lt b.jump a.jump || ((a.jump == b.jump) && nearer s a.at b.at)

-- of an inflection on the first axis and one on the second the sharper, on a tie the first
abbrev pub sharper_cut : Axis → Option Inflection → Axis → Option Inflection → Option Cut
sharper_cut a None b None = None
sharper_cut a None b (Some j) = Some (record { axis = b; at = j.at })
sharper_cut a (Some i) b None = Some (record { axis = a; at = i.at })
sharper_cut a (Some i) b (Some j) = cond (nat_lt i.jump j.jump) (Some (record { axis = b; at = j.at })) (Some (record { axis = a; at = i.at }))
