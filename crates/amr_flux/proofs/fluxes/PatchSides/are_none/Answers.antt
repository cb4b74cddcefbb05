use Rattle.std.proofs.Common.{◌≡◌, Bool, true, false, ◌||◌, refl}
use Rattle.std.specs.Prelude.{not}
use Rattle.amr_flux.specs.declared.fluxes.PatchSides.{PatchSides}
use Rattle.amr_flux.specs.PatchSides.{Side, east, includes, north, south, west}
use Rattle.amr_flux.proofs.fluxes.PatchSides.are_none.Goals as goal

all_false : (a b c d : Bool) → not (((a || b) || c) || d) ≡ true → (a ≡ false) × (b ≡ false) × (c ≡ false) × (d ≡ false)
all_false true b c d e = cc
all_false false true c d e = cc
all_false false false true d e = cc
all_false false false false true e = cc
all_false false false false false e = (refl, refl, refl, refl)

none_then : (s : PatchSides) → not (((s.x_low || s.x_high) || s.y_low) || s.y_high) ≡ true → (x : Side) → includes s x ≡ false
none_then s e west = (all_false s.x_low s.x_high s.y_low s.y_high e).0
none_then s e east = (all_false s.x_low s.x_high s.y_low s.y_high e).1
none_then s e south = (all_false s.x_low s.x_high s.y_low s.y_high e).2
none_then s e north = (all_false s.x_low s.x_high s.y_low s.y_high e).3

pub returns : goal.returns
returns c = (none_then c.args.self, λ h i. not (((h west i || h east i) || h south i) || h north i))
