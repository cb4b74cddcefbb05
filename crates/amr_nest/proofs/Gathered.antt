-- What a loop over boxes has marked: nothing at first, one more at each turn.
use Rattle.std.proofs.Common.{◌≡◌, Bool, true, false, ◌&&◌, ◌||◌, refl}

pub nothing_yet : (inside : Bool) → false ≡ (inside && false)
nothing_yet true = refl
nothing_yet false = refl

pub nothing_more : (before inside : Bool) → before ≡ (before || (inside && false))
nothing_more true inside = refl
nothing_more false true = refl
nothing_more false false = refl

pub joined : (before inside r s : Bool) → ((before || (inside && r)) || (inside && s)) ≡ (before || (inside && (r || s)))
joined true inside r s = refl
joined false true r s = refl
joined false false r s = refl
