-- The first draws of two trials, worked out from the generator's lines by another program.
use Rattle.std.proofs.Common.{◌≡◌, refl}
use Rattle.amr_trial.specs.Generator.{moved, quotient}
use Rattle.amr_trial.specs.Trial.{courant_x}

first_state_of_0 : moved 0 ≡ 1442695040888963407
unfolding moved
first_state_of_0 = refl

first_quotient_of_0 : quotient (moved 0) ≡ 167951807
unfolding moved quotient
first_quotient_of_0 = refl

courant_of_0 : courant_x 0 ≡ 2
unfolding moved quotient
courant_of_0 = refl

first_state_of_1 : moved 1 ≡ 7806831264735756412
unfolding moved
first_state_of_1 = refl

first_quotient_of_1 : quotient (moved 1) ≡ 908834774
unfolding moved quotient
first_quotient_of_1 = refl

courant_of_1 : courant_x 1 ≡ 4
unfolding moved quotient
courant_of_1 = refl

-- at the greatest number
courant_of_greatest : courant_x 4294967295 ≡ 4
unfolding moved quotient
courant_of_greatest = refl
