-- How many bits a mass takes: 64 in payload 1, 32 in payload 2.
use Rattle.std.specs.Int.{Width, w32, w64}
use Rattle.amr_codec.specs.declared.numbers.MassWidth.{MassWidth}
use Rattle.amr_codec.specs.declared.numbers.MassWidth.TheVariants.{Four, Eight}

abbrev pub width_of : MassWidth → Width
width_of Four = w32
width_of Eight = w64
