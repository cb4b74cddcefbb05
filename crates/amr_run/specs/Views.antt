-- What a view asks for: the box by its corners, and why a problem has no such view.
use Rattle.std.specs.Prelude.{pos, Bool, ◌&&◌, not, nat_le, nat_lt, if◌then◌else◌, Option, Some, None}
use Rattle.amr_box.specs.Cells.{Extent, cell, extent, is_proper}
use Rattle.amr_cli.specs.declared.command.Corners.{Corners}
use Rattle.amr_cli.specs.declared.command.ViewOptions.{ViewOptions}
use Rattle.amr_def.specs.declared.problem.Problem.{Problem}
use Rattle.amr_def.specs.Domain.{Domain, domain}
use Rattle.amr_payload.specs.Tests.{lies_in}
use Rattle.amr_run.specs.declared.views.ViewPart.{ViewPart}
use Rattle.amr_run.specs.declared.views.ViewPart.TheVariants as part

-- the box, by its corners as they are given
abbrev pub box_of : Corners → Extent
box_of b = extent (cell (pos b.x0) (pos b.y0)) (cell (pos b.x1) (pos b.y1))

-- corners that are in order, and cells of a domain
abbrev pub is_box_in : Domain → Extent → Bool
is_box_in d b = is_proper b && lies_in d b

-- The first cause that there is: the level is finer than any of the problem may be, the corners are no box of its domain, or there is no such
-- species.
abbrev pub bad_view : ViewOptions → Problem → Option ViewPart
bad_view asked p =
    if nat_lt p.max_level asked.level then Some part.Level
    else (if not (is_box_in (domain p asked.level) (box_of asked.corners)) then Some part.Box
    else (if nat_le p.species asked.species then Some part.Species else None))
