-- The corners that an area, if there is one, has.
use Rattle.std.specs.Prelude.{Option}
use Rattle.std.specs.Option.{option_map}
use Rattle.range.specs.declared.area.Area.{Area}
use Rattle.range.specs.declared.corners.Corners.{Corners}

abbrev pub corners_of : Option Area → Option Corners
corners_of area = option_map (λ a. a.corners) area
