use Rattle.std.proofs.Common.{◌≡◌, map, take}
use Rattle.std.specs.List.{range_with_len}
use Rattle.range.specs.Sheets.{sheet, part_cell}
use Rattle.range.proofs.sheet.Range.copy_cells.Given as goal

-- the cells so far stand in the front
abbrev pub invariant-loop-place : goal.invariant-loop-place
invariant-loop-place g l = take l.place l.entry-items ≡ map (part_cell (sheet l.self) l.part.corners l.empty) (range_with_len 0 l.place)
