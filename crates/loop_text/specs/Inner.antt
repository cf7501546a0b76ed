-- What the private functions write. No public contract cites this file.
use Rattle.std.specs.Prelude.{List, ◌++◌, ℕ, take}
use Rattle.text.specs.Text.{ascii, decimal, spaced}
use Rattle.unit.specs.declared.Plan.{Plan}
use Rattle.listing.specs.Lines.{newline}

-- the latencies that a plan holds, and their sum
abbrev pub held_line : Plan → List ℕ
held_line p = ascii "loop cycle" ++ spaced (take p.count p.latencies) ++ ascii " sum " ++ decimal p.sum ++ newline
