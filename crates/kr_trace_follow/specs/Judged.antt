-- How far committed programs have been judged.
use Rattle.std.specs.Prelude.{Bool, false, List}
use Rattle.kr_model.specs.Map.{Map}
use Rattle.kr_trace_follow.specs.Given.{Given, map_after}

-- The map that the programs so far leave, run whole, and whether judging was given up, for want of memory.
pub record Judged : Type 0 where
  pub map : Map
  pub lost : Bool

-- No program has been judged from this opening map.
abbrev pub unjudged : Map → Judged
unjudged opening = record { map = opening; lost = false }

-- One more program.
abbrev pub judged : Judged → List Given → Judged
judged j program = record { map = map_after j.map program; lost = j.lost }
