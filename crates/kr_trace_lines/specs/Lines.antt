-- Lines of a trace, as contracts see them.
use Rattle.std.specs.Prelude.{ℕ, List, map, string_bytes}
use Rattle.kr_model.specs.declared.Event.{Event}
use Rattle.kr_model.specs.Map.{Map}
use Rattle.kr_trace_lines.specs.declared.observed.Observed.{Observed}
use Rattle.kr_trace_lines.specs.declared.line.Line.{Line}
use Rattle.kr_trace_lines.specs.declared.line.Line.TheVariants as line

-- A head, with an opening index and the texts that say what its part tests; a step with its reply; or an order of transactions.
pub data TraceLine : Type 0 where
  head : Map → List (List ℕ) → TraceLine
  step : Event → Observed → TraceLine
  order : List ℕ → TraceLine

-- What a line says.
abbrev pub seen : Line → TraceLine
seen (line.Head opening tests) = head opening (map string_bytes tests.items)
seen (line.Step e o) = step e o
seen (line.Order txns) = order txns
