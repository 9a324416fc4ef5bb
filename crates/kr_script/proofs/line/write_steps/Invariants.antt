use Rattle.std.proofs.Common.{◌≡◌, ◌++◌, drop, map, string_bytes}
use Rattle.serde_json.specs.View.{items_of}
use Rattle.serde_json.specs.Written.{items_text, compact_text}
use Rattle.kr_script.specs.Line.{steps_data}
use Rattle.kr_script.specs.Steps.{step_of}
use Rattle.kr_script.proofs.line.write_steps.Given as goal

-- what is written, then the text of the rest, is the whole
abbrev pub invariant-loop-step : goal.invariant-loop-step
invariant-loop-step l = string_bytes l.out ++ items_text l.later (items_of (map step_of (drop l.step-index l.steps))) ≡ string_bytes l.fn.out ++ compact_text (steps_data l.steps)
