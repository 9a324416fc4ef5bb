-- the steps so far have their rows
use Rattle.std.proofs.Common.{◌≡◌, ◌∷◌, map, take}
use Rattle.kr_explain_text.specs.Steps.{rows_of}
use Rattle.kr_trace_text.specs.Steps.{head_cells, step_cells}
use Rattle.kr_trace_text.proofs.steps.step_rows.Given as goal

abbrev pub invariant-loop-step : goal.invariant-loop-step
invariant-loop-step l = rows_of l.rows.items ≡ head_cells ∷ map (step_cells l.marked) (take l.step-index l.steps)
