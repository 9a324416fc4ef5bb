use Rattle.std.proofs.Common.{◌≡◌, ◌++◌, drop}
use Rattle.serde_json.specs.View.{items_view}
use Rattle.kr_script.specs.Faults.{step_faults}
use Rattle.kr_script.specs.Reading.{events_of}
use Rattle.kr_script.proofs.reading.events_of.Given as goal

-- no fault so far, and the events so far
abbrev pub invariant-loop-i : goal.invariant-loop-i
invariant-loop-i l = record {
  faults : step_faults l.two 0 (items_view l.list) ≡ step_faults l.two l.i (items_view (drop l.i l.list));
  events : events_of l.two (items_view l.list) ≡ l.events.items ++ events_of l.two (items_view (drop l.i l.list));
}
