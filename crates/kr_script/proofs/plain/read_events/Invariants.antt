use Rattle.std.proofs.Common.{◌≡◌, ◌≤◌, ◌∷◌, map, length}
use Rattle.json.specs.Token.{Token}
use Rattle.kr_script.specs.Steps.{event_of, step_of}
use Rattle.kr_script.specs.Tokens.{AreNext}
use Rattle.kr_script.proofs.Documents.{ReadBack}
use Rattle.kr_script.proofs.plain.read_events.Given as goal

-- the events so far come next in the array, their steps read back, and there are few
abbrev pub invariant-events : goal.invariant-events
invariant-events l = record {
  next : AreNext 125 l.initial.reader (map step_of l.events.items) l.reader;
  opened : l.fn.reader ≡ Token.begin_array ∷ l.initial.reader;
  back : ReadBack step_of (event_of l.two) l.events.items;
  few : length l.events.items ≤ 100000;
}

abbrev pub decreases-events : goal.decreases-events
decreases-events l = length l.reader
