use Rattle.std.proofs.Common.{◌≡◌, ◌≤◌, ◌∷◌, map, length}
use Rattle.json.specs.Token.{Token}
use Rattle.kr_script.specs.Moves.{move_of}
use Rattle.kr_script.specs.Tokens.{AreNext, step_of_move}
use Rattle.kr_script.proofs.Documents.{ReadBack}
use Rattle.kr_script.proofs.ghost_plain.read_moves.Given as goal

-- the moves so far come next in the array, they read back, and there are few
abbrev pub invariant-moves : goal.invariant-moves
invariant-moves l = record {
  next : AreNext 125 l.initial.reader (map step_of_move l.moves.items) l.reader;
  opened : l.fn.reader ≡ Token.begin_array ∷ l.initial.reader;
  back : ReadBack step_of_move (move_of l.format) l.moves.items;
  few : length l.moves.items ≤ 100000;
}

abbrev pub decreases-moves : goal.decreases-moves
decreases-moves l = length l.reader
