use Rattle.std.proofs.Common.{◌≡◌, ◌≤◌, ◌∷◌, None, true, map, length}
use Rattle.json.specs.Token.{Token}
use Rattle.kr_script.specs.Pairs.{pair_data}
use Rattle.kr_script.specs.Tokens.{AreNext}
use Rattle.kr_model.specs.Map.{is_rising}
use Rattle.kr_script.proofs.Documents.{last_key}
use Rattle.kr_script.proofs.plain.read_pairs.Given as goal

-- the pairs so far come next in the array, their keys rise, and there are few
abbrev pub invariant-pairs : goal.invariant-pairs
invariant-pairs l = record {
  next : AreNext 125 l.initial.reader (map pair_data l.pairs.items) l.reader;
  opened : l.fn.reader ≡ Token.begin_array ∷ l.initial.reader;
  rising : is_rising None l.pairs.items ≡ true;
  last : last_key None l.pairs.items ≡ l.before;
  few : length l.pairs.items ≤ 100000;
}

abbrev pub decreases-pairs : goal.decreases-pairs
decreases-pairs l = length l.reader
