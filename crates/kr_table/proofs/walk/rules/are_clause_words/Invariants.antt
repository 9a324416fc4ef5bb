use Rattle.std.proofs.Common.{◌≡◌}
use Rattle.toml.specs.View.{members_view}
use Rattle.kr_table.specs.DocumentFaults.{are_clause_words}
use Rattle.kr_table.proofs.walk.rules.are_clause_words.Given as goal

abbrev pub invariant-loop-word : goal.invariant-loop-word
invariant-loop-word l = are_clause_words (members_view l.fn.members.entries) ≡ are_clause_words (members_view l.word-iterator)
