-- Tables with ghosts beside those without, and how far a part has been held against one.
use Rattle.std.specs.Prelude.{◌≡◌, ℕ, List, Option}
use Rattle.std.specs.BTreeMap.{BTreeMap}
use Rattle.kr_model.specs.Map.{Map, IsMap}
use Rattle.kr_model.specs.Protocol.{IsLawful}
use Rattle.kr_cli.specs.Tables as plain
use Rattle.kr_cli.specs.GhostTables as ghost
use Rattle.kr_cli.specs.declared.named.Named.{Named}
use Rattle.kr_cli.specs.declared.named.Named.TheVariants.{Table, Ghosts}
use Rattle.kr_ghost.specs.Protocol.{GhostProtocol, IsLawfulGhost}
use Rattle.kr_ghost_follow.specs.Stands.{Follows, HasFollowed}
use Rattle.kr_trace_lines.specs.declared.deviation.Deviation.{Deviation}
use Rattle.kr_trace_lines.specs.declared.verdict.TraceVerdict.{TraceVerdict}
use Rattle.kr_trace_parts.specs.Judged.{AreJudged}
use Rattle.kr_trace_parts.specs.Parts.{Part}
use Rattle.kr_cli_trace.specs.Printed.{Question, against, against_ghosts, one_ghost_part, one_part}
use Rattle.kr_trace_parts.specs.declared.tales.Tale.{Tale}

-- What is asked of each part under a table.
abbrev pub question_of : Named → Question
question_of (Table t) = against (plain.table_of t) (plain.names_of t)
question_of (Ghosts t) = against_ghosts (ghost.ghosts_of t) (ghost.names_of t)

-- What is asked of one part under a table, the part with this number as a text.
abbrev pub part_of : Named → ℕ → Question
part_of (Table t) n = one_part (plain.table_of t) (plain.names_of t) n
part_of (Ghosts t) n = one_ghost_part (ghost.ghosts_of t) (ghost.names_of t) n

-- A table keeps the laws.
abbrev pub IsLawfulNamed : Named → Type 0
IsLawfulNamed (Table t) = IsLawful (plain.table_of t)
IsLawfulNamed (Ghosts t) = IsLawfulGhost (ghost.ghosts_of t)

-- The keys of the opening rise; the steps were followed under the table, and what was found is known; the texts are those of the part's head; and the steps are judged.
pub record AreFollowed {P : Type 0} (ghosts : P → GhostProtocol) (q : P) (s : Part) (at : Follows P) (deviation : Option Deviation) (tests : List (List ℕ)) (tales : BTreeMap ℕ Tale) (map : Map) (found : Option TraceVerdict) : Type 0 where
  pub rising : IsMap s.opening
  pub followed : HasFollowed ghosts q s.opening s.steps at
  pub deviates : deviation ≡ at.found
  pub texts : tests ≡ s.tests
  pub judged : AreJudged s.opening s.steps tales map found
