-- Why the program ends without what is wanted, and what was written where it doesn't.
use Rattle.std.specs.Prelude.{◌≡◌, ℕ, List, Bool, Option, Result, Ok, Err, IfOk, IfErr}
use Rattle.kr_cli.specs.declared.endings.Ending.{Ending}
use Rattle.kr_cli.specs.declared.endings.Ending.TheVariants.{NotUnderstood, Memory, Place, Output, Told}
use Rattle.kr_cli.specs.declared.named.Named.{Named}
use Rattle.kr_cli.specs.declared.named.Named.TheVariants.{Table, Ghosts}
use Rattle.kr_cli.specs.Endings.{MemoryOrTold}
use Rattle.kr_cli.specs.NamedTables.{Names, TellsNone}
use Rattle.kr_cli.specs.Lawful.{lawful_of}
use Rattle.kr_cli.specs.GhostLawful.{lawful_ghosts_of}
use Rattle.kr_kinds.specs.Kinds.{IsLawfulIndex}
use Rattle.kr_cli.specs.Words.{IsPlain}
use Rattle.kr_cli_tables.specs.SuiteWords.{words_of}
use Rattle.kr_cli_tables.specs.Suite.{Answers, Ends, EndsWriting, Writes, index_of, mode_names}
use Rattle.kr_cli_tables.specs.declared.suites.words.Wanted.{Wanted}

-- memory or output ends each call
ends_at : (may_give : List ℕ → Option (List ℕ) → Type 0) (words : List (List ℕ)) (e : Ending) → EndsWriting e → Ends may_give words e
ends_at may_give words NotUnderstood ends = absurd ends
ends_at may_give words Memory ends = tt
ends_at may_give words Place ends = absurd ends
ends_at may_give words Output ends = tt
ends_at may_give words (Told line) ends = absurd ends

pub writing_ends : (may_give : List ℕ → Option (List ℕ) → Type 0) (words : List (List ℕ)) (r : Result Bool Ending) → IfErr r EndsWriting → IfErr r (Ends may_give words)
writing_ends may_give words (Ok complete) ends = tt
writing_ends may_give words (Err e) ends = ends_at may_give words e ends

-- a table that a word names is lawful
pub lawful_index : (t : Named) → IsLawfulIndex (index_of t)
lawful_index (Table t) = lawful_of t
lawful_index (Ghosts t) = lawful_ghosts_of t

-- what is wanted of the table that a word names was written
pub writing_answers : (may_give : List ℕ → Option (List ℕ) → Type 0) (words : List (List ℕ)) (old new : Option (List ℕ)) (r : Result Bool Ending) (table : List ℕ) (w : Wanted) (t : Named) → words ≡ words_of table w → IsPlain table → Names may_give table t → IfOk r (Writes (index_of t) (mode_names t) w old new) → IfOk r (Answers may_give words old new)
writing_answers may_give words old new (Ok complete) table w t are asked names writes =
    record { table = table; wanted = w; named = t; words_are = are; asked = asked; names = names; lawful = lawful_index t; writes = writes }
writing_answers may_give words old new (Err e) table w t are asked names writes = tt

-- the word of a table that names none
pub no_table : (may_give : List ℕ → Option (List ℕ) → Type 0) (words : List (List ℕ)) (table : List ℕ) (w : Wanted) (e : Ending) → words ≡ words_of table w → IsPlain table → MemoryOrTold e (TellsNone may_give table) → Ends may_give words e
no_table may_give words table w NotUnderstood are asked told = absurd told
no_table may_give words table w Memory are asked told = tt
no_table may_give words table w Place are asked told = absurd told
no_table may_give words table w Output are asked told = absurd told
no_table may_give words table w (Told line) are asked told = (table, (w, (are, (asked, told))))
