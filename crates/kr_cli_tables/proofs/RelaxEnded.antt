-- Why the program ends without what is wanted, and what was written where it doesn't.
use Rattle.std.specs.Prelude.{◌≡◌, ℕ, List, Bool, Option, Result, Ok, Err, IfOk, IfErr}
use Rattle.std.proofs.Common.{inl, inr}
use Rattle.kr_kinds.specs.Kinds.{IndexProtocol, IsSafeIndex}
use Rattle.kr_cli.specs.declared.endings.Ending.{Ending}
use Rattle.kr_cli.specs.declared.endings.Ending.TheVariants.{NotUnderstood, Memory, Place, Output, Told}
use Rattle.kr_cli.specs.declared.named.Named.{Named}
use Rattle.kr_cli.specs.Endings.{MemoryOrTold}
use Rattle.kr_cli.specs.Lines.{told_line}
use Rattle.kr_cli.specs.NamedTables.{Names, TellsNone}
use Rattle.kr_cli.specs.Words.{IsPlain}
use Rattle.kr_cli_tables.specs.RelaxWords.{words_of}
use Rattle.kr_cli_tables.specs.Suite.{index_of, mode_names}
use Rattle.kr_cli_tables.proofs.SuiteEnded.{lawful_index}
use Rattle.kr_cli_tables.specs.Relax.{Answers, Ends, EndsWriting, IsUnmade, Writes, unmade_words, unsafe_words}
use Rattle.kr_cli_tables.specs.declared.relaxations.words.Wanted.{Wanted}

-- a table that isn't safe
pub unsafe_ends : (p : IndexProtocol) (names : List (List ℕ)) (word : List ℕ) (w : Wanted) (e : Ending) → (IsSafeIndex p → ⊥) → MemoryOrTold e (λ line. line ≡ told_line word (unsafe_words word)) → EndsWriting p names word w e
unsafe_ends p names word w NotUnderstood not_safe told = absurd told
unsafe_ends p names word w Memory not_safe told = tt
unsafe_ends p names word w Place not_safe told = absurd told
unsafe_ends p names word w Output not_safe told = absurd told
unsafe_ends p names word w (Told line) not_safe told = inl (not_safe, told)

-- what can't be made
pub unmade_ends : (p : IndexProtocol) (names : List (List ℕ)) (word : List ℕ) (w : Wanted) (e : Ending) → IsUnmade p names w → MemoryOrTold e (λ line. line ≡ told_line word (unmade_words w)) → EndsWriting p names word w e
unmade_ends p names word w NotUnderstood is told = absurd told
unmade_ends p names word w Memory is told = tt
unmade_ends p names word w Place is told = absurd told
unmade_ends p names word w Output is told = absurd told
unmade_ends p names word w (Told line) is told = inr (is, told)

module _ (may_give : List ℕ → Option (List ℕ) → Type 0) (words : List (List ℕ)) (table : List ℕ) (w : Wanted) (are : words ≡ words_of table w) (asked : IsPlain table) where
  -- what ends the writing ends the program
  ends_at : (t : Named) (e : Ending) → Names may_give table t → EndsWriting (index_of t) (mode_names t) table w e → Ends may_give words e
  ends_at t NotUnderstood names ends = absurd ends
  ends_at t Memory names ends = tt
  ends_at t Place names ends = absurd ends
  ends_at t Output names ends = tt
  ends_at t (Told line) names ends = (table, (w, (are, (asked, inr (t, (names, ends))))))

  pub writing_ends : (t : Named) (r : Result Bool Ending) → Names may_give table t → IfErr r (EndsWriting (index_of t) (mode_names t) table w) → IfErr r (Ends may_give words)
  writing_ends t (Ok tight) names ends = tt
  writing_ends t (Err e) names ends = ends_at t e names ends

  -- what is wanted of the table that a word names was written
  pub writing_answers : (old new : Option (List ℕ)) (t : Named) (r : Result Bool Ending) → Names may_give table t → IfOk r (Writes (index_of t) (mode_names t) w old new) → IfOk r (Answers may_give words old new)
  writing_answers old new t (Ok tight) names writes =
      record { table = table; wanted = w; named = t; words_are = are; asked = asked; names = names; lawful = lawful_index t; writes = writes }
  writing_answers old new t (Err e) names writes = tt

  -- the word of a table that names none
  pub no_table : (e : Ending) → MemoryOrTold e (TellsNone may_give table) → Ends may_give words e
  no_table NotUnderstood told = absurd told
  no_table Memory told = tt
  no_table Place told = absurd told
  no_table Output told = absurd told
  no_table (Told line) told = (table, (w, (are, (asked, inl told))))
