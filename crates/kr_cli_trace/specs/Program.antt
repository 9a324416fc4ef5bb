-- What the program writes of the trace that a word names, what it answers, and why it ends before it is through.
use Rattle.std.specs.Prelude.{◌≡◌, ◌⊎◌, ◌<◌, ◌≤◌, ℕ, Bool, List, ◌++◌, Option, Some, None, codes, decimal, string_bytes}
use Rattle.kr_cli.specs.declared.endings.Ending.{Ending}
use Rattle.kr_cli.specs.declared.endings.Ending.TheVariants.{NotUnderstood, Memory, Place, Output, Told}
use Rattle.kr_cli.specs.Lines.{told_line, unreadable_line}
use Rattle.kr_cli.specs.NamedTables.{Names, TellsNone}
use Rattle.kr_cli.specs.declared.named.Named.{Named}
use Rattle.kr_trace_parts.specs.Endings.{IsStopped, IsThrough}
use Rattle.kr_trace_parts.specs.Parts.{Part}
use Rattle.kr_cli_trace.specs.Ghosts.{IsLawfulNamed, part_of, question_of}
use Rattle.kr_cli_trace.specs.Printed.{IsPrinted, in_commit_order, in_some_order}
use Rattle.kr_cli_trace.specs.Words.{AskNoTrace, IsAsked, words_of}
use Rattle.kr_cli_trace.specs.declared.words.Asked.{Asked}
use Rattle.kr_cli_trace.specs.declared.words.Asked.TheVariants as asked

-- What is printed where a trace has no part with this number.
abbrev pub no_part_text : ℕ → List ℕ
no_part_text n = codes "no part " ++ decimal n

-- The trace that a word names has lines without a fault and so many parts, and of each it was written what is asked.
abbrev pub Holds : (ℕ → Part → List ℕ → Bool → Type 0) → (List ℕ → Option (List (List ℕ)) → Type 0) → List ℕ → Option (List ℕ) → Option (List ℕ) → ℕ → Bool → Type 0
Holds P may_name trace old new parts well = IsThrough P (λ lines. may_name trace (Some lines)) old new parts well

-- What is asked was written of a trace, and the answer is whether all is well with each of its parts.
abbrev pub Answers : (List ℕ → Option (List ℕ) → Type 0) → (List ℕ → Option (List (List ℕ)) → Type 0) → Asked → Option (List ℕ) → Option (List ℕ) → Bool → Type 0
Answers may_give may_name (asked.Both table trace) old new well =
    (t : Named) × (Names may_give table.now t × (IsLawfulNamed t × ((parts : ℕ) × Holds (IsPrinted (question_of t)) may_name trace.now old new parts well)))
Answers may_give may_name (asked.OnePart table trace n) old new well =
    (t : Named) × (Names may_give table.now t × (IsLawfulNamed t × ((parts : ℕ) × ((n ≤ parts) × Holds (IsPrinted (part_of t n)) may_name trace.now old new parts well))))
Answers may_give may_name (asked.Serial trace) old new well = (parts : ℕ) × Holds (IsPrinted in_commit_order) may_name trace.now old new parts well
Answers may_give may_name (asked.SomeOrder trace) old new well = (parts : ℕ) × Holds (IsPrinted in_some_order) may_name trace.now old new parts well

-- What the words ask was written.
pub record AnswersAsked (may_give : List ℕ → Option (List ℕ) → Type 0) (may_name : List ℕ → Option (List (List ℕ)) → Type 0) (words : List (List ℕ)) (old new : Option (List ℕ)) (well : Bool) : Type 0 where
  pub asked : Asked
  pub words_are : words ≡ words_of asked
  pub is_asked : IsAsked asked
  pub answers : Answers may_give may_name asked old new well

-- The line says that a word names no trace that can be read, or the first fault of the one that it names.
abbrev pub TellsTrace : (ℕ → Part → List ℕ → Bool → Type 0) → (List ℕ → Option (List (List ℕ)) → Type 0) → List ℕ → Option (List ℕ) → Option (List ℕ) → List ℕ → Type 0
TellsTrace P may_name trace old new told =
    (may_name trace None × ((told ≡ unreadable_line trace) × (new ≡ old)))
    ⊎ IsStopped P (λ lines. may_name trace (Some lines)) trace old new told

-- The line says the same, or that the trace has no part with this number.
abbrev pub TellsOnePart : (ℕ → Part → List ℕ → Bool → Type 0) → (List ℕ → Option (List (List ℕ)) → Type 0) → List ℕ → ℕ → Option (List ℕ) → Option (List ℕ) → List ℕ → Type 0
TellsOnePart P may_name trace n old new told =
    TellsTrace P may_name trace old new told
    ⊎ ((parts : ℕ) × (well : Bool) × Holds P may_name trace old new parts well × (parts < n) × (told ≡ told_line trace (no_part_text n)))

-- The line says why what is asked wasn't written, or not whole.
abbrev pub Tells : (List ℕ → Option (List ℕ) → Type 0) → (List ℕ → Option (List (List ℕ)) → Type 0) → Asked → Option (List ℕ) → Option (List ℕ) → List ℕ → Type 0
Tells may_give may_name (asked.Both table trace) old new told =
    (TellsNone may_give table.now told × (new ≡ old))
    ⊎ ((t : Named) × (Names may_give table.now t × TellsTrace (IsPrinted (question_of t)) may_name trace.now old new told))
Tells may_give may_name (asked.OnePart table trace n) old new told =
    (TellsNone may_give table.now told × (new ≡ old))
    ⊎ ((t : Named) × (Names may_give table.now t × TellsOnePart (IsPrinted (part_of t n)) may_name trace.now n old new told))
Tells may_give may_name (asked.Serial trace) old new told = TellsTrace (IsPrinted in_commit_order) may_name trace.now old new told
Tells may_give may_name (asked.SomeOrder trace) old new told = TellsTrace (IsPrinted in_some_order) may_name trace.now old new told

-- Why the program ends before it is through.
abbrev pub Explains : (List ℕ → Option (List ℕ) → Type 0) → (List ℕ → Option (List (List ℕ)) → Type 0) → List (List ℕ) → Option (List ℕ) → Option (List ℕ) → Ending → Type 0
Explains may_give may_name words old new NotUnderstood = AskNoTrace words
Explains may_give may_name words old new Memory = Unit {0}
Explains may_give may_name words old new Place = ⊥
Explains may_give may_name words old new Output = Unit {0}
Explains may_give may_name words old new (Told line) =
    (asked : Asked) × ((words ≡ words_of asked) × (IsAsked asked × Tells may_give may_name asked old new (string_bytes line)))
