-- What is known of a trace that was held.
use Rattle.std.specs.Prelude.{◌≡◌, ℕ, List, Bool, Option, Some, Result, Ok, Err, IfOk, IfErr}
use Rattle.std.proofs.Common.{subst, sym, inl, inr}
use Rattle.kr_cli.specs.declared.endings.Ending.{Ending}
use Rattle.kr_cli.specs.declared.endings.Ending.TheVariants.{NotUnderstood, Memory, Place, Output, Told}
use Rattle.kr_trace_parts.specs.Endings.{IsStopped, IsThrough, StopsSo, TellsFault}
use Rattle.kr_trace_parts.specs.Parts.{Part}
use Rattle.kr_trace_parts.proofs.Stopping.{stops_more}
use Rattle.kr_cli_trace.specs.Program.{Answers, AnswersAsked, Explains, Holds, Tells, TellsTrace}
use Rattle.kr_cli_trace.specs.Words.{AskNoTrace, IsAsked, words_of}
use Rattle.kr_cli_trace.specs.declared.words.Asked.{Asked}

-- A trace that is read to its end is named.
pub trace_held : (P : ℕ → Part → List ℕ → Bool → Type 0) (may_name : List ℕ → Option (List (List ℕ)) → Type 0) (may_give : List (List ℕ) → Type 0) (trace : List ℕ) (old new : Option (List ℕ)) (r : Result (ℕ × Bool) Ending)
    → ((lines : List (List ℕ)) → may_give lines → may_name trace (Some lines)) → IfOk r (λ read. IsThrough P may_give old new read.0 read.1) → IfOk r (λ read. Holds P may_name trace old new read.0 read.1)
trace_held P may_name may_give trace old new (Ok read) found h = record { lines = h.lines; count = h.count; given = found h.lines h.given; faultless = h.faultless; written = h.written }
trace_held P may_name may_give trace old new (Err e) found h = tt

tells_named : (may_name : List ℕ → Option (List (List ℕ)) → Type 0) (may_give : List (List ℕ) → Type 0) (trace : List ℕ) → ((lines : List (List ℕ)) → may_give lines → may_name trace (Some lines))
    → (word : List ℕ) (front : List (List ℕ)) (told : List ℕ) → TellsFault may_give word front told → TellsFault (λ lines. may_name trace (Some lines)) word front told
tells_named may_name may_give trace found word front told (inl (line, (rest, (f, (given, says))))) = inl (line, (rest, (f, (found _ given, says))))
tells_named may_name may_give trace found word front told (inr (inl (rest, (given, says)))) = inr (inl (rest, (found _ given, says)))
tells_named may_name may_give trace found word front told (inr (inr says)) = inr (inr says)

pub trace_stopped : (P : ℕ → Part → List ℕ → Bool → Type 0) (may_name : List ℕ → Option (List (List ℕ)) → Type 0) (may_give : List (List ℕ) → Type 0) (trace : List ℕ) (old new : Option (List ℕ)) (r : Result (ℕ × Bool) Ending)
    → ((lines : List (List ℕ)) → may_give lines → may_name trace (Some lines)) → IfErr r (StopsSo (IsStopped P may_give trace old new)) → IfErr r (StopsSo (TellsTrace P may_name trace old new))
trace_stopped P may_name may_give trace old new (Ok read) found h = tt
trace_stopped P may_name may_give trace old new (Err e) found h =
    stops_more (IsStopped P may_give trace old new) (TellsTrace P may_name trace old new) e
    (λ line s. inr (record { front = s.front; faultless = s.faultless; well = s.well; written = s.written; tells = tells_named may_name may_give trace found trace s.front line s.tells })) h

pub if_err_more : (r : Result Bool Ending) (A B : List ℕ → Type 0) → ((line : List ℕ) → A line → B line) → IfErr r (StopsSo A) → IfErr r (StopsSo B)
if_err_more (Ok well) A B by h = tt
if_err_more (Err e) A B by h = stops_more A B e by h

-- What is asked was answered.
pub asked_answered : (may_give : List ℕ → Option (List ℕ) → Type 0) (may_name : List ℕ → Option (List (List ℕ)) → Type 0) (words : List (List ℕ)) (r : Result Bool Ending) (a : Asked) (old new : Option (List ℕ))
    → words ≡ words_of a → IsAsked a → IfOk r (Answers may_give may_name a old new) → IfOk r (AnswersAsked may_give may_name words old new)
asked_answered may_give may_name words (Ok well) a old new are asked h = record { asked = a; words_are = are; is_asked = asked; answers = h }
asked_answered may_give may_name words (Err e) a old new are asked h = tt

-- Words of no form.
pub no_form : (may_give : List ℕ → Option (List ℕ) → Type 0) (may_name : List ℕ → Option (List (List ℕ)) → Type 0) (words : List (List ℕ)) (old new : Option (List ℕ)) (e : Ending)
    → e ≡ NotUnderstood → AskNoTrace words → Explains may_give may_name words old new e
no_form may_give may_name words old new e is isnt = let P : Ending → Type 0 = λ x. Explains may_give may_name words old new x in subst P (sym is) isnt

explained : (may_give : List ℕ → Option (List ℕ) → Type 0) (may_name : List ℕ → Option (List (List ℕ)) → Type 0) (words : List (List ℕ)) (a : Asked) (old new : Option (List ℕ)) (e : Ending)
    → words ≡ words_of a → IsAsked a → StopsSo (Tells may_give may_name a old new) e → Explains may_give may_name words old new e
explained may_give may_name words a old new NotUnderstood are asked ends = absurd ends
explained may_give may_name words a old new Memory are asked ends = tt
explained may_give may_name words a old new Place are asked ends = absurd ends
explained may_give may_name words a old new Output are asked ends = tt
explained may_give may_name words a old new (Told line) are asked ends = (a, (are, (asked, ends)))

-- Why what is asked wasn't answered.
pub asked_explained : (may_give : List ℕ → Option (List ℕ) → Type 0) (may_name : List ℕ → Option (List (List ℕ)) → Type 0) (words : List (List ℕ)) (r : Result Bool Ending) (a : Asked) (old new : Option (List ℕ))
    → words ≡ words_of a → IsAsked a → IfErr r (StopsSo (Tells may_give may_name a old new)) → IfErr r (Explains may_give may_name words old new)
asked_explained may_give may_name words (Ok well) a old new are asked ends = tt
asked_explained may_give may_name words (Err e) a old new are asked ends = explained may_give may_name words a old new e are asked ends
