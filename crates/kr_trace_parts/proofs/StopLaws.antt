-- A trace that is read to its end, or to its first fault.
use Rattle.std.specs.Prelude.{◌≡◌, ◌⊎◌, ℕ, suc, ◌+◌, Bool, List, [], ◌∷◌, ◌++◌, Option, Some, length}
use Rattle.std.proofs.Common.{sym, ◌∙◌, ap, subst, append_assoc, inl, inr}
use Rattle.std.proofs.lemmas.List.{length-append}
use Rattle.std.specs.Option.{option_to_list}
use Rattle.kr_cli.specs.declared.endings.Ending.{Ending}
use Rattle.kr_cli.specs.Endings.{MemoryOrTold}
use Rattle.kr_cli.specs.Lines.{told_line, unreadable_line}
use Rattle.kr_trace_lines.specs.declared.faults.LineFault.{LineFault}
use Rattle.kr_trace_lines.specs.declared.faults.LineFault.TheVariants as fault
use Rattle.kr_trace_lines.specs.Parts.{PartLines}
use Rattle.kr_trace_parts.specs.Endings.{IsStopped, IsThrough, StopsSo, TellsFault, line_fault_text}
use Rattle.kr_trace_parts.specs.Lines.{BeginTooLong}
use Rattle.kr_trace_parts.specs.Parts.{Part, after_all, at_start, fault_at}
use Rattle.kr_trace_parts.specs.Reading.{HasEnded, IsRead}
use Rattle.kr_trace_parts.specs.declared.source.LinesFault.{LinesFault}
use Rattle.kr_trace_parts.specs.declared.source.LinesFault.TheVariants as lines_fault
use Rattle.kr_trace_parts.proofs.Stopping.{stops_more, word_stops}
use Rattle.kr_trace_parts.proofs.ReadLaws.{ended_written}

-- What may be given behind one more line.
pub given_behind : (may_give now next : List (List ℕ) → Type 0) (front : List (List ℕ)) (line : List ℕ) → ((rest : List (List ℕ)) → now rest → may_give (front ++ rest))
    → ((rest : List (List ℕ)) → next rest → now (line ∷ rest)) → (rest : List (List ℕ)) → next rest → may_give ((front ++ line ∷ []) ++ rest)
given_behind may_give now next front line before more rest g = subst may_give (sym (append_assoc front (line ∷ []) rest)) (before (line ∷ rest) (more rest g))

module _ {T : Type 0} (stands : T → ℕ → Part → Type 0) (asked : T → ℕ → Part → List ℕ → Bool → Type 0) (P : ℕ → Part → List ℕ → Bool → Type 0) (may_give : List (List ℕ) → Type 0) (word : List ℕ)
    (front : List (List ℕ)) (first now : Option (List ℕ)) (ended : ℕ) (well : Bool) (kept : PartLines) (part : Option T) (h : IsRead stands asked P front first now ended well kept part) where
  stopped : (told : List ℕ) → TellsFault may_give word front told → IsStopped P may_give word first now told
  stopped told t = record { front = front; faultless = h.faultless; well = well; written = h.written; tells = t }

  -- The line tells a fault of the line behind these, where this holds of the streams.
  abbrev TellsNext : List ℕ → ℕ → Type 0 → List ℕ → Type 0
  TellsNext bytes n Same told = ((f : LineFault) × ((fault_at (after_all at_start front) bytes ≡ Some f) × (told ≡ told_line word (line_fault_text f n)))) × Same

  next_told : (bytes : List ℕ) (rest : List (List ℕ)) (n : ℕ) (new : Option (List ℕ)) (Same : Type 0) → (Same → new ≡ now) → n ≡ suc (length front) → may_give (front ++ bytes ∷ rest) → (line : List ℕ)
      → TellsNext bytes n Same line → IsStopped P may_give word first new line
  next_told bytes rest n new Same same number given line t =
      let f : LineFault = t.0.0 in
      let says : line ≡ told_line word (line_fault_text f (suc (length front))) = t.0.1.1 ∙ ap (λ (i : ℕ). told_line word (line_fault_text f i)) number in
      subst (λ (o : Option (List ℕ)). IsStopped P may_give word first o line) (sym (same t.1)) (stopped line (inl (bytes, (rest, (f, (given, (t.0.1.0, says)))))))

  -- The next line has a fault.
  pub line_stops : (e : Ending) (bytes : List ℕ) (rest : List (List ℕ)) (n : ℕ) (new : Option (List ℕ)) (Same : Type 0) → (Same → new ≡ now) → n ≡ suc (length front) → may_give (front ++ bytes ∷ rest)
      → StopsSo (λ told. ((f : LineFault) × ((fault_at (after_all at_start front) bytes ≡ Some f) × (told ≡ told_line word (line_fault_text f n)))) × Same) e → StopsSo (IsStopped P may_give word first new) e
  line_stops e bytes rest n new Same same number given s =
      stops_more (TellsNext bytes n Same) (IsStopped P may_give word first new) e (next_told bytes rest n new Same same number given) s

  tells_next : (f : LinesFault) (n : ℕ) (line : List ℕ) → n ≡ suc (length front) → (f ≡ lines_fault.TooLong → (rest : List (List ℕ)) × (may_give (front ++ rest) × BeginTooLong rest))
      → ((f ≡ lines_fault.TooLong) × (line ≡ told_line word (line_fault_text fault.TooLong n))) ⊎ (line ≡ unreadable_line word) → TellsFault may_give word front line
  tells_next f n line number long (inl (is, says)) =
      let l = long is in
      inr (inl (l.0, (l.1.0, (l.1.1, says ∙ ap (λ (i : ℕ). told_line word (line_fault_text fault.TooLong i)) number))))
  tells_next f n line number long (inr says) = inr (inr says)

  -- The next line isn't given.
  pub next_stops : (e : Ending) (f : LinesFault) (n : ℕ) → n ≡ suc (length front) → (f ≡ lines_fault.TooLong → (rest : List (List ℕ)) × (may_give (front ++ rest) × BeginTooLong rest))
      → MemoryOrTold e (λ line. ((f ≡ lines_fault.TooLong) × (line ≡ told_line word (line_fault_text fault.TooLong n))) ⊎ (line ≡ unreadable_line word))
      → StopsSo (IsStopped P may_give word first now) e
  next_stops e f n number long m =
      word_stops (λ line. ((f ≡ lines_fault.TooLong) × (line ≡ told_line word (line_fault_text fault.TooLong n))) ⊎ (line ≡ unreadable_line word)) (IsStopped P may_give word first now) e (λ line t. stopped line (tells_next f n line number long t)) m

  -- The trace can't be read further.
  pub unreadable_stops : (e : Ending) → MemoryOrTold e (λ line. line ≡ unreadable_line word) → StopsSo (IsStopped P may_give word first now) e
  unreadable_stops e m = word_stops (λ line. line ≡ unreadable_line word) (IsStopped P may_give word first now) e (λ line t. stopped line (inr (inr t))) m

  -- The trace has no more lines, and the part in progress has ended.
  pub read_through : (new : Option (List ℕ)) (parts : ℕ) (final : Bool) → may_give front → parts ≡ ended + length (option_to_list (let r = after_all at_start front in r.current))
      → HasEnded asked part (let r = after_all at_start front in r.current) (ended + 1) now new well final → IsThrough P may_give first new parts final
  read_through new parts final given count e = record {
    lines = front;
    count = count ∙ ap (λ (n : ℕ). n + length (option_to_list (let r = after_all at_start front in r.current))) h.count
        ∙ sym (length-append (let r = after_all at_start front in r.ended) (option_to_list (let r = after_all at_start front in r.current)));
    given = given;
    faultless = h.faultless;
    written = ended_written stands asked P (let r = after_all at_start front in r.ended) part (let r = after_all at_start front in r.current) first now new well final ended h.written h.count h.in_progress h.is_asked e;
  }
