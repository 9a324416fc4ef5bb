-- Committed programs, and one more.
use Rattle.std.specs.Prelude.{◌≡◌, ℕ, List, [], ◌∷◌, ◌++◌, Option, Some, None, map, refl}
use Rattle.std.specs.List.{flat_map}
use Rattle.std.proofs.Common.{sym, ◌∙◌, ap, append_assoc}
use Rattle.kr_model.specs.declared.Reply.{Reply}
use Rattle.kr_model.specs.Map.{Map}
use Rattle.kr_model.specs.Serial.{whole}
use Rattle.kr_trace_lines.specs.declared.observed.Observed.{Observed}
use Rattle.kr_trace_follow.specs.Given.{Given, AreAnsweredWhereGiven, map_after}
use Rattle.kr_trace_lines.specs.declared.verdict.TraceVerdict.{TraceVerdict}
use Rattle.kr_trace_lines.specs.declared.verdict.TraceVerdict.TheVariants as verdict
use Rattle.kr_trace_parts.specs.Committed.{Committed, AreSerial, IsFirstFound, IsFirstWrong, IsFound, IsVerdict, map_left, or_later}

-- Answers --

pub answered_append : (m : Map) (xs ys : List Given) → AreAnsweredWhereGiven m xs → AreAnsweredWhereGiven (map_after m xs) ys → AreAnsweredWhereGiven m (xs ++ ys)
answered_append m [] ys f g = g
answered_append m ((o, a) ∷ xs) ys f g = (f.0, answered_append (whole m o).1 xs ys f.1 g)

pub answered_front : (m : Map) (xs ys : List Given) → AreAnsweredWhereGiven m (xs ++ ys) → AreAnsweredWhereGiven m xs
answered_front m [] ys h = tt
answered_front m ((o, a) ∷ xs) ys h = (h.0, answered_front (whole m o).1 xs ys h.1)

pub answered_back : (m : Map) (xs ys : List Given) → AreAnsweredWhereGiven m (xs ++ ys) → AreAnsweredWhereGiven (map_after m xs) ys
answered_back m [] ys h = h
answered_back m ((o, a) ∷ xs) ys h = answered_back (whole m o).1 xs ys h.1

-- One more program --

pub serial_more : (m : Map) (cs : List Committed) (c : Committed) → AreSerial m cs → AreAnsweredWhereGiven (map_left m cs) c.program → AreSerial m (cs ++ c ∷ [])
serial_more m [] c h g = answered_append m c.program [] g tt
serial_more m (b ∷ bs) c h g =
    answered_append m b.program (flat_map (λ p. p) (map (λ c. c.program) (bs ++ c ∷ [])))
    (answered_front m b.program (flat_map (λ p. p) (map (λ c. c.program) bs)) h)
    (serial_more (map_after m b.program) bs c (answered_back m b.program (flat_map (λ p. p) (map (λ c. c.program) bs)) h) g)

pub left_more : (m : Map) (cs : List Committed) (c : Committed) → map_left m (cs ++ c ∷ []) ≡ map_after (map_left m cs) c.program
left_more m [] c = refl
left_more m (b ∷ bs) c = left_more (map_after m b.program) bs c

-- the first wrong answer stays the first
wrong_more : (m : Map) (cs : List Committed) (c : Committed) (t n : ℕ) (given : Observed) (serial : Reply) → IsFirstWrong m cs t n given serial → IsFirstWrong m (cs ++ c ∷ []) t n given serial
wrong_more m cs c t n given serial h =
    record {
      before = h.before;
      program = h.program;
      rest = h.rest ++ c ∷ [];
      place = ap (λ z. z ++ c ∷ []) h.place ∙ append_assoc h.before (record { txn = t; program = h.program } ∷ h.rest) (c ∷ []);
      serial_before = h.serial_before;
      difference = h.difference;
      told = h.told;
    }

-- What is found of one program more.
pub found_more : (m : Map) (cs : List Committed) (t : ℕ) (program : List Given) (old now : Option TraceVerdict) → IsFirstFound m cs old → IsFound (map_left m cs) t program now
    → IsFirstFound m (cs ++ record { txn = t; program = program } ∷ []) (or_later old now)
found_more m cs t program None None h g = serial_more m cs (record { txn = t; program = program }) h g
found_more m cs t program None (Some verdict.Serial) h g = g
found_more m cs t program None (Some (verdict.SerialInOrder ts)) h g = g
found_more m cs t program None (Some (verdict.NotSerial u n given serial)) h g =
    record {
      before = cs;
      program = program;
      rest = [];
      place = ap (λ (z : ℕ). cs ++ record { txn = z; program = program } ∷ []) (sym g.0);
      serial_before = h;
      difference = g.1.0;
      told = g.1.1;
    }
found_more m cs t program None (Some verdict.Unknown) h g = g
found_more m cs t program (Some verdict.Serial) now h g = absurd h
found_more m cs t program (Some (verdict.SerialInOrder ts)) now h g = absurd h
found_more m cs t program (Some (verdict.NotSerial u n given serial)) now h g = wrong_more m cs (record { txn = t; program = program }) u n given serial h
found_more m cs t program (Some verdict.Unknown) now h g = absurd h
