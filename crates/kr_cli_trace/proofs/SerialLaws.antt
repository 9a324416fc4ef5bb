-- Under a safe table with ghosts a part that conforms is serializable, by the answers as they were given.
use Rattle.std.specs.Prelude.{◌≡◌, ◌↔◌, ℕ, Bool, IsTrue, List, [], ◌∷◌, ◌++◌, Option, None, map, refl}
use Rattle.std.proofs.Common.{ap, sym, subst, ◌∙◌, append_assoc, append-nil}
use Rattle.std.proofs.lemmas.List.{map-append}
use Rattle.std.proofs.lemmas.List.Elements.{All-head}
use Rattle.kr_model.specs.declared.Event.{Event}
use Rattle.kr_model.specs.Map.{Map, IsMap}
use Rattle.kr_ghost.specs.Protocol.{GhostProtocol, IsLawfulGhost}
use Rattle.kr_ghost.specs.Safe.{IsSafeGhost}
use Rattle.kr_trace_lines.specs.declared.deviation.Deviation.{Deviation}
use Rattle.kr_trace_lines.specs.declared.observed.Observed.{Observed}
use Rattle.kr_trace_lines.specs.declared.observed.Observed.TheVariants as observed
use Rattle.kr_trace_lines.specs.declared.verdict.TraceVerdict.{TraceVerdict}
use Rattle.kr_trace_lines.specs.declared.verdict.TraceVerdict.TheVariants as verdict
use Rattle.kr_trace_follow.specs.declared.judge.Difference.{Difference}
use Rattle.kr_trace_follow.specs.Given.{Given, AreSerialWhereGiven, IsFirstDifference, map_after}
use Rattle.kr_trace_follow.specs.Lines.{Line}
use Rattle.kr_trace_follow.specs.Programs.{Tale, Tales, given_programs, no_tale, tales_after, tales_of}
use Rattle.kr_trace_follow.specs.Upwards.{answer_upwards, line_upwards, upwards}
use Rattle.kr_trace_follow.proofs.GivenLaws.{first_is_difference, first_program, no_difference, other_programs}
use Rattle.kr_trace_parts.specs.Committed.{Committed, AreSerial, IsVerdict, map_left}
use Rattle.kr_trace_parts.specs.Parts.{Part}
use Rattle.kr_trace_parts.specs.Printed.{IsSerialVerdict}
use Rattle.kr_trace_parts.specs.Tales.{committed_from, committed_in, committed_with, program_committed, told_of}
use Rattle.kr_ghost_follow.specs.Following.{Stand}
use Rattle.kr_ghost_follow.specs.Points.{Point}
use Rattle.kr_ghost_follow.specs.Reached.{IsReached}
use Rattle.kr_ghost_follow.proofs.SerialRuns.{serial_run}
use Rattle.kr_cli_trace.specs.Printed.{IsWellWhereSafe}

-- The programs of a part --

abbrev programs_in : List Committed → List (List Given)
programs_in cs = map (λ c. c.program) cs

abbrev tales : (ℕ → Tale) → List (List Given) → Tales
tales f cs = record { of = f; committed = cs }

-- One step more.
one_told : (f : ℕ → Tale) (cs : List (List Given)) (e : Event) (o : Observed)
    → tales_after (tales f cs) e.txn (upwards e.op) (answer_upwards e.op o) ≡ tales (told_of f e o) (cs ++ programs_in (committed_with e.txn (program_committed (f e.txn) o)))
one_told f cs e observed.Committed = refl
one_told f cs e o = ap (λ z. tales (told_of f e o) z) (sym (append-nil cs))

all_told : (f : ℕ → Tale) (cs : List (List Given)) (lines : List Line) → (tales_of (tales f cs) (map line_upwards lines)).committed ≡ cs ++ programs_in (committed_from f lines)
all_told f cs [] = sym (append-nil cs)
all_told f cs (l ∷ ls) =
    let here = committed_with l.event.txn (program_committed (f l.event.txn) l.observed) in
    let rest = committed_from (told_of f l.event l.observed) ls in
    ap (λ (w : Tales). (tales_of w (map line_upwards ls)).committed) (one_told f cs l.event l.observed)
    ∙ all_told (told_of f l.event l.observed) (cs ++ programs_in here) ls
    ∙ append_assoc cs (programs_in here) (programs_in rest) ∙ ap (λ z. cs ++ z) (sym (map-append (λ c. c.program) here rest))

-- They are those that were given in its lines.
programs_told : (lines : List Line) → given_programs (map line_upwards lines) ≡ programs_in (committed_in lines)
programs_told lines = all_told (λ t. no_tale) [] lines

-- Verdicts --

-- Programs that are serializable have no wrong answer.
no_wrong : (m : Map) (before : List Committed) (c : Committed) (rest : List Committed) (d : Difference) → AreSerial m (before ++ c ∷ rest) → IsFirstDifference (map_left m before) c.program d → ⊥
no_wrong m [] c rest d h wrong =
    let none = no_difference m 1 c.program (first_program m c.program (programs_in rest) h) in
    let some = first_is_difference m c.program d wrong in
    absurd (cc (none, some))
no_wrong m (b ∷ bs) c rest d h wrong = no_wrong (map_after m b.program) bs c rest d (other_programs m b.program (programs_in (bs ++ c ∷ rest)) h) wrong

serial_verdict : (m : Map) (cs : List Committed) (v : TraceVerdict) → AreSerial m cs → IsVerdict m cs v → IsSerialVerdict v
serial_verdict m cs verdict.Serial serial h = tt
serial_verdict m cs (verdict.SerialInOrder ts) serial h = absurd h
serial_verdict m cs (verdict.NotSerial t n given answer) serial h =
    let c : Committed = record { txn = t; program = h.program } in
    absurd (no_wrong m h.before c h.rest (record { operation = n; serial = answer }) (subst (AreSerial m) h.place serial) h.difference)
serial_verdict m cs verdict.Unknown serial h = absurd h

-- A part that conforms --

conforming_serial : (p : GhostProtocol) → IsLawfulGhost p → IsSafeGhost p → (s : Part) → IsMap s.opening → (points : List Point) (queued : ℕ) → Stand p s.opening s.steps points queued None → AreSerial s.opening (committed_in s.steps)
conforming_serial p laws safe s sorted [] queued h = absurd h.0
conforming_serial p laws safe s sorted (x ∷ xs) queued h =
    let run = serial_run p laws safe s.opening sorted s.steps x (All-head (IsReached p s.opening s.steps) x xs h.1) in
    subst (λ z. AreSerialWhereGiven s.opening z) (programs_told s.steps) run.given

-- So all is well with it.
pub well_where_safe : (p : GhostProtocol) (s : Part) → IsMap s.opening → (points : List Point) (queued : ℕ) (found : Option Deviation) → Stand p s.opening s.steps points queued found
    → (v : TraceVerdict) → IsVerdict s.opening (committed_in s.steps) v → (well : Bool) → (IsTrue well ↔ ((found ≡ None) × IsSerialVerdict v)) → IsWellWhereSafe p found well
well_where_safe p s sorted points queued found stands v verdict well both laws safe none =
    let serial = conforming_serial p laws safe s sorted points queued (subst (λ (d : Option Deviation). Stand p s.opening s.steps points queued d) none stands) in
    both.1 (none, serial_verdict s.opening (committed_in s.steps) v serial verdict)
