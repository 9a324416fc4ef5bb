-- One entry more.
use Rattle.std.proofs.Common.{◌≡◌, ℕ, ◌+◌, ◌<◌, length, List, [], ◌∷◌, ◌++◌, true, take, refl, ap, sym, ◌∙◌, subst}
use Rattle.std.proofs.lemmas.List.Elements.{All-push}
use Rattle.kr_model.specs.Protocol.{Protocol}
use Rattle.kr_model.specs.Map.{Map}
use Rattle.kr_model.specs.State.{State, start}
use Rattle.kr_model.specs.Step.{step}
use Rattle.kr_model.specs.Run as model
use Rattle.kr_model.specs.Log.{Log, no_log, logged, log_after}
use Rattle.kr_model.proofs.LogLaws.{log_of_run, log_after_one}
use Rattle.kr_records.specs.declared.name.Entry.{Entry}
use Rattle.kr_model.specs.Map.{IsMap}
use Rattle.kr_model.specs.Protocol.{IsLawful}
use Rattle.kr_model.specs.Covers.{IsCovered}
use Rattle.kr_model.specs.Serial.{IsSerialRun}
use Rattle.kr_theorem.proofs.run.Runs.{runs_are_serial}
use Rattle.std.specs.Prelude.{All, slice_index_or}
use Rattle.std.proofs.lemmas.List.{take_more}
use Rattle.std.proofs.lemmas.List.Elements.{All-contains}
use Rattle.kr_records.specs.declared.numbers.Number.{Number}
use Rattle.kr_records.specs.Numbers.{begun_by, is_begun, number_at, AreDistinct}
use Rattle.kr_records.specs.Histories.{IsHistory, AreOfOneSeat, IsSerialHistory, events_with_replies}
use Rattle.kr_records.proofs.Begun.{place_of_begun_by}

-- A run, one event after another.
abbrev pub AreNext : Protocol → State → List model.Entry → State → Type 0
AreNext p s [] new = new ≡ s
AreNext p s (x ∷ xs) new = (x.1 ≡ (step p s x.0.txn x.0.op).0) × AreNext p (step p s x.0.txn x.0.op).1 xs new

next_of_run : (p : Protocol) (s : State) (h : List model.Entry) (new : State) → model.run p s (model.events_of h) ≡ record { history = h; state = new } → AreNext p s h new
next_of_run p s [] new is = sym (ap (λ t. t.state) is)
next_of_run p s (x ∷ xs) new is =
    let o = step p s x.0.txn x.0.op in
    let rest = model.run p o.1 (model.events_of xs) in
    let lists : (x.0, o.0) ∷ rest.history ≡ x ∷ xs = ap (λ t. t.history) is in
    let states : rest.state ≡ new = ap (λ t. t.state) is in
    let head : ◌≡◌ {A = model.Entry} (x.0, o.0) x = cc (lists) in
    let tail : rest.history ≡ xs = cc (lists) in
    (sym (ap (λ y. y.1) head), next_of_run p o.1 xs new (λ i. record { history = tail i; state = states i }))

run_of_next : (p : Protocol) (s : State) (h : List model.Entry) (new : State) → AreNext p s h new → model.run p s (model.events_of h) ≡ record { history = h; state = new }
run_of_next p s [] new is = λ i. record { history = []; state = sym is i }
run_of_next p s (x ∷ xs) new is =
    let rest = run_of_next p (step p s x.0.txn x.0.op).1 xs new is.1 in
    λ i. record { history = (x.0, sym is.0 i) ∷ (rest i).history; state = (rest i).state }

next_more : (p : Protocol) (s : State) (h : List model.Entry) (mid : State) (x : model.Entry) → AreNext p s h mid → x.1 ≡ (step p mid x.0.txn x.0.op).0 → AreNext p s (h ++ x ∷ []) (step p mid x.0.txn x.0.op).1
next_more p s [] mid x at is = (subst (λ m. x.1 ≡ (step p m x.0.txn x.0.op).0) at is, ap (λ m. (step p m x.0.txn x.0.op).1) at)
next_more p s (y ∷ ys) mid x at is = (at.0, next_more p (step p s y.0.txn y.0.op).1 ys mid x at.1 is)

map_more : (es : List Entry) (e : Entry) → events_with_replies (es ++ e ∷ []) ≡ events_with_replies es ++ (e.event, e.reply) ∷ []
map_more [] e = refl
map_more (x ∷ xs) e = ap (λ l. (x.event, x.reply) ∷ l) (map_more xs e)

-- A granted step makes a history longer.
pub history_more : (p : Protocol) (opening : Map) (es : List Entry) (s : State) (e : Entry) → IsHistory p opening es s → e.reply ≡ (step p s e.event.txn e.event.op).0 → model.is_granted e.reply ≡ true → IsHistory p opening (es ++ e ∷ []) (step p s e.event.txn e.event.op).1
history_more p opening es s e h is granted = record {
  run =
      let h' = events_with_replies es ++ (e.event, e.reply) ∷ [] in
      let new = (step p s e.event.txn e.event.op).1 in
      subst (λ l. model.IsRun p opening l new) (sym (map_more es e)) (run_of_next p (start opening) h' new (next_more p (start opening) (events_with_replies es) s (e.event, e.reply) (next_of_run p (start opening) (events_with_replies es) s h.run) is));
  granted = All-push (λ (e : Entry). model.is_granted e.reply ≡ true) es e h.granted granted;
}

-- The log of a longer history has one entry more.
pub log_more : (es : List Entry) (e : Entry) (l new : Log) → l ≡ log_after no_log (events_with_replies es) → new ≡ logged l (e.event, e.reply) → new ≡ log_after no_log (events_with_replies (es ++ e ∷ []))
log_more es e l new is more =
    more ∙ ap (λ (m : Log). logged m (e.event, e.reply)) is ∙ sym (log_after_one no_log (events_with_replies es) (e.event, e.reply)) ∙ ap (log_after no_log) (sym (map_more es e))

-- The same, of the entries up to a place.
pub log_next : (es : List Entry) (k : ℕ) (e : Entry) → k < length es → (l new : Log) → l ≡ log_after no_log (events_with_replies (take k es)) → (let x = slice_index_or es k e in new ≡ logged l (x.event, x.reply)) → new ≡ log_after no_log (events_with_replies (take (k + 1) es))
log_next es k e within l new is more = log_more (take k es) (slice_index_or es k e) l new is more ∙ ap (λ (xs : List Entry). log_after no_log (events_with_replies xs)) (sym (take_more es k e within))

-- The committed programs of a history's log are those of the history.
pub programs_of_history : (p : Protocol) (opening : Map) (es : List Entry) (s : State) → IsHistory p opening es s → (log_after no_log (events_with_replies es)).committed ≡ model.programs (events_with_replies es)
programs_of_history p opening es s h =
    let log = log_of_run p opening (model.events_of (events_with_replies es)) in
    subst (λ (r : model.Trace). (log_after no_log r.history).committed ≡ model.programs r.history) h.run log.committed

-- A history under a covered protocol is serializable.
pub serial_history : (p : Protocol) → IsLawful p → IsCovered p → (opening : Map) (es : List Entry) (s : State) → IsMap opening → IsHistory p opening es s → IsSerialHistory opening es s
serial_history p laws covered opening es s sorted h = subst (IsSerialRun opening) h.run (runs_are_serial p laws covered opening (model.events_of (events_with_replies es)) sorted)

-- Where each entry's transaction was begun by its seat, and no number twice, all entries of one transaction are of one seat.
pub of_one_seat : (ns : List Number) (es : List Entry) → AreDistinct ns → All (λ e. is_begun (begun_by ns) e.event.txn e.seat ≡ true) es → AreOfOneSeat es
of_one_seat ns es distinct all d e there_d there_e same =
    let one = place_of_begun_by ns d.event.txn d.seat (All-contains (λ (x : Entry). is_begun (begun_by ns) x.event.txn x.seat ≡ true) es d all there_d) in
    let other = place_of_begun_by ns e.event.txn e.seat (All-contains (λ (x : Entry). is_begun (begun_by ns) x.event.txn x.seat ≡ true) es e all there_e) in
    let here : one.0 ≡ other.0 = distinct one.0 other.0 one.1 other.1 (one.2 ∙ same ∙ sym other.2) in
    sym one.3 ∙ ap (λ (i : ℕ). (number_at ns i).seat) here ∙ other.3
