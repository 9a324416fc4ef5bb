-- Whole runs.
use Rattle.std.proofs.Common.{◌≡◌, true, List, [], ◌∷◌, refl, ap, sym, ◌∙◌, subst, map, All}
use Rattle.std.proofs.lemmas.List.Elements.{All-map}
use Rattle.kr_model.specs.declared.Event.{Event}
use Rattle.kr_model.specs.Protocol.{Protocol, IsLawful}
use Rattle.kr_model.specs.Map.{Map, IsMap}
use Rattle.kr_model.specs.State.{State}
use Rattle.kr_model.specs.Serial.{AreSerial}
use Rattle.kr_model.specs.Run as model
use Rattle.kr_model.proofs.WellFormedLaws.{run_is_state}
use Rattle.kr_records.specs.declared.name.Entry.{Entry}
use Rattle.kr_records.specs.declared.closing.History.{History}
use Rattle.kr_records.specs.Histories.{IsHistory, events_with_replies}
use Rattle.kr_records.specs.Closed.{IsClosed, Lent}
use Rattle.kr_judge.specs.declared.ran.Ran.{Ran}
use Rattle.kr_workers.specs.Follows.{Follows}
use Rattle.kr_report.specs.declared.threaded.Answered.{Answered}
use Rattle.kr_report.specs.declared.threaded.Threaded.{Threaded}
use Rattle.kr_report.specs.declared.threaded.ThreadsShown.{ThreadsShown}
use Rattle.kr_threads.specs.Told.{IsTold}
use Rattle.kr_threads.specs.Threaded.{answered, steps_of, with_replies, IsRanOf, IsThreaded, IsCompared, ShowsThreads}
use Rattle.kr_threads.proofs.Gathered.{none_mapped}

-- Entries as steps with replies have their replies.
pub replies_of_answered : (es : List Entry) → with_replies (map answered es) ≡ events_with_replies es
replies_of_answered [] = refl
replies_of_answered (e ∷ es) = ap (λ l. (e.event, e.reply) ∷ l) (replies_of_answered es)

-- They have their steps.
pub steps_of_answered : (es : List Entry) → steps_of (map answered es) ≡ map (λ e. e.event) es
steps_of_answered [] = refl
steps_of_answered (e ∷ es) = ap (λ l. e.event ∷ l) (steps_of_answered es)

-- The replies of a history.
pub replies_of_entries : (es : List Entry) → map (λ e. e.reply) es ≡ model.replies_of (events_with_replies es)
replies_of_entries [] = refl
replies_of_entries (e ∷ es) = ap (λ l. e.reply ∷ l) (replies_of_entries es)

-- The index at the end of a history has rising keys.
pub ends_in_map : (p : Protocol) → IsLawful p → (opening : Map) (es : List Entry) (s : State) → IsMap opening → IsHistory p opening es s → IsMap s.map
ends_in_map p lawful opening es s rises h =
    subst (λ (t : model.Trace). IsMap t.state.map) h.run (run_is_state p lawful opening (model.events_of (events_with_replies es)) rises).is_map

-- What the history of a closed engine leaves, where nobody is active in the end.
pub ran_of_closed : (p : Protocol) (opening : Map) (h : History) (shares : List Lent) (ran : Ran)
    → (closed : IsClosed p opening h shares) → h.unfinished ≡ []
    → ran.opening ≡ opening
    → ran.replies ≡ map (λ e. e.reply) h.entries.items
    → ran.index ≡ h.index
    → ran.locks ≡ h.locks.items
    → ran.programs ≡ model.programs (events_with_replies h.entries.items)
    → ran.unfinished ≡ h.unfinished
    → IsRanOf opening (events_with_replies h.entries.items) closed.state ran
ran_of_closed p opening h shares ran closed ended opening_is replies index locks programs unfinished = record {
  opening_is = opening_is;
  replies = replies ∙ replies_of_entries h.entries.items;
  index = index ∙ closed.index;
  locks = locks ∙ closed.locks;
  programs = programs;
  unfinished = unfinished ∙ ended;
  serial = subst (λ (ps : List model.Program). AreSerial ran.opening ps) (sym programs)
      (subst (λ (m : Map). AreSerial m (model.programs (events_with_replies h.entries.items))) (sym opening_is) closed.serial.0);
}

-- What a run in several threads shows that was compared with its script.
pub threaded : (p : Protocol) (opening : Map) (steps : List Event) (h : History) (shares : List Lent) (d : Threaded)
    → (closed : IsClosed p opening h shares) → h.unfinished ≡ []
    → All (IsTold p opening d.faults.items (events_with_replies h.entries.items)) d.faults.items
    → d.history.items ≡ map answered h.entries.items
    → Follows steps d.faults.items (map (λ e. e.event) h.entries.items)
    → IsRanOf opening (events_with_replies h.entries.items) closed.state d.ran
    → IsThreaded p opening steps d
threaded p opening steps h shares d closed ended told history follows ran =
    let es = h.entries.items in
    let same : with_replies d.history.items ≡ events_with_replies es = ap with_replies history ∙ replies_of_answered es in
    let steps_are : steps_of d.history.items ≡ map (λ e. e.event) es = ap steps_of history ∙ steps_of_answered es in
    record {
      state = closed.state;
      run = subst (λ (h : List model.Entry). model.IsRun p opening h closed.state) (sym same) closed.run.run;
      granted = subst (λ (l : List Answered). All (λ a. model.is_granted a.reply ≡ true) l) (sym history) (All-map (λ a. model.is_granted a.reply ≡ true) answered es closed.run.granted);
      ended = none_mapped (λ a. a.0) closed.state.active (sym closed.unfinished ∙ ended);
      follows = subst (λ (l : List Event). Follows steps d.faults.items l) (sym steps_are) follows;
      told = subst (λ (h : List model.Entry). All (IsTold p opening d.faults.items h) d.faults.items) (sym same) told;
      ran = subst (λ (h : List model.Entry). IsRanOf opening h closed.state d.ran) (sym same) ran;
    }

-- The whole of a run that was compared with its script.
pub threaded_whole : (p : Protocol) (opening : Map) (steps : List Event) (h : History) (d : Threaded)
    → (compared : IsCompared p opening steps h d.faults.items)
    → d.history.items ≡ map answered h.entries.items
    → IsRanOf opening (events_with_replies h.entries.items) compared.closed.state d.ran
    → IsThreaded p opening steps d
threaded_whole p opening steps h d compared history ran = threaded p opening steps h compared.shares d compared.closed compared.ended compared.told history compared.follows ran

-- The run that such a history is.
abbrev pub ran_whole : Map → History → Ran
ran_whole opening h = record {
  opening = opening;
  replies = map (λ e. e.reply) h.entries.items;
  programs = model.programs (events_with_replies h.entries.items);
  index = h.index;
  locks = h.locks.items;
  unfinished = h.unfinished;
}

-- What is shown of it is of its whole.
pub shown_whole : (p : Protocol) (opening : Map) (steps : List Event) (h : History) (d : ThreadsShown)
    → IsCompared p opening steps h d.faults.items
    → d.history.items ≡ map answered h.entries.items → d.index ≡ h.index → d.unfinished ≡ h.unfinished
    → ShowsThreads p opening steps d
shown_whole p opening steps h d compared history index unfinished =
    let ran : Ran = ran_whole opening h in
    let whole : Threaded = record { history = d.history; ran = ran; faults = d.faults } in
    record {
      whole = whole;
      is_threaded = threaded_whole p opening steps h whole compared history (ran_of_closed p opening h compared.shares ran compared.closed compared.ended refl refl refl refl refl refl);
      history = refl;
      faults = refl;
      index = index;
      unfinished = unfinished;
    }
