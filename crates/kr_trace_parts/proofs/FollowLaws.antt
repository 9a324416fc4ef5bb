-- The line of a part that was held against a table, and whether all is well with it.
use Rattle.std.specs.Prelude.{◌≡◌, ◌↔◌, ℕ, Bool, true, false, not, is_some, IsTrue, List, [], ◌∷◌, ◌++◌, Option, Some, None, refl}
use Rattle.std.specs.BTreeMap.{BTreeMap}
use Rattle.kr_model.specs.declared.Event.{Event}
use Rattle.kr_model.specs.Map.{Map}
use Rattle.kr_model.specs.Protocol.{Protocol}
use Rattle.kr_trace_lines.specs.declared.observed.Observed.{Observed}
use Rattle.kr_trace_follow.specs.Following.{Following, after_lines, begun, next}
use Rattle.kr_trace_follow.specs.Lines.{Line}
use Rattle.kr_trace_parts.specs.Followed.{IsFollowed}
use Rattle.kr_trace_parts.specs.Judged.{AreJudged}
use Rattle.kr_trace_parts.specs.Parts.{Part, with_step}
use Rattle.kr_trace_parts.specs.declared.tales.Tale.{Tale}
use Rattle.std.proofs.Common.{ap, ◌∙◌, sym}
use Rattle.kr_trace_lines.specs.declared.deviation.Deviation.{Deviation}
use Rattle.kr_trace_lines.specs.Report.{part_text}
use Rattle.kr_trace_lines.specs.declared.verdict.TraceVerdict.{TraceVerdict}
use Rattle.kr_trace_parts.specs.Printed.{IsSerialVerdict}

-- The same deviation, count and texts have the same text.
pub same_text : (names : List (List ℕ)) (n : ℕ) (d e : Option Deviation) (q r : ℕ) (ts us : List (List ℕ)) (v : TraceVerdict) → d ≡ e → q ≡ r → ts ≡ us → part_text names n d q ts v ≡ part_text names n e r us v
same_text names n d e q r ts us v same count texts =
    ap (λ (z : Option Deviation). part_text names n z q ts v) same
    ∙ ap (λ (z : ℕ). part_text names n e z ts v) count
    ∙ ap (λ (z : List (List ℕ)). part_text names n e r z v) texts

-- Where no line deviates, all is well where the verdict says so.
pub well_if_none : (d : Option Deviation) (v : TraceVerdict) (is_none result serial : Bool) → is_some d ≡ not is_none → is_none ≡ true → (IsTrue serial ↔ IsSerialVerdict v) → result ≡ serial
    → IsTrue result ↔ ((d ≡ None) × IsSerialVerdict v)
well_if_none None v is_none result serial some none serially same = (λ t. (refl, serially.0 (sym same ∙ t)), λ h. same ∙ serially.1 h.1)
well_if_none (Some d) v is_none result serial some none serially same = absurd (cc)

-- Where a line deviates, it isn't well.
pub not_well_if_some : (d : Option Deviation) (v : TraceVerdict) (is_none result : Bool) → is_some d ≡ not is_none → is_none ≡ false → result ≡ false
    → IsTrue result ↔ ((d ≡ None) × IsSerialVerdict v)
not_well_if_some None v is_none result some none same = absurd (cc)
not_well_if_some (Some d) v is_none result some none same = (λ t. absurd (cc), λ h. (let e = h.0 in absurd (cc)))

-- One more line --

pub lines_more : (p : Protocol) (f : Following) (ls : List Line) (l : Line) → after_lines p f (ls ++ l ∷ []) ≡ next p (after_lines p f ls) l
lines_more p f [] l = refl
lines_more p f (k ∷ ks) l = lines_more p (next p f k) ks l

-- One more step is followed.
pub step_followed : (p own after : Protocol) (s : Part) (n : ℕ) (e : Event) (o : Observed) (at new : Following) (d later : Option Deviation) (tests : List (List ℕ))
    (tales told : BTreeMap ℕ Tale) (m left : Map) (found now : Option TraceVerdict)
    → IsFollowed p s own at d tests tales m found → after ≡ own → new ≡ next own at (record { number = n; event = e; observed = o }) → later ≡ (let f = next own at (record { number = n; event = e; observed = o }) in f.found)
    → AreJudged s.opening (s.steps ++ record { number = n; event = e; observed = o } ∷ []) told left now
    → IsFollowed p (with_step n e o s) after new later tests told left now
step_followed p own after s n e o at new d later tests tales told m left found now h same is found_is judged =
    let line : Line = record { number = n; event = e; observed = o } in
    record {
      same = same ∙ h.same;
      followed = is ∙ ap (λ (q : Protocol). next q at line) h.same ∙ ap (λ (f : Following). next p f line) h.followed ∙ sym (lines_more p (begun s.opening) s.steps line);
      deviates = found_is ∙ ap (λ (f : Following). f.found) (sym is);
      texts = h.texts;
      judged = judged;
    }
