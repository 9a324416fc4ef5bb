-- A part whose committed programs are kept, and one more step.
use Rattle.std.specs.Prelude.{◌≡◌, ℕ, List, [], ◌∷◌, ◌++◌, Option, None, map}
use Rattle.std.proofs.Common.{sym, ◌∙◌, ap, append-nil}
use Rattle.std.proofs.lemmas.List.{map-append}
use Rattle.std.specs.BTreeMap.{BTreeMap}
use Rattle.kr_model.specs.Map.{Map}
use Rattle.kr_trace_follow.specs.Lines.{Line}
use Rattle.kr_trace_follow.specs.Programs.{Tale, no_tale}
use Rattle.kr_trace_follow.specs.Given.{Given}
use Rattle.kr_trace_parts.specs.Kept.{IsKept, shown}
use Rattle.kr_trace_parts.specs.Parts.{Part, with_step}
use Rattle.kr_trace_parts.specs.Tales.{committed_in, committed_with, noted, program_committed, told_after, told_of}
use Rattle.kr_trace_parts.specs.declared.programs.Committed.{Committed as Kept}
use Rattle.kr_trace_parts.specs.declared.tales.Tale.{Tale as Noted}
use Rattle.kr_trace_parts.proofs.TaleLaws.{committed_more, told_more, told_same}

-- One more step, and what it commits.
pub kept_more : (s : Part) (opening : Map) (tales new : BTreeMap ℕ Noted) (kept now : List Kept) (order : Option (List ℕ)) (l : Line) (program : Option (List Given))
    → IsKept s opening tales kept order → ((u : ℕ) → noted new u ≡ told_of (noted tales) l.event l.observed u) → program ≡ program_committed (noted tales l.event.txn) l.observed
    → map shown now ≡ map shown kept ++ committed_with l.event.txn program → IsKept (with_step l.number l.event l.observed s) opening new now order
kept_more s opening tales new kept now order l program h told is more =
    record {
      opened = h.opened;
      told = λ u. told u ∙ told_same (noted tales) (told_after (λ t. no_tale) s.steps) h.told l.event l.observed u ∙ sym (told_more (λ t. no_tale) s.steps l u);
      commits = more ∙ ap (λ cs. cs ++ committed_with l.event.txn program) h.commits
          ∙ ap (λ (x : Option (List Given)). committed_in s.steps ++ committed_with l.event.txn x) (is ∙ ap (λ (x : Tale). program_committed x l.observed) (h.told l.event.txn))
          ∙ sym (committed_more (λ t. no_tale) s.steps l);
      ordered = h.ordered;
    }

pub one_more_kept : (kept now : List Kept) (one : Kept) → now ≡ kept ++ one ∷ [] → map shown now ≡ map shown kept ++ shown one ∷ []
one_more_kept kept now one is = ap (map shown) is ∙ map-append shown kept (one ∷ [])

pub none_more_kept : (kept : List Kept) (t : ℕ) → map shown kept ≡ map shown kept ++ committed_with t None
none_more_kept kept t = sym (append-nil (map shown kept))
