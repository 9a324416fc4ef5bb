-- A part judged so far, and one more step.
use Rattle.std.specs.Prelude.{◌≡◌, ℕ, List, [], ◌∷◌, ◌++◌, Option, Some, None}
use Rattle.std.proofs.Common.{sym, ◌∙◌, ap, subst, append-nil}
use Rattle.std.specs.BTreeMap.{BTreeMap}
use Rattle.kr_model.specs.Map.{Map}
use Rattle.kr_trace_follow.specs.Lines.{Line}
use Rattle.kr_trace_follow.specs.Programs.{Tale, no_tale}
use Rattle.kr_trace_follow.specs.Given.{Given, map_after}
use Rattle.kr_trace_lines.specs.declared.verdict.TraceVerdict.{TraceVerdict}
use Rattle.kr_trace_parts.specs.Committed.{Committed, IsFirstFound, IsFound, map_left, or_later}
use Rattle.kr_trace_parts.specs.Judged.{AreJudged}
use Rattle.kr_trace_parts.specs.Tales.{committed_in, committed_with, noted, program_committed, told_after, told_of}
use Rattle.kr_trace_parts.specs.declared.tales.Tale.{Tale as Noted}
use Rattle.kr_trace_parts.proofs.CommittedLaws.{found_more, left_more}
use Rattle.kr_trace_parts.proofs.TaleLaws.{committed_more, told_more, told_same}

module _ (opening : Map) (steps : List Line) (tales new : BTreeMap ℕ Noted) (m : Map) (found : Option TraceVerdict) (l : Line)
    (h : AreJudged opening steps tales m found)
    (told : (u : ℕ) → noted new u ≡ told_of (noted tales) l.event l.observed u) where
  told_now : (u : ℕ) → noted new u ≡ told_after (λ t. no_tale) (steps ++ l ∷ []) u
  told_now u = told u ∙ told_same (noted tales) (told_after (λ t. no_tale) steps) h.told l.event l.observed u ∙ sym (told_more (λ t. no_tale) steps l u)

  -- what commits, by what is noted
  committed_now : (program : Option (List Given)) → program ≡ program_committed (noted tales l.event.txn) l.observed
      → committed_in (steps ++ l ∷ []) ≡ committed_in steps ++ committed_with l.event.txn program
  committed_now program is =
      committed_more (λ t. no_tale) steps l
      ∙ ap (λ (x : Tale). committed_in steps ++ committed_with l.event.txn (program_committed x l.observed)) (sym (h.told l.event.txn))
      ∙ ap (λ (x : Option (List Given)). committed_in steps ++ committed_with l.event.txn x) (sym is)

  -- A step that commits nothing.
  pub still_judged : None ≡ program_committed (noted tales l.event.txn) l.observed → AreJudged opening (steps ++ l ∷ []) new m found
  still_judged is =
      let same : committed_in (steps ++ l ∷ []) ≡ committed_in steps = committed_now None is ∙ append-nil (committed_in steps) in
      record {
        told = told_now;
        left = h.left ∙ ap (map_left opening) (sym same);
        first = subst (λ (cs : List Committed). IsFirstFound opening cs found) (sym same) h.first;
      }

  -- A step that commits a program.
  pub judged_more : (program : List Given) (after : Map) (now later : Option TraceVerdict) → Some program ≡ program_committed (noted tales l.event.txn) l.observed
      → IsFound m l.event.txn program now → after ≡ map_after m program → later ≡ or_later found now → AreJudged opening (steps ++ l ∷ []) new after later
  judged_more program after now later is f left_is later_is =
      let one : Committed = record { txn = l.event.txn; program = program } in
      let more : committed_in (steps ++ l ∷ []) ≡ committed_in steps ++ one ∷ [] = committed_now (Some program) is in
      let first : IsFirstFound opening (committed_in steps ++ one ∷ []) (or_later found now) =
      found_more opening (committed_in steps) l.event.txn program found now h.first (subst (λ (z : Map). IsFound z l.event.txn program now) h.left f) in
      record {
        told = told_now;
        left = left_is ∙ ap (λ (z : Map). map_after z program) h.left ∙ sym (left_more opening (committed_in steps) one) ∙ ap (map_left opening) (sym more);
        first = subst (λ (v : Option TraceVerdict). IsFirstFound opening (committed_in (steps ++ l ∷ [])) v) (sym later_is) (subst (λ (cs : List Committed). IsFirstFound opening cs (or_later found now)) (sym more) first);
      }
