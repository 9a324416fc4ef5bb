-- One part as a text, and one more line of it.
use Rattle.std.specs.Prelude.{◌≡◌, ◌++◌, ◌∷◌, [], ℕ, List, Option, Some, length, map, refl}
use Rattle.std.proofs.Common.{◌∙◌, ap, ap₂, append_assoc, arith, sym}
use Rattle.std.proofs.lemmas.List.{map-append}
use Rattle.kr_model.specs.declared.Event.{Event}
use Rattle.kr_model.specs.Map.{Map}
use Rattle.kr_model.specs.Protocol.{Protocol}
use Rattle.kr_ghost.specs.Protocol.{GhostProtocol}
use Rattle.kr_ghost_follow.specs.Stands.{Follows, HasFollowed}
use Rattle.kr_trace_lines.specs.declared.deviation.Deviation.{Deviation}
use Rattle.kr_trace_lines.specs.declared.observed.Observed.{Observed}
use Rattle.kr_trace_follow.specs.Following.{Following, begun, next}
use Rattle.kr_trace_follow.specs.Lines.{Line}
use Rattle.kr_trace_lines.specs.declared.verdict.TraceVerdict.{TraceVerdict}
use Rattle.kr_trace_text.specs.declared.steps.LoggedStep.{LoggedStep}
use Rattle.kr_trace_text.specs.Verdicts.{verdict_words}
use Rattle.kr_trace_text.specs.Whole.{part_words}
use Rattle.kr_cli_trace.specs.OnePart.{IsWatched, IsWatchedGhosts, cut_words, left_out_words, line_of, logged, shown_text}
use Rattle.kr_trace_parts.specs.Parts.{Part, with_step}
use Rattle.kr_trace_parts.proofs.FollowLaws.{lines_more}

pub nothing_left : {X : Type 0} (l : List X) → length l ≡ 0 → l ≡ []
nothing_left [] h = refl
nothing_left (x ∷ xs) h = absurd (omega (arith, h))

-- The lines of steps that are kept.
pub lines_of_logged : (ls : List Line) → map line_of (map logged ls) ≡ ls
lines_of_logged [] = refl
lines_of_logged (l ∷ ls) = ap (λ (rest : List Line). l ∷ rest) (lines_of_logged ls)

-- One more step is followed, and kept.
pub step_watched : (p own after : Protocol) (s : Part) (n : ℕ) (e : Event) (o : Observed) (at new : Following) (d later : Option Deviation) (opening : Map) (steps more : List LoggedStep)
    → IsWatched p s own at d opening steps → after ≡ own → new ≡ next own at (record { number = n; event = e; observed = o }) → later ≡ (let f = next own at (record { number = n; event = e; observed = o }) in f.found)
    → more ≡ steps ++ record { number = n; event = e; observed = o } ∷ [] → IsWatched p (with_step n e o s) after new later opening more
step_watched p own after s n e o at new d later opening steps more h same is found_is kept =
    let line : Line = record { number = n; event = e; observed = o } in
    record {
      same = same ∙ h.same;
      followed = is ∙ ap (λ (q : Protocol). next q at line) h.same ∙ ap (λ (f : Following). next p f line) h.followed ∙ sym (lines_more p (begun s.opening) s.steps line);
      deviates = found_is ∙ ap (λ (f : Following). f.found) (sym is);
      opens = h.opens;
      keeps = kept ∙ ap (λ (ls : List LoggedStep). ls ++ logged line ∷ []) h.keeps ∙ sym (map-append logged s.steps (line ∷ []));
    }

-- The same index, steps and deviation have the same text.
pub same_part : (names : List (List ℕ)) (n : ℕ) (opening : Map) (steps : List LoggedStep) (d e : Option Deviation) (s : Part)
    → opening ≡ s.opening → steps ≡ map logged s.steps → d ≡ e → part_words names n opening steps d ≡ part_words names n s.opening (map logged s.steps) e
same_part names n opening steps d e s opens keeps same =
    ap (λ (m : Map). part_words names n m steps d) opens
    ∙ ap (λ (ls : List LoggedStep). part_words names n s.opening ls d) keeps
    ∙ ap (λ (x : Option Deviation). part_words names n s.opening (map logged s.steps) x) same

-- The text of a part, and the verdict below it.
pub text_shown : (names : List (List ℕ)) (n : ℕ) (s : Part) (d : Option Deviation) (v : TraceVerdict) (part broken whole verdict : List ℕ)
    → part ≡ part_words names n s.opening (map logged s.steps) d → broken ≡ part ++ 10 ∷ [] → whole ≡ broken ++ verdict → verdict ≡ verdict_words v
    → whole ++ 10 ∷ [] ≡ shown_text names n s d v
text_shown names n s d v part broken whole verdict is_part is_broken is_whole is_verdict =
    ap (λ (z : List ℕ). z ++ 10 ∷ []) (is_whole ∙ ap (λ (z : List ℕ). z ++ verdict) (is_broken ∙ ap (λ (z : List ℕ). z ++ 10 ∷ []) is_part))
    ∙ append_assoc (part_words names n s.opening (map logged s.steps) d ++ 10 ∷ []) verdict (10 ∷ [])
    ∙ append_assoc (part_words names n s.opening (map logged s.steps) d) (10 ∷ []) (verdict ++ 10 ∷ [])
    ∙ ap (λ (z : List ℕ). part_words names n s.opening (map logged s.steps) d ++ 10 ∷ (z ++ 10 ∷ [])) is_verdict

-- A text with the sentence below it that states were left out.
pub cut_shown : (text longer : List ℕ) (found : Option Deviation) (cut : Option ℕ) (d : Deviation) (line : ℕ) → found ≡ Some d → cut ≡ Some line → longer ≡ text ++ 10 ∷ left_out_words line
    → longer ++ 10 ∷ [] ≡ (text ++ 10 ∷ []) ++ cut_words found cut
cut_shown text longer found cut d line found_is cut_is is =
    ap (λ (z : List ℕ). z ++ 10 ∷ []) is ∙ append_assoc text (10 ∷ left_out_words line) (10 ∷ []) ∙ sym (append_assoc text (10 ∷ []) (left_out_words line ++ 10 ∷ []))
    ∙ ap₂ (λ (f : Option Deviation) (o : Option ℕ). (text ++ 10 ∷ []) ++ cut_words f o) (sym found_is) (sym cut_is)

-- One more step is followed under a table with ghosts, and kept.
pub step_watched_ghosts : {P : Type 0} (ghosts : P → GhostProtocol) (q : P) (s : Part) (n : ℕ) (e : Event) (o : Observed) (at new : Follows P) (d later : Option Deviation) (opening : Map) (steps more : List LoggedStep)
    → IsWatchedGhosts ghosts q s at d opening steps → HasFollowed ghosts q s.opening (s.steps ++ record { number = n; event = e; observed = o } ∷ []) new → later ≡ new.found
    → more ≡ steps ++ record { number = n; event = e; observed = o } ∷ [] → IsWatchedGhosts ghosts q (with_step n e o s) new later opening more
step_watched_ghosts ghosts q s n e o at new d later opening steps more h is found_is kept =
    let line : Line = record { number = n; event = e; observed = o } in
    record {
      rising = h.rising;
      followed = is;
      deviates = found_is;
      opens = h.opens;
      keeps = kept ∙ ap (λ (ls : List LoggedStep). ls ++ logged line ∷ []) h.keeps ∙ sym (map-append logged s.steps (line ∷ []));
    }
