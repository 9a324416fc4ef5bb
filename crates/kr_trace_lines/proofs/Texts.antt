-- Texts that are written one behind another.
use Rattle.std.proofs.Common.{◌≡◌, ◌++◌, ◌∷◌, [], ℕ, List, Bool, true, false, Option, Some, None, option_map, codes, decimal, append_assoc, refl, sym, ap, ◌∙◌}
use Rattle.std.specs.Prelude.{if◌then◌else◌, is_some, Result, Ok, Err, OnOk}
use Rattle.std.specs.Result.{is_ok}
use Rattle.serde_json.specs.Data.{Members, member, no_members}
use Rattle.serde_json.specs.Written.{compact_text, members_text}
use Rattle.serde_json.proofs.OnLiterals.{serde_json_on_literals}
use Rattle.kr_trace_lines.specs.declared.deviation.Deviation.{Deviation}
use Rattle.kr_trace_lines.specs.declared.verdict.TraceVerdict.{TraceVerdict}
use Rattle.kr_trace_lines.specs.Report.{conforms_data, judged_text, part_text, tests_text, verdict_data, with_tests}

-- Two writes are one write of both texts.
pub both : (s t u x y : List ℕ) → t ≡ s ++ x → u ≡ t ++ y → u ≡ s ++ (x ++ y)
both s t u x y e f = f ∙ ap (λ l. l ++ y) e ∙ append_assoc s x y

-- What three writes leave.
pub laid_by_three : (s t u v x y z : List ℕ) → t ≡ s ++ x → u ≡ t ++ y → v ≡ u ++ z → v ≡ s ++ (x ++ (y ++ z))
laid_by_three s t u v x y z e f g = both s t v x (y ++ z) e (both t u v y z f g)

-- A last write, which may fail.
pub last_write : {T E : Type 0} (r : Result T E) (new written before : List ℕ) (Q : Type 0) → new ≡ (if is_ok r then written else before) → (new ≡ written → Q) → OnOk r Q
last_write (Ok u) new written before Q h f = f h
last_write (Err e) new written before Q h f = tt

-- What four writes leave.
pub laid_by_four : (s t u v w x1 x2 x3 x4 : List ℕ) → t ≡ s ++ x1 → u ≡ t ++ x2 → v ≡ u ++ x3 → w ≡ v ++ x4 → w ≡ s ++ (x1 ++ (x2 ++ (x3 ++ x4)))
laid_by_four s t u v w x1 x2 x3 x4 e1 e2 e3 e4 = laid_by_three s t u w x1 x2 (x3 ++ x4) e1 e2 (both u v w x3 x4 e3 e4)

-- What stands behind a beginning, a number and a comma.
pub laid_behind : (s t u beginning number x : List ℕ) → t ≡ s ++ (beginning ++ (number ++ 44 ∷ [])) → u ≡ t ++ x → u ≡ s ++ (beginning ++ (number ++ 44 ∷ x))
laid_behind s t u beginning number x e f =
    both s t u (beginning ++ (number ++ 44 ∷ [])) x e f
    ∙ ap (λ l. s ++ l) (append_assoc beginning (number ++ 44 ∷ []) x ∙ ap (λ l. beginning ++ l) (append_assoc number (44 ∷ []) x))

-- What five writes leave.
pub laid_by_five : (s t u v w o x1 x2 x3 x4 x5 : List ℕ) → t ≡ s ++ x1 → u ≡ t ++ x2 → v ≡ u ++ x3 → w ≡ v ++ x4 → o ≡ w ++ x5
    → o ≡ s ++ (x1 ++ (x2 ++ (x3 ++ (x4 ++ x5))))
laid_by_five s t u v w o x1 x2 x3 x4 x5 e1 e2 e3 e4 e5 =
    laid_by_three s t u o x1 x2 (x3 ++ (x4 ++ x5)) e1 e2 (laid_by_three u v w o x3 x4 x5 e3 e4 e5)

-- The pieces of a lock are its text.
pub conflict_is : (name holder mode since asked tested : List ℕ)
    → (91 ∷ (name ++ 44 ∷ (holder ++ 44 ∷ (mode ++ 44 ∷ [])))) ++ ((since ++ 44 ∷ []) ++ (asked ++ 44 ∷ (tested ++ 93 ∷ [])))
    ≡ 91 ∷ (name ++ 44 ∷ (holder ++ 44 ∷ (mode ++ 44 ∷ (since ++ 44 ∷ (asked ++ 44 ∷ (tested ++ 93 ∷ []))))))
conflict_is name holder mode since asked tested =
    let last : List ℕ = asked ++ 44 ∷ (tested ++ 93 ∷ []) in
    let behind : List ℕ = (since ++ 44 ∷ []) ++ last in
    ap (λ l. 91 ∷ l) (append_assoc name (44 ∷ (holder ++ 44 ∷ (mode ++ 44 ∷ []))) behind
    ∙ ap (λ l. name ++ 44 ∷ l) (append_assoc holder (44 ∷ (mode ++ 44 ∷ [])) behind
    ∙ ap (λ l. holder ++ 44 ∷ l) (append_assoc mode (44 ∷ []) behind
    ∙ ap (λ l. mode ++ 44 ∷ l) (append_assoc since (44 ∷ []) last))))

-- Whether there is one, seen through a reference or not.
pub is_some-map : {A B : Type 0} (f : A → B) (o : Option A) → is_some o ≡ is_some (option_map f o)
is_some-map f None = refl
is_some-map f (Some a) = refl

-- The texts as a member --

-- The members behind the counts, with the texts or without.
members_with_tests : (b : Bool) (ts : List (List ℕ)) (ms : Members) → members_text true (with_tests b ts ms) ≡ tests_text b ts ++ members_text true ms
unfolding serde_json_on_literals
members_with_tests false ts ms = refl
members_with_tests true [] ms = refl
members_with_tests true (t ∷ ts) ms = refl

-- The line of a part --

counts_then : (a p b q y : List ℕ) → (a ++ (p ++ (b ++ q))) ++ y ≡ a ++ (p ++ (b ++ (q ++ y)))
counts_then a p b q y = append_assoc a (p ++ (b ++ q)) y ∙ ap (λ l. a ++ l) (append_assoc p (b ++ q) y ∙ ap (λ l. p ++ l) (append_assoc b q y))

-- The verdict as the last member.
abbrev end_text : TraceVerdict → List ℕ
end_text v = codes ",\"verdict\":" ++ (compact_text (verdict_data v) ++ 125 ∷ [])

-- The pieces of a part's line are its text.
pub part_is : (names : List (List ℕ)) (part : ℕ) (d : Option Deviation) (queued : ℕ) (ts : List (List ℕ)) (v : TraceVerdict)
    → codes "{\"conforms\":" ++ (compact_text (conforms_data names d) ++ ((codes ",\"part\":" ++ (decimal part ++ (codes ",\"queued\":" ++ decimal queued)))
    ++ (tests_text (is_some d) ts ++ (codes ",\"verdict\":" ++ (compact_text (verdict_data v) ++ 125 ∷ [])))))
    ≡ part_text names part d queued ts v
unfolding serde_json_on_literals
part_is names part d queued ts v =
    ap (λ l. codes "{\"conforms\":" ++ (compact_text (conforms_data names d) ++ l))
    (counts_then (codes ",\"part\":") (decimal part) (codes ",\"queued\":") (decimal queued) (tests_text (is_some d) ts ++ end_text v)
    ∙ ap (λ l. codes ",\"part\":" ++ (decimal part ++ (codes ",\"queued\":" ++ (decimal queued ++ l))))
    (sym (members_with_tests (is_some d) ts (member (codes "verdict") (verdict_data v) no_members))))

-- The pieces of a judged part's line are its text.
pub judged_is : (part : ℕ) (v : TraceVerdict) → codes "{\"part\":" ++ (decimal part ++ (codes ",\"verdict\":" ++ (compact_text (verdict_data v) ++ 125 ∷ []))) ≡ judged_text part v
unfolding serde_json_on_literals
judged_is part v = refl
