-- Reports of verdicts, made one after another.
use Rattle.std.proofs.Common.{◌≡◌, ℕ, zero, suc, ◌+◌, ◌<◌, ◌≤◌, List, [], ◌∷◌, ◌++◌, map, take, get_or, length, min, refl, ap, subst, ◌∙◌, append-nil, arith}
use Rattle.std.proofs.lemmas.List.Concat.{flat_map-append}
use Rattle.kr_judge.specs.declared.verdict.Verdict.{Verdict}
use Rattle.kr_report.specs.Report.{verdict_text}
use Rattle.kr_cli_tasks.specs.Judges.{lines, reports_of}

-- the reports up to one, and that one, are the reports up to the next
reports_next : {N : Type 0} (f : N → List ℕ) (ns : List N) (vs : List Verdict) (i : ℕ) (n : N) (v : Verdict) → i < length ns → i < length vs
    → reports_of (map f (take (suc i) ns)) (take (suc i) vs) ≡ reports_of (map f (take i ns)) (take i vs) ++ verdict_text (f (get_or ns i n)) (get_or vs i v) ∷ []
reports_next f [] vs i n v low high = absurd (omega arith)
reports_next f (m ∷ ns) [] i n v low high = absurd (omega arith)
reports_next f (m ∷ ns) (w ∷ vs) zero n v low high = refl
reports_next f (m ∷ ns) (w ∷ vs) (suc i) n v low high = ap (λ l. verdict_text (f m) w ∷ l) (reports_next f ns vs i n v (omega arith) (omega arith))

reports_more : {N : Type 0} (f : N → List ℕ) (ns : List N) (vs : List Verdict) (i : ℕ) (n : N) (v : Verdict) → i < length ns → i < length vs
    → reports_of (map f (take (i + 1) ns)) (take (i + 1) vs) ≡ reports_of (map f (take i ns)) (take i vs) ++ verdict_text (f (get_or ns i n)) (get_or vs i v) ∷ []
reports_more f ns vs i n v low high =
    let next : suc i ≡ i + 1 = omega arith in
    subst (λ k. reports_of (map f (take k ns)) (take k vs) ≡ reports_of (map f (take i ns)) (take i vs) ++ verdict_text (f (get_or ns i n)) (get_or vs i v) ∷ []) next (reports_next f ns vs i n v low high)

-- the reports up to the end of the names, or of the verdicts, are all of them
reports_all : {N : Type 0} (f : N → List ℕ) (ns : List N) (vs : List Verdict) (i : ℕ) → min (length ns) (length vs) ≤ i
    → reports_of (map f (take i ns)) (take i vs) ≡ reports_of (map f ns) vs
reports_all f [] vs zero h = refl
reports_all f [] vs (suc i) h = refl
reports_all f (m ∷ ns) [] zero h = refl
reports_all f (m ∷ ns) [] (suc i) h = refl
reports_all f (m ∷ ns) (w ∷ vs) zero h = absurd (omega arith)
reports_all f (m ∷ ns) (w ∷ vs) (suc i) h = ap (λ l. verdict_text (f m) w ∷ l) (reports_all f ns vs i (omega arith))

-- the lines up to one, and that one, are the lines up to the next
pub lines_more : {N : Type 0} (f : N → List ℕ) (ns : List N) (vs : List Verdict) (i : ℕ) (n : N) (v : Verdict) → i < length ns → i < length vs
    → lines (reports_of (map f (take (i + 1) ns)) (take (i + 1) vs)) ≡ lines (reports_of (map f (take i ns)) (take i vs)) ++ (verdict_text (f (get_or ns i n)) (get_or vs i v) ++ 10 ∷ [])
lines_more f ns vs i n v low high =
    let line : List ℕ → List ℕ = λ t. t ++ 10 ∷ [] in
    let last = verdict_text (f (get_or ns i n)) (get_or vs i v) in
    let so_far = reports_of (map f (take i ns)) (take i vs) in
    ap lines (reports_more f ns vs i n v low high)
    ∙ flat_map-append line so_far (last ∷ [])
    ∙ ap (λ l. lines so_far ++ l) (append-nil (line last))

-- and up to the end they are all lines
pub lines_all : {N : Type 0} (f : N → List ℕ) (ns : List N) (vs : List Verdict) (i : ℕ) → min (length ns) (length vs) ≤ i
    → lines (reports_of (map f (take i ns)) (take i vs)) ≡ lines (reports_of (map f ns) vs)
lines_all f ns vs i h = ap lines (reports_all f ns vs i h)
