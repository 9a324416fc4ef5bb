use Rattle.std.proofs.lemmas.Grind.{common_steps}
use Rattle.std.proofs.Common.{◌≡◌, ℕ, List, [], ◌∷◌, ◌++◌, Some, All, map, get_or, string_bytes, suc, ap, subst, sym, inl, inr, arith}
use Rattle.std.specs.Prelude.{codes, slice_get}
use Rattle.std.specs.Fmt.{decimal}
use Rattle.std.proofs.lemmas.List.Elements.{All-map}
use Rattle.kr_cli.specs.Words.{IsPlain}
use Rattle.kr_cli_tasks.specs.Words.{AreLeft, AskThreads, HasWorkers, HaveForm, LeavesWords, count_of, scripts_of}
use Rattle.kr_cli_tasks.specs.declared.asked.Form.{Form}
use Rattle.kr_cli_tasks.specs.declared.asked.Form.TheVariants.{Plain, Threads}
use Rattle.kr_cli_tasks.specs.declared.asked.Task.TheVariants.{Check, Run, Judge}
use Rattle.kr_cli_tasks.specs.declared.asked.Workers.{Workers}
use Rattle.kr_cli_tasks.proofs.words.read_words.Goals as goal

-- where the first word has another first letter, it isn't `threads`
no_threads : (left : List (List ℕ)) (first : List ℕ) (rest : List (List ℕ)) → left ≡ first ∷ rest → slice_get left 0 ≡ Some (codes "threads") → get_or first 0 0 ≡ 116
no_threads left first rest is threads =
    let same : first ≡ codes "threads" = cc in
    ap (λ (bs : List ℕ). get_or bs 0 0) same

-- the words have the form of what was asked by those that were left
form_of_left : (words left : List (List ℕ)) (workers : Workers) (table : List ℕ) (form : Form) → LeavesWords words left (count_of workers) → HasWorkers workers form → AreLeft left table form → HaveForm words table form
form_of_left words left workers table (Plain Check) (inl (split, threads)) has is = absurd (omega (arith, no_threads left _ _ is threads))
form_of_left words left workers table (Plain Check) (inr (same, four)) has is = cc
form_of_left words left workers table (Plain (Run script)) (inl (split, threads)) has is = absurd (omega (arith, no_threads left _ _ is threads))
form_of_left words left workers table (Plain (Run script)) (inr (same, four)) has is = cc
form_of_left words left workers table (Plain (Judge scripts)) (inl (split, threads)) has is = absurd (omega (arith, no_threads left _ _ is.0 threads))
form_of_left words left workers table (Plain (Judge scripts)) (inr (same, four)) has is = (cc, is.1)
form_of_left words left workers table (Threads script given) (inl (split, threads)) has is =
    let P : List (List ℕ) → Type 0 = λ ws. words ≡ ws ++ codes "--workers" ∷ decimal (count_of workers) ∷ [] in
    subst (λ (w : Workers). AskThreads words table script.now (count_of w)) (sym has) (inl (subst P is split))
form_of_left words left workers table (Threads script given) (inr (same, four)) has is =
    subst (λ (w : Workers). AskThreads words table script.now (count_of w)) (sym has) (inr (cc, four))

-- so do those behind the first
plain_behind : (left : List (List ℕ)) (first : List ℕ) (rest : List (List ℕ)) → All IsPlain left → left ≡ first ∷ rest → All IsPlain rest
plain_behind left first rest plain is =
    let all : All IsPlain (first ∷ rest) = subst (All IsPlain) is plain in
    λ k d within. all (suc k) d (omega (arith, within))

-- no word that names a table or a script begins with a hyphen
plain_of_left : (left : List (List ℕ)) (table : List ℕ) (form : Form) → All IsPlain left → AreLeft left table form → All IsPlain (table ∷ scripts_of form)
plain_of_left left table (Plain Check) plain is = plain_behind left _ _ plain is
plain_of_left left table (Plain (Run script)) plain is = plain_behind left _ _ plain is
plain_of_left left table (Plain (Judge scripts)) plain is = plain_behind left _ _ plain is.0
plain_of_left left table (Threads script workers) plain is = plain_behind left _ _ plain is

pub returns-clause-words : goal.returns-clause-words
returns-clause-words c =
    let left = map string_bytes c.in-Some.left.now in
    let table = c.in_ok-asked.asked.table.now in
    let form = c.in_ok-asked.asked.form in
    let is : AreLeft left table form = c.is_of.ensures c.if-not-is_of.false in
    let plain : All IsPlain left = All-map IsPlain string_bytes c.in-Some.left.now (c.are_plain.ensures c.if-not-are_plain.false) in
    (form_of_left _ left c.in-Some.workers table form c.in-Some.ensures c.in_ok-asked.ensures.workers is, plain_of_left left table form plain is)

pub returns-then-not-are_plain-clause-err : goal.returns-then-not-are_plain-clause-err
returns-then-not-are_plain-clause-err c = grind (arith, common_steps)
