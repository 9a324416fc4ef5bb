-- What helps is whole lines.
use Rattle.std.proofs.Common.{◌≡◌, ◌∷◌, ◌++◌, ℕ, List, [], refl, sym, ap, ◌∙◌, inl, inr, append-nil, append_assoc, Global}
use Rattle.std.specs.Prelude.{String, Result, Ok, Err, IfOk, OnErr, string_bytes}
use Rattle.std.proofs.lemmas.List.Concat.{flat_map-append}
use Rattle.kr_cli_diagnosis.specs.Lines.{line, lines}
use Rattle.kr_cli_diagnosis.specs.Help.{IsHelp, AreThreeHelps, of_file}
use Rattle.kr_cli_diagnosis.specs.Finding.{MayBePut, AddsHelp, AddsHelps, AreLines, AddsLines}

-- what helps, put behind what was there or not
put_help : (word bytes old new text : List ℕ) → IsHelp word bytes text → MayBePut old new text → AddsHelp word old new
put_help word bytes old new text help (inl is) = (bytes, text, (help, is))
put_help word bytes old new text help (inr is) = (bytes, [], (inl refl, is ∙ sym (append-nil old)))

-- what helps was put behind what was there, if it was made
pub adds_help : {E : Type 0} (word bytes old new : List ℕ) (more : Result (String Global) E) → IfOk more (λ t. IsHelp word bytes (string_bytes t)) → IfOk more (λ t. MayBePut old new (string_bytes t)) → OnErr more (new ≡ old) → AddsHelp word old new
adds_help word bytes old new (Ok t) help is same = put_help word bytes old new (string_bytes t) help is
adds_help word bytes old new (Err e) help is same = (bytes, [], (inl refl, same ∙ sym (append-nil old)))

put_three : (word bytes old new text : List ℕ) → AreThreeHelps word bytes text → MayBePut old new text → AddsHelps word old new
put_three word bytes old new text three (inl is) = (bytes, text, (inr three, is))
put_three word bytes old new text three (inr is) = (bytes, [], (inl (inl refl), is ∙ sym (append-nil old)))

-- warnings were put behind what was there, if they were made
pub adds_warnings : {E : Type 0} (word bytes old new : List ℕ) (more : Result (String Global) E) → IfOk more (λ t. AreThreeHelps word bytes (string_bytes t)) → IfOk more (λ t. MayBePut old new (string_bytes t)) → OnErr more (new ≡ old) → AddsHelps word old new
adds_warnings word bytes old new (Ok t) three is same = put_three word bytes old new (string_bytes t) three is
adds_warnings word bytes old new (Err e) three is same = (bytes, [], (inl (inl refl), same ∙ sym (append-nil old)))

-- where what helps says nothing, nothing is put behind what was there
pub nothing_put : {E : Type 0} (old new : List ℕ) (more : Result (String Global) E) → IfOk more (λ t. string_bytes t ≡ []) → IfOk more (λ t. MayBePut old new (string_bytes t)) → OnErr more (new ≡ old) → new ≡ old
nothing_put old new (Ok t) none (inl is) same = is ∙ (ap (λ x. old ++ x) none ∙ append-nil old)
nothing_put old new (Ok t) none (inr is) same = is
nothing_put old new (Err e) none is same = same

-- lines behind lines are lines
both : (a b : List ℕ) → AreLines a → AreLines b → AreLines (a ++ b)
both a b (xs, is_a) (ys, is_b) = (xs ++ ys, ap (λ x. x ++ b) is_a ∙ (ap (λ y. lines xs ++ y) is_b ∙ sym (flat_map-append line xs ys)))

help_lines : (word bytes text : List ℕ) → IsHelp word bytes text → AreLines text
help_lines word bytes text (inl none) = ([], none)
help_lines word bytes text (inr (inl (what, (hints, is)))) = (of_file word what ∷ hints, is)
help_lines word bytes text (inr (inr (what, (told, (hints, (placed, is)))))) = (told ++ hints, is)

three_lines : (word bytes text : List ℕ) → AreThreeHelps word bytes text → AreLines text
three_lines word bytes text (a, (is_a, (b, (is_b, (c, (is_c, is)))))) =
    let all = both a (b ++ c) (help_lines word bytes a is_a) (both b c (help_lines word bytes b is_b) (help_lines word bytes c is_c)) in
    (all.0, is ∙ all.1)

pub adds_lines : (word old new : List ℕ) → AddsHelp word old new → AddsLines old new
adds_lines word old new (bytes, text, (help, is)) = (text, (help_lines word bytes text help, is))

pub helps_lines : (word old new : List ℕ) → AddsHelps word old new → AddsLines old new
helps_lines word old new (bytes, text, (inl help, is)) = (text, (help_lines word bytes text help, is))
helps_lines word old new (bytes, text, (inr three, is)) = (text, (three_lines word bytes text three, is))

-- where nothing was put behind
pub no_help : (word old new : List ℕ) → new ≡ old → AddsHelp word old new
no_help word old new same = ([], [], (inl refl, same ∙ sym (append-nil old)))

-- helps that are also one of the others
pub one_help : (word old new : List ℕ) → AddsHelp word old new → AddsHelps word old new
one_help word old new (bytes, text, (help, is)) = (bytes, text, (inl help, is))

-- all that stands behind nothing
pub all_lines : (old new : List ℕ) → old ≡ [] → AddsLines old new → AreLines new
all_lines old new none (text, (are, is)) = (are.0, is ∙ (ap (λ x. x ++ text) none ∙ are.1))
