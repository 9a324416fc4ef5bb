-- What a text of a page reads as where more is written behind it.
use Rattle.std.specs.Prelude.{ℕ, List, [], ◌∷◌, ◌++◌, Bool, true, false, ◌==◌, Option, Some, None, option_map, if◌then◌else◌, Result, Ok, Err, OnOk, is_ok, refl, ◌≡◌, ◌≢◌}
use Rattle.std.proofs.Common.{sym, ap, subst, arith, ◌∙◌}
use Rattle.std.proofs.lemmas.List.{append-nil}
use Rattle.std.proofs.Math.Utf8.{encode}
use Rattle.std.proofs.lemmas.Str.{chars-append, chars_past_char, chars-nil, IsUtf8-encode}
use Rattle.std.proofs.lemmas.Bool.Decides.{nat_tests}
use Rattle.std.specs.Char.{IsScalar}
use Rattle.std.specs.Str.{IsUtf8, chars}
use Rattle.kr_view_scenes.specs.Escape.{is_mark, character_of, before_text, read, unescaped}

step_outside : (begins mark : Bool) (c : ℕ) (inside outside inside_more outside_more : Option (List ℕ)) (t u : List ℕ) → ((s : List ℕ) → inside ≡ Some s → inside_more ≡ Some (s ++ u)) → ((s : List ℕ) → outside ≡ Some s → outside_more ≡ Some (s ++ u)) → (if begins then inside else if mark then None else option_map (λ s. c ∷ s) outside) ≡ Some t → (if begins then inside_more else if mark then None else option_map (λ s. c ∷ s) outside_more) ≡ Some (t ++ u)
step_outside true mark c inside outside inside_more outside_more t u more_in more_out e = more_in t e
step_outside false true c inside outside inside_more outside_more t u more_in more_out e = absurd (cc)
step_outside false false c inside None inside_more outside_more t u more_in more_out e = absurd (cc)
step_outside false false c inside (Some s) inside_more outside_more t u more_in more_out e =
    let whole : Some (c ∷ (s ++ u)) ≡ Some (t ++ u) = ap (option_map (λ (x : List ℕ). x ++ u)) e in
    let P : Option (List ℕ) → Type 0 = λ o. option_map (λ x. c ∷ x) o ≡ Some (t ++ u) in
    subst P (sym (more_out s refl)) whole

step_inside : (ends : Bool) (named : Option ℕ) (inside outside inside_more outside_more : Option (List ℕ)) (t u : List ℕ) → ((s : List ℕ) → inside ≡ Some s → inside_more ≡ Some (s ++ u)) → ((s : List ℕ) → outside ≡ Some s → outside_more ≡ Some (s ++ u)) → (if ends then before_text named outside else inside) ≡ Some t → (if ends then before_text named outside_more else inside_more) ≡ Some (t ++ u)
step_inside false named inside outside inside_more outside_more t u more_in more_out e = more_in t e
step_inside true None inside outside inside_more outside_more t u more_in more_out e = absurd (cc)
step_inside true (Some c) inside None inside_more outside_more t u more_in more_out e = absurd (cc)
step_inside true (Some c) inside (Some s) inside_more outside_more t u more_in more_out e =
    let whole : Some (c ∷ (s ++ u)) ≡ Some (t ++ u) = ap (option_map (λ (x : List ℕ). x ++ u)) e in
    let P : Option (List ℕ) → Type 0 = λ o. option_map (λ x. c ∷ x) o ≡ Some (t ++ u) in
    subst P (sym (more_out s refl)) whole

-- what reads as one text before what reads as another reads as both
pub read_append : (name : Option (List ℕ)) (a b t u : List ℕ) → read name a ≡ Some t → read None b ≡ Some u → read name (a ++ b) ≡ Some (t ++ u)
read_append None [] b t u e f =
    let whole : Some u ≡ Some (t ++ u) = ap (option_map (λ (x : List ℕ). x ++ u)) e in cc
read_append (Some name) [] b t u e f = absurd (cc)
read_append None (c ∷ cs) b t u e f =
    step_outside (c == 38) (is_mark c) c (read (Some []) cs) (read None cs) (read (Some []) (cs ++ b)) (read None (cs ++ b)) t u (λ s g. read_append (Some []) cs b s u g f) (λ s g. read_append None cs b s u g f) e
read_append (Some name) (c ∷ cs) b t u e f =
    step_inside (c == 59) (character_of name) (read (Some (name ++ c ∷ [])) cs) (read None cs) (read (Some (name ++ c ∷ [])) (cs ++ b)) (read None (cs ++ b)) t u (λ s g. read_append (Some (name ++ c ∷ [])) cs b s u g f) (λ s g. read_append None cs b s u g f) e

-- a piece that reads as a character, behind a text of a page
pub pushed : {A E : Type 0} (r : Result A E) (page piece new : List ℕ) (c : ℕ) → IsUtf8 page → unescaped (chars piece) ≡ Some (c ∷ []) → new ≡ (if is_ok r then page ++ piece else page) → OnOk r ((text : List ℕ) → unescaped (chars page) ≡ Some text → unescaped (chars new) ≡ Some (text ++ c ∷ []))
pushed (Err e) page piece new c utf8 one is_new = tt
pushed (Ok a) page piece new c utf8 one is_new = λ text so_far.
    let P : List ℕ → Type 0 = λ bs. unescaped (chars bs) ≡ Some (text ++ c ∷ []) in
    let Q : List ℕ → Type 0 = λ cs. unescaped cs ≡ Some (text ++ c ∷ []) in
    subst P (sym is_new) (subst Q (sym (chars-append page piece utf8)) (read_append None (chars page) (chars piece) text (c ∷ []) so_far one))

-- where neither an entity begins nor a mark is, a character reads as itself
reads_itself : (begins mark : Bool) (c : ℕ) → begins ≡ false → mark ≡ false → (if begins then read (Some []) [] else if mark then None else option_map (λ t. c ∷ t) (read None [])) ≡ Some (c ∷ [])
reads_itself false false c e f = refl
reads_itself true mark c e f = absurd (cc)
reads_itself false true c e f = absurd (cc)

isnt_mark : (c : ℕ) → c ≢ 60 → c ≢ 62 → c ≢ 34 → c ≢ 39 → is_mark c ≡ false
isnt_mark c lt gt quot apos = grind (arith, nat_tests)

doesnt_begin : (c : ℕ) → c ≢ 38 → (c == 38) ≡ false
doesnt_begin c amp = grind (arith, nat_tests)

-- a character that is none of the five reads as itself
pub plain : (c : ℕ) → IsScalar c → c ≢ 60 → c ≢ 62 → c ≢ 38 → c ≢ 34 → c ≢ 39 → unescaped (chars (encode c)) ≡ Some (c ∷ [])
plain c scalar lt gt amp quot apos =
    let alone : chars (encode c) ≡ c ∷ [] = chars_past_char (encode c) [] c (IsUtf8-encode c scalar) (sym (append-nil (encode c))) ∙ ap (λ cs. c ∷ cs) chars-nil in
    let P : List ℕ → Type 0 = λ cs. unescaped cs ≡ Some (c ∷ []) in
    subst P (sym alone) (reads_itself (c == 38) (is_mark c) c (doesnt_begin c amp) (isnt_mark c lt gt quot apos))
