-- Groups of cases, one behind another.
use Rattle.std.proofs.Common.{◌≡◌, ◌++◌, [], ◌∷◌, ℕ, List, Bool, true, false, Some, None, ◌&&◌, ◌==◌, if◌then◌else◌, refl, sym, ap, ◌∙◌, append_assoc, codes, ◌+◌, ◌<◌, ◌≤◌, drop, length, get_or}
use Rattle.std.specs.List.{filter_map, cons_option}
use Rattle.std.specs.Fmt.{decimal}
use Rattle.std.proofs.lemmas.List.{append-nil, drop_more, drop_all}
use Rattle.kr_model.specs.declared.FailedCase.{FailedCase}
use Rattle.kr_model.specs.declared.Rule.{Rule}
use Rattle.kr_model.specs.Words.{rule_code}
use Rattle.kr_explain_text.specs.Titles.{behind_commas, with_commas, count_of, group_of, group_behind, all_groups, counts_of}

-- the groups that are written from here on
abbrev pub groups_from : List FailedCase → Bool → List Rule → List ℕ
groups_from cases is_first [] = []
groups_from cases is_first (r ∷ rs) = group_behind is_first r (count_of cases r) ++ groups_from cases (is_first && (count_of cases r == 0)) rs

-- texts with commas between, or each behind a comma
abbrev pub texts_from : Bool → List (List ℕ) → List ℕ
texts_from true xs = with_commas xs
texts_from false xs = behind_commas xs

step : (is_first is_none : Bool) (r : Rule) (n : ℕ) (rest : Bool → List ℕ) (texts : List (List ℕ)) → ((b : Bool) → rest b ≡ texts_from b texts) → (if is_none then [] else if is_first then rule_code r ++ (codes ": " ++ decimal n) else codes ", " ++ (rule_code r ++ (codes ": " ++ decimal n))) ++ rest (is_first && is_none) ≡ texts_from is_first (cons_option (if is_none then None else Some (rule_code r ++ (codes ": " ++ decimal n))) texts)
step true true r n rest texts is = is true
step false true r n rest texts is = is false
step true false r n rest texts is = ap (λ (z : List ℕ). (rule_code r ++ (codes ": " ++ decimal n)) ++ z) (is false)
step false false r n rest texts is = ap (λ (z : List ℕ). (codes ", " ++ (rule_code r ++ (codes ": " ++ decimal n))) ++ z) (is false) ∙ append_assoc (codes ", ") (rule_code r ++ (codes ": " ++ decimal n)) (behind_commas texts)

-- they are the groups that have cases, with commas between
pub listed_groups : (cases : List FailedCase) (rs : List Rule) (is_first : Bool) → groups_from cases is_first rs ≡ texts_from is_first (filter_map (group_of cases) rs)
listed_groups cases [] true = refl
listed_groups cases [] false = refl
listed_groups cases (r ∷ rs) is_first = step is_first (count_of cases r == 0) r (count_of cases r) (λ b. groups_from cases b rs) (filter_map (group_of cases) rs) (λ b. listed_groups cases rs b)

abbrev written : List FailedCase → Bool → Rule → List Rule → ℕ → List ℕ
written cases is_first r rs n = group_behind is_first r n ++ groups_from cases (is_first && (n == 0)) rs

-- one group more is written
pub group_more : (cases : List FailedCase) (rs : List Rule) (i : ℕ) (d : Rule) (is_first still : Bool) (n : ℕ) (out group new all : List ℕ) → i < length rs → n ≡ count_of cases (get_or rs i d) → group ≡ group_behind is_first (get_or rs i d) n → still ≡ (is_first && (n == 0)) → new ≡ out ++ group → out ++ groups_from cases is_first (drop i rs) ≡ all → new ++ groups_from cases still (drop (i + 1) rs) ≡ all
group_more cases rs i d is_first still n out group new all l counted is_group is_still is_new e =
    let rest = drop (i + 1) rs in
    let r = get_or rs i d in
    let opened : groups_from cases is_first (drop i rs) ≡ written cases is_first r rest n = ap (groups_from cases is_first) (drop_more rs i d l) ∙ ap (written cases is_first r rest) (sym counted) in
    let same : written cases is_first r rest n ≡ group ++ groups_from cases still rest = ap (λ (z : List ℕ). z ++ groups_from cases (is_first && (n == 0)) rest) (sym is_group) ∙ ap (λ b. group ++ groups_from cases b rest) (sym is_still) in
    ap (λ (z : List ℕ). z ++ groups_from cases still rest) is_new ∙ append_assoc out group (groups_from cases still rest) ∙ ap (λ (z : List ℕ). out ++ z) (sym same) ∙ ap (λ (z : List ℕ). out ++ z) (sym opened) ∙ e

-- what is written of all groups
pub all_counted : (cases : List FailedCase) (is_first : Bool) (i : ℕ) (out : List ℕ) → length all_groups ≤ i → out ++ groups_from cases is_first (drop i all_groups) ≡ groups_from cases true all_groups → out ≡ counts_of cases
unfolding counts_of
all_counted cases is_first i out l e =
    sym (append-nil out) ∙ ap (λ rs. out ++ groups_from cases is_first rs) (sym (drop_all i all_groups l)) ∙ e ∙ listed_groups cases all_groups true
