-- The heirs that are written at `purge` are read back.
use Rattle.std.proofs.Common.{◌≡◌, ◌==◌, ℕ, zero, suc, ◌+◌, ◌&&◌, List, [], ◌∷◌, length, map, Bool, true, false, Option, Some, None, nat_lt, nat_le, refl, ap, ◌∙◌, arith, codes, if◌then◌else◌}
use Rattle.std.specs.Prelude.{bytes_eq}
use Rattle.std.specs.List.{list_all}
use Rattle.std.proofs.lemmas.Bool.{and_parts, and_from, or_right}
use Rattle.std.proofs.lemmas.Bool.Decides.{nat_tests}
use Rattle.toml.specs.Data.{Data, string, table, Members, no_members, member, get_member, as_str}
use Rattle.kr_model.specs.ModeNames.{name_of}
use Rattle.kr_table.specs.DocumentFaults.{is_mode, is_own_text}
use Rattle.kr_table.specs.Tables.{in_range}
use Rattle.kr_table.specs.Reading.{number, number_from, text_of}
use Rattle.kr_table.specs.Writing.{put, with_pairs}
use Rattle.kr_table.proofs.Puts.{get_put, get_put_other}
use Rattle.kr_table.proofs.ReadBack.{Apart, Distinct, Within, not_same, number_name, mode_name_of, within_itself, two_parts}
use Rattle.kr_ghost_table.specs.DocumentFaults.{entry_faults, missing_faults, heir_faults}
use Rattle.kr_ghost_table.specs.Tables.{is_heir, are_heirs}
use Rattle.kr_ghost_table.specs.Reading.{heir, heirs}
use Rattle.kr_ghost_table.specs.Writing.{purge_of}
use Rattle.kr_ghost_table.proofs.EveryMember.{EachMember, each_put}

-- the name of an heir, or `none` --

number_step : (b : Bool) (i r : ℕ) → b ≡ false → (if b then i else r) ≡ r
number_step true i r h = cc
number_step false i r h = refl

-- a text that is the name of no mode reads as 0
unnumbered : (i : ℕ) (names : List (List ℕ)) (n : List ℕ) → Apart n names → number_from i names n ≡ 0
unnumbered i [] n a = refl
unnumbered i (m ∷ ms) n a = number_step (bytes_eq m n) i (number_from (i + 1) ms n) (not_same n m a.0) ∙ unnumbered (i + 1) ms n a.1

mode_from : (m c : ℕ) → is_heir m (suc c) ≡ true → in_range m (suc c) ≡ true
mode_from m c h =
    let some : nat_lt 0 (suc c) ≡ true = grind (arith, nat_tests) in
    and_from (nat_lt 0 (suc c)) (nat_le (suc c) m) some h

-- it is read as the heir
heir_number : (names : List (List ℕ)) (c : ℕ) → Distinct names → Apart (codes "none") names → is_heir (length names) c ≡ true → number names (name_of names c) ≡ c
heir_number names zero d a h = unnumbered 1 names (codes "none") a
heir_number names (suc c) d a h = number_name names (suc c) d (mode_from (length names) c h)

-- it may stand at `purge`
heir_named : (names : List (List ℕ)) (c : ℕ) → is_heir (length names) c ≡ true → is_own_text names (Some (name_of names c)) ≡ true
heir_named names zero h = refl
heir_named names (suc c) h = or_right (bytes_eq (name_of names (suc c)) (codes "none")) (is_mode names (name_of names (suc c))) (mode_name_of names (suc c) (mode_from (length names) c h))

-- the entries --

-- what holds of a text at the name of a mode, where the text is that of an heir
abbrev pub HoldsOfHeirs : List (List ℕ) → (List ℕ → Data → Type 0) → Type 0
HoldsOfHeirs names P = (q : List ℕ) (c : ℕ) → is_mode names q ≡ true → is_heir (length names) c ≡ true → P q (string (name_of names c))

each_pair : (P : List ℕ → Data → Type 0) (names qs : List (List ℕ)) (cs : List ℕ) (ms : Members) → HoldsOfHeirs names P → Within names qs → list_all (is_heir (length names)) cs ≡ true
    → EachMember P ms → EachMember P (with_pairs names qs cs ms)
each_pair P names [] cs ms h w r e = e
each_pair P names (q ∷ qs) [] ms h w r e = e
each_pair P names (q ∷ qs) (c ∷ cs) ms h w r e =
    let p = and_parts (is_heir (length names) c) (list_all (is_heir (length names)) cs) r in
    each_pair P names qs cs (put q (string (name_of names c)) ms) h w.1 p.1 (each_put P q (string (name_of names c)) ms (h q c w.0 p.0) e)

-- it holds of each entry
pub each_heir : (P : List ℕ → Data → Type 0) (names : List (List ℕ)) (hs : List ℕ) → HoldsOfHeirs names P → are_heirs (length names) (Some hs) ≡ true → EachMember P (with_pairs names names hs no_members)
each_heir P names hs h sound =
    each_pair P names names hs no_members h (within_itself names) (and_parts (length hs == length names) (list_all (is_heir (length names)) hs) sound).1 tt

-- at the name of a mode, and that of a mode or `none`
abbrev IsEntry : List (List ℕ) → List ℕ → Data → Type 0
IsEntry names k d = (is_mode names k && is_own_text names (as_str d)) ≡ true

entry_named : (names : List (List ℕ)) → HoldsOfHeirs names (IsEntry names)
entry_named names q c m h = and_from (is_mode names q) (is_own_text names (Some (name_of names c))) m (heir_named names c h)

no_entry_fault : (names : List (List ℕ)) (ms : Members) → EachMember (IsEntry names) ms → entry_faults names ms ≡ []
no_entry_fault names no_members e = refl
no_entry_fault names (member k d ms) e = rw (e.0, no_entry_fault names ms e.1)

-- what stands at the name of a mode
pairs_other : (names qs : List (List ℕ)) (cs : List ℕ) (ms : Members) (q : List ℕ) → Apart q qs → get_member q (with_pairs names qs cs ms) ≡ get_member q ms
pairs_other names [] cs ms q a = refl
pairs_other names (k ∷ qs) [] ms q a = refl
pairs_other names (k ∷ qs) (c ∷ cs) ms q a =
    pairs_other names qs cs (put k (string (name_of names c)) ms) q a.1 ∙ get_put_other q k (string (name_of names c)) ms a.0

pair_found : (names qs : List (List ℕ)) (c : ℕ) (cs : List ℕ) (ms : Members) (q : List ℕ) → Apart q qs → get_member q (with_pairs names (q ∷ qs) (c ∷ cs) ms) ≡ Some (string (name_of names c))
pair_found names qs c cs ms q a = pairs_other names qs cs (put q (string (name_of names c)) ms) q a ∙ get_put q (string (name_of names c)) ms

-- each mode has an entry
none_missing : (names qs : List (List ℕ)) (cs : List ℕ) (ms : Members) → Distinct qs → length cs ≡ length qs → missing_faults qs (table (with_pairs names qs cs ms)) ≡ []
none_missing names [] cs ms d l = refl
none_missing names (q ∷ qs) [] ms d l = absurd (omega arith)
none_missing names (q ∷ qs) (c ∷ cs) ms d l =
    rw (pair_found names qs c cs ms q d.0, none_missing names qs cs (put q (string (name_of names c)) ms) d.1 (omega arith))

-- each entry reads as the heir
pairs_back : (names qs : List (List ℕ)) (cs : List ℕ) (ms : Members) → Distinct names → Apart (codes "none") names → Distinct qs → length cs ≡ length qs → list_all (is_heir (length names)) cs ≡ true
    → map (heir names (table (with_pairs names qs cs ms))) qs ≡ cs
pairs_back names [] [] ms d a e l r = refl
pairs_back names [] (c ∷ cs) ms d a e l r = absurd (omega arith)
pairs_back names (q ∷ qs) [] ms d a e l r = absurd (omega arith)
pairs_back names (q ∷ qs) (c ∷ cs) ms d a e l r =
    let p = and_parts (is_heir (length names) c) (list_all (is_heir (length names)) cs) r in
    let all = table (with_pairs names (q ∷ qs) (c ∷ cs) ms) in
    let here = ap (λ o. number names (text_of o)) (pair_found names qs c cs ms q e.0) ∙ heir_number names c d a p.0 in
    let more = pairs_back names qs cs (put q (string (name_of names c)) ms) d a e.1 (omega arith) p.1 in
    two_parts (heir names all q ∷ []) (map (heir names all) qs) (c ∷ []) cs (ap (λ n. n ∷ []) here) more

-- the whole member --

as_many : (n m : ℕ) → (n == m) ≡ true → n ≡ m
as_many n m h = grind (arith, nat_tests)

-- what stands at `purge` has no faults
pub purge_good : (names : List (List ℕ)) (o : Option (List ℕ)) → Distinct names → are_heirs (length names) o ≡ true → heir_faults names (purge_of names o) ≡ []
purge_good names None d sound = refl
purge_good names (Some hs) d sound =
    let p = and_parts (length hs == length names) (list_all (is_heir (length names)) hs) sound in
    let entries = no_entry_fault names (with_pairs names names hs no_members) (each_heir (IsEntry names) names hs (entry_named names) sound) in
    two_parts (entry_faults names (with_pairs names names hs no_members)) (missing_faults names (table (with_pairs names names hs no_members))) [] [] entries
    (none_missing names names hs no_members d (as_many (length hs) (length names) p.0))

-- it reads as the heirs
pub purge_back : (names : List (List ℕ)) (o : Option (List ℕ)) → Distinct names → Apart (codes "none") names → are_heirs (length names) o ≡ true → heirs names (purge_of names o) ≡ o
purge_back names None d a sound = refl
purge_back names (Some hs) d a sound =
    let p = and_parts (length hs == length names) (list_all (is_heir (length names)) hs) sound in
    ap (λ l. Some l) (pairs_back names names hs no_members d a d (as_many (length hs) (length names) p.0) p.1)
