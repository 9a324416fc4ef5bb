-- Worked examples of the case checker: tables that fail some cases, and what fails.
use Rattle.std.specs.Prelude.{◌≡◌, ℕ, true, false, List, [], ◌∷◌, Option, Some, None, length, map, filter, refl, slice_get, ◌==◌, if◌then◌else◌}
use Rattle.std.proofs.Common.{◌∙◌, ap}
use Rattle.kr_model.specs.Protocol.{Protocol}
use Rattle.kr_model.specs.Words.{rule_number}
use Rattle.kr_model.specs.Covers.{Ask, requester, cases, failed_cases, serves, modes, all_rules, all_covers, case_count, IsCovered}
use Rattle.kr_model.specs.declared.Row.{Row}
use Rattle.kr_model.specs.declared.Row.TheVariants as row
use Rattle.kr_model.specs.declared.Side.{Side}
use Rattle.kr_model.specs.declared.Side.TheVariants.{Current, Next}
use Rattle.kr_model.specs.declared.Span.{Span}
use Rattle.kr_model.specs.declared.Rule.{Rule}
use Rattle.kr_model.specs.declared.Rule.TheVariants as rule
use Rattle.kr_model.specs.declared.Cover.{Cover}
use Rattle.kr_model.specs.declared.Cover.TheVariants.{ReadKey, ReadGap, InsertedKey, DeletedGap, UpdatedKey}
use Rattle.kr_model.specs.declared.Origin.{Origin}
use Rattle.kr_model.specs.declared.Origin.TheVariants as origin
use Rattle.kr_model.specs.declared.FailedCase.{FailedCase}
use Rattle.kr_model.specs.Matrices.{ok_by, convert_by, for_commit, at_once}
use Rattle.kr_model.specs.Kvl.{kvl, kvl_ask, IS, IX, S, X}
use Rattle.kr_model.specs.KvlUpdate.{kvl_update, kvl_update_ask}
use Rattle.kr_model.specs.Im as im
use Rattle.kr_model.specs.RangeKey.{range_key, range_key_ask}
use Rattle.kr_model.proofs.CaseCount.{length-cases}

-- How a result is shown --

-- A failed case: its rule and cover, what it is taken at, the mode that doesn't serve the cover, and the first requester that is open.
abbrev pub failed : Rule → Cover → Origin → ℕ → Ask → ℕ → ℕ → FailedCase
failed r c from mode ask own own_next = record { case = r; cover = c; from = from; mode = mode; hole = requester ask own own_next }

-- The first failed case.
abbrev pub first_failed : Protocol → Option FailedCase
first_failed p = slice_get (failed_cases p) 0

-- The place of a cover in the order of the checker, from 1.
abbrev pub cover_number : Cover → ℕ
cover_number ReadKey = 1
cover_number ReadGap = 2
cover_number InsertedKey = 3
cover_number DeletedGap = 4
cover_number UpdatedKey = 5

-- How many cases fail of each of the rules, in order.
abbrev pub failed_by_rule : Protocol → List ℕ
failed_by_rule p =
    let fs = failed_cases p in
    map (λ r. length (filter (λ f. rule_number f.case == rule_number r) fs)) (all_rules p)

-- How many cases fail with each of the covers, in order.
abbrev pub failed_by_cover : Protocol → List ℕ
failed_by_cover p =
    let fs = failed_cases p in
    map (λ c. length (filter (λ f. cover_number f.cover == cover_number c) fs)) (all_covers p)

-- The number of cases --

-- The number of cases for 2, 5, 11 and 15 modes, without updates.
pub numbers_of_cases : map (λ m. case_count m false) (2 ∷ 5 ∷ 11 ∷ 15 ∷ []) ≡ 61 ∷ 244 ∷ 988 ∷ 1764 ∷ []
numbers_of_cases = refl

-- The same with updates.
pub numbers_of_cases-updates : map (λ m. case_count m true) (2 ∷ 5 ∷ 11 ∷ 15 ∷ []) ≡ 68 ∷ 275 ∷ 1121 ∷ 2005 ∷ []
numbers_of_cases-updates = refl

-- A table of 15 modes without updates has 1764 cases.
pub cases_of_fifteen : (p : Protocol) → p.count ≡ 15 → p.updates ≡ false → length (cases p) ≡ 1764
cases_of_fifteen p e none = length-cases p ∙ ap (λ m. case_count m p.updates) e ∙ ap (λ b. case_count 15 b) none

-- Insert always IX: key-value locking whose insert takes IX on its key whatever it holds on the next name --

-- What that table requests.
abbrev pub insert_always_ix_ask : Row → Side → ℕ → Option (ℕ × Span)
insert_always_ix_ask row.Insert Current own = for_commit IX
insert_always_ix_ask r s own = kvl_ask r s own

-- That table.
abbrev pub insert_always_ix : Protocol
insert_always_ix = record kvl { ask = insert_always_ix_ask }

-- Insert always IX: 15 cases fail.
pub insert_always_ix-failed : length (failed_cases insert_always_ix) ≡ 15
insert_always_ix-failed = refl

-- Insert always IX: all of them are splits of a gap.
pub insert_always_ix-rules : failed_by_rule insert_always_ix ≡ 0 ∷ 0 ∷ 0 ∷ 0 ∷ 0 ∷ 0 ∷ 15 ∷ 0 ∷ []
insert_always_ix-rules = refl

-- Insert always IX: 9 of a gap that was read, and 6 of one in which the transaction deleted a key.
pub insert_always_ix-covers : failed_by_cover insert_always_ix ≡ 0 ∷ 9 ∷ 0 ∷ 6 ∷ []
insert_always_ix-covers = refl

-- Insert always IX: the first failed case.
pub insert_always_ix-first : first_failed insert_always_ix ≡ Some (failed rule.Split ReadGap (origin.Insert S 0) IX (row.Insert, Next) 0 0)
insert_always_ix-first = refl

-- Insert N-X: range-key locking whose insert takes N-X in place of I-X on its key --

-- A request for I-X, narrowed to N-X.
abbrev pub narrowed : Option (ℕ × Span) → Option (ℕ × Span)
narrowed None = None
narrowed (Some (m, s)) = Some (if m == 8 then 2 else m, s)

-- What that table requests.
abbrev pub insert_n_x_ask : Row → Side → ℕ → Option (ℕ × Span)
insert_n_x_ask row.Insert Current own = narrowed (range_key_ask row.Insert Current own)
insert_n_x_ask r s own = range_key_ask r s own

-- That table.
abbrev pub insert_n_x : Protocol
insert_n_x = record range_key { ask = insert_n_x_ask }

-- Insert N-X: 36 cases fail.
pub insert_n_x-failed : length (failed_cases insert_n_x) ≡ 36
insert_n_x-failed = refl

-- Insert N-X: all of them are inserts.
pub insert_n_x-rules : failed_by_rule insert_n_x ≡ 0 ∷ 0 ∷ 0 ∷ 0 ∷ 0 ∷ 36 ∷ 0 ∷ 0 ∷ []
insert_n_x-rules = refl

-- Insert N-X: the first failed case; N-X is mode 2.
pub insert_n_x-first : first_failed insert_n_x ≡ Some (failed rule.Insert InsertedKey (origin.Insert 0 0) 2 (row.FetchMiss, Next) 0 0)
insert_n_x-first = refl

-- Delete's next instant: key-value locking whose delete doesn't keep its lock on the next name --

-- What that table requests.
abbrev pub deletes_next_instant_ask : Row → Side → ℕ → Option (ℕ × Span)
deletes_next_instant_ask row.Delete Next own = at_once X
deletes_next_instant_ask r s own = kvl_ask r s own

-- That table.
abbrev pub deletes_next_instant : Protocol
deletes_next_instant = record kvl { ask = deletes_next_instant_ask }

-- Delete's next instant: all failed cases.
pub deletes_next_instant-failed : failed_cases deletes_next_instant
    ≡ failed rule.Delete DeletedGap (origin.Own 0) 0 (row.FetchMiss, Next) 0 0
    ∷ failed rule.Delete DeletedGap (origin.Own IS) IS (row.FetchMiss, Next) 0 0
    ∷ failed rule.Delete DeletedGap (origin.Own IX) IX (row.Insert, Next) 0 0
    ∷ failed rule.Delete DeletedGap (origin.Own S) S (row.FetchMiss, Next) 0 0
    ∷ []
deletes_next_instant-failed = refl

-- Delete without current: key-value locking whose delete requests nothing on its key --

-- What that table requests.
abbrev pub delete_without_current_ask : Row → Side → ℕ → Option (ℕ × Span)
delete_without_current_ask row.Delete Current own = None
delete_without_current_ask r s own = kvl_ask r s own

-- That table.
abbrev pub delete_without_current : Protocol
delete_without_current = record kvl { ask = delete_without_current_ask }

-- Delete without current: 72 cases fail.
pub delete_without_current-failed : length (failed_cases delete_without_current) ≡ 72
delete_without_current-failed = refl

-- Delete without current: how many of each rule.
pub delete_without_current-rules : failed_by_rule delete_without_current ≡ 0 ∷ 6 ∷ 6 ∷ 12 ∷ 6 ∷ 36 ∷ 0 ∷ 6 ∷ []
delete_without_current-rules = refl

-- Delete without current: no mode serves any cover.
pub delete_without_current-serves : map (λ c. filter (serves delete_without_current c) (modes delete_without_current)) (all_covers delete_without_current) ≡ [] ∷ [] ∷ [] ∷ [] ∷ []
delete_without_current-serves = refl

-- Delete without current: the first failed case.
pub delete_without_current-first : first_failed delete_without_current ≡ Some (failed rule.FetchHit ReadKey (origin.Own 0) S (row.Delete, Current) 0 0)
delete_without_current-first = refl

-- Update under IX: key-value locking with updates, whose update takes IX on its key --

-- What that table requests.
abbrev pub update_under_ix_ask : Row → Side → ℕ → Option (ℕ × Span)
update_under_ix_ask row.Update Current own = for_commit IX
update_under_ix_ask r s own = kvl_update_ask r s own

-- That table.
abbrev pub update_under_ix : Protocol
update_under_ix = record kvl_update { ask = update_under_ix_ask }

-- Update under IX: 12 cases fail.
pub update_under_ix-failed : length (failed_cases update_under_ix) ≡ 12
update_under_ix-failed = refl

-- Update under IX: 9 of them are inserts, and the 3 others are updates.
pub update_under_ix-rules : failed_by_rule update_under_ix ≡ 0 ∷ 0 ∷ 0 ∷ 0 ∷ 0 ∷ 9 ∷ 0 ∷ 0 ∷ 3 ∷ []
update_under_ix-rules = refl

-- Update under IX: the first failed case.
pub update_under_ix-first : first_failed update_under_ix ≡ Some (failed rule.Insert InsertedKey (origin.Insert 0 0) IX (row.Update, Current) 0 0)
update_under_ix-first = refl

-- An update that isn't kept: index-specific locking with updates, whose update doesn't keep its lock --

-- What that table requests.
abbrev pub update_at_once_ask : Row → Side → ℕ → Option (ℕ × Span)
update_at_once_ask row.Update Current own = at_once im.X
update_at_once_ask r s own = im.im_ask r s own

-- That table.
abbrev pub update_at_once : Protocol
update_at_once = record im.im { ask = update_at_once_ask; updates = true }

-- An update that isn't kept: 68 cases.
pub update_at_once-cases : length (cases update_at_once) ≡ 68
update_at_once-cases = refl

-- An update that isn't kept: the two cases that fail, both of them updates.
pub update_at_once-failed : failed_cases update_at_once
    ≡ failed rule.Update UpdatedKey (origin.Own 0) 0 (row.FetchHit, Current) 0 0
    ∷ failed rule.Update UpdatedKey (origin.Own im.S) im.S (row.FetchHit, Current) 0 0
    ∷ []
update_at_once-failed = refl

-- Tables of one mode, which is compatible with none --

-- A table of one mode with these requests.
abbrev pub one_mode_with : (Row → Side → ℕ → Option (ℕ × Span)) → Protocol
one_mode_with ask = record { count = 1; ok = ok_by ([] ∷ []); convert = convert_by ((1 ∷ []) ∷ []); ask = ask; updates = false }

-- The table that asks nothing.
abbrev pub asks_nothing : Protocol
asks_nothing = one_mode_with (λ row side own. None)

-- The table that asks nothing has 28 cases.
pub asks_nothing-cases : length (cases asks_nothing) ≡ 28
asks_nothing-cases = refl

-- The table that asks nothing: 16 cases fail.
pub asks_nothing-failed : length (failed_cases asks_nothing) ≡ 16
asks_nothing-failed = refl

-- The table that asks nothing: how many of each rule.
pub asks_nothing-rules : failed_by_rule asks_nothing ≡ 0 ∷ 2 ∷ 2 ∷ 4 ∷ 2 ∷ 4 ∷ 0 ∷ 2 ∷ []
asks_nothing-rules = refl

-- The table that asks nothing: the first failed case.
pub asks_nothing-first : first_failed asks_nothing ≡ Some (failed rule.FetchHit ReadKey (origin.Own 0) 0 (row.Delete, Current) 0 0)
asks_nothing-first = refl

-- What the one-mode table requests: its mode on every side of every row, at once for insert next and delete current.
abbrev pub one_mode_ask : Row → Side → ℕ → Option (ℕ × Span)
one_mode_ask row.FetchHit Current own = for_commit 1
one_mode_ask row.FetchMiss Next own = for_commit 1
one_mode_ask row.ScanKey Current own = for_commit 1
one_mode_ask row.ScanStop Next own = for_commit 1
one_mode_ask row.Insert Current own = for_commit 1
one_mode_ask row.Insert Next own = at_once 1
one_mode_ask row.Delete Current own = at_once 1
one_mode_ask row.Delete Next own = for_commit 1
one_mode_ask row.FetchHit Next own = None
one_mode_ask row.FetchMiss Current own = None
one_mode_ask row.ScanKey Next own = None
one_mode_ask row.ScanStop Current own = None
one_mode_ask row.Update side own = None

-- The one-mode table.
abbrev pub one_mode : Protocol
one_mode = one_mode_with one_mode_ask

-- The one-mode table has 28 cases.
pub one_mode-cases : length (cases one_mode) ≡ 28
one_mode-cases = refl

-- The one-mode table is covered.
pub one_mode-covered : IsCovered one_mode
one_mode-covered = refl
