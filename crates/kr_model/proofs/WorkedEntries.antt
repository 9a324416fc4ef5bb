-- Worked examples of the five lists of covers: each entry of each list is left open by a table that errs there alone.
use Rattle.std.specs.Prelude.{◌≡◌, ℕ, Bool, true, false, ◌==◌, ◌&&◌, List, [], ◌∷◌, ◌++◌, Option, Some, None, map, filter, refl, slice_get, if◌then◌else◌}
use Rattle.std.specs.List.{flat_map}
use Rattle.kr_model.specs.Protocol.{Protocol}
use Rattle.kr_model.specs.Words.{row_number, side_number}
use Rattle.kr_model.specs.Covers.{Ask, requester, open_requesters, failed_cases}
use Rattle.kr_model.specs.Matrices.{ok_by, convert_by, for_commit}
use Rattle.kr_model.specs.declared.Row.{Row}
use Rattle.kr_model.specs.declared.Row.TheVariants.{FetchHit, FetchMiss, ScanKey, ScanStop, Insert, Delete, Update}
use Rattle.kr_model.specs.declared.Side.{Side}
use Rattle.kr_model.specs.declared.Side.TheVariants.{Current, Next}
use Rattle.kr_model.specs.declared.Span.{Span}
use Rattle.kr_model.specs.declared.Cover.{Cover}
use Rattle.kr_model.specs.declared.Cover.TheVariants.{ReadKey, ReadGap, InsertedKey, DeletedGap, UpdatedKey}
use Rattle.kr_model.specs.declared.Origin.TheVariants as origin
use Rattle.kr_model.specs.declared.Rule.TheVariants as rule
use Rattle.kr_model.specs.declared.FailedCase.{FailedCase}
use Rattle.kr_model.specs.declared.Requester.{Requester}
use Rattle.kr_model.proofs.WorkedCovers.{one_mode_ask, failed, cover_number}

-- The tables --

-- The mode of the one-mode table: requested, it is compatible with nothing.
abbrev pub strict : ℕ
strict = 1

-- A mode that, requested, is compatible with everything; held, it conflicts with strict.
abbrev pub lax : ℕ
lax = 2

-- Whether the row and the side are those of a.
abbrev pub is_at : Ask → Row → Side → Bool
is_at a r s = (row_number a.0 == row_number r) && (side_number a.1 == side_number s)

-- A request for lax in place of strict.
abbrev pub laxly : Option (ℕ × Span) → Option (ℕ × Span)
laxly None = None
laxly (Some (m, span)) = Some (lax, span)

-- What the one-mode table requests with updates: its mode on the key of an update too.
abbrev pub updating_ask : Row → Side → ℕ → Option (ℕ × Span)
updating_ask Update Current own = for_commit 1
updating_ask r s own = one_mode_ask r s own

-- The one-mode table by what it requests, with updates or without, but that lax is requested at a; who holds a mode and asks again holds strict.
abbrev pub lets_in_by : (Row → Side → ℕ → Option (ℕ × Span)) → Bool → Ask → Protocol
lets_in_by ask updates a =
    record {
      count = 2;
      ok = ok_by ([] ∷ (strict ∷ lax ∷ []) ∷ []);
      convert = convert_by ((strict ∷ strict ∷ []) ∷ (strict ∷ strict ∷ []) ∷ []);
      ask = λ r s own. if is_at a r s then laxly (ask r s own) else ask r s own;
      updates = updates;
    }

-- That table without updates.
abbrev pub lets_in : Ask → Protocol
lets_in a = lets_in_by one_mode_ask false a

-- That table with updates.
abbrev pub lets_in_updating : Ask → Protocol
lets_in_updating a = lets_in_by updating_ask true a

-- The rows and sides at which the one-mode table requests a lock, in order.
abbrev pub asks : List Ask
asks =
    (FetchHit, Current)
    ∷ (FetchMiss, Next)
    ∷ (ScanKey, Current)
    ∷ (ScanStop, Next)
    ∷ (Insert, Current)
    ∷ (Insert, Next)
    ∷ (Delete, Current)
    ∷ (Delete, Next)
    ∷ []

-- The same with updates.
abbrev pub asks_updating : List Ask
asks_updating = asks ++ (Update, Current) ∷ []

-- What they leave open --

-- The requester at a that holds nothing.
abbrev pub newcomer : Ask → Requester
newcomer a = requester a 0 0

-- What a lock in strict leaves open of a cover, of those who hold nothing on the next name, under each of the eight tables in turn.
abbrev pub left_open : Cover → List Requester
left_open c = flat_map (λ a. filter (λ x. x.own_next == 0) (open_requesters (lets_in a) c strict)) asks

-- The same with updates, under each of the nine tables in turn.
abbrev pub left_open_updating : Cover → List Requester
left_open_updating c = flat_map (λ a. filter (λ x. x.own_next == 0) (open_requesters (lets_in_updating a) c strict)) asks_updating

-- A read key: one table leaves it open.
pub read_key-open : left_open ReadKey ≡ newcomer (Delete, Current) ∷ []
read_key-open = refl

-- A read gap: two tables do.
pub read_gap-open : left_open ReadGap ≡ newcomer (Insert, Next) ∷ newcomer (Delete, Current) ∷ []
read_gap-open = refl

-- An inserted key: six tables do.
pub inserted_key-open : left_open InsertedKey
    ≡ newcomer (FetchHit, Current)
    ∷ newcomer (FetchMiss, Next)
    ∷ newcomer (ScanKey, Current)
    ∷ newcomer (ScanStop, Next)
    ∷ newcomer (Delete, Current)
    ∷ newcomer (Delete, Next)
    ∷ []
inserted_key-open = refl

-- A deleted gap: six tables do.
pub deleted_gap-open : left_open DeletedGap
    ≡ newcomer (FetchMiss, Next)
    ∷ newcomer (ScanKey, Current)
    ∷ newcomer (ScanStop, Next)
    ∷ newcomer (Insert, Next)
    ∷ newcomer (Delete, Current)
    ∷ newcomer (Delete, Next)
    ∷ []
deleted_gap-open = refl

-- With updates two tables leave a read key open.
pub read_key-open_to_updates : left_open_updating ReadKey ≡ newcomer (Delete, Current) ∷ newcomer (Update, Current) ∷ []
read_key-open_to_updates = refl

-- With updates seven tables leave an inserted key open.
pub inserted_key-open_to_updates : left_open_updating InsertedKey
    ≡ newcomer (FetchHit, Current)
    ∷ newcomer (FetchMiss, Next)
    ∷ newcomer (ScanKey, Current)
    ∷ newcomer (ScanStop, Next)
    ∷ newcomer (Delete, Current)
    ∷ newcomer (Delete, Next)
    ∷ newcomer (Update, Current)
    ∷ []
inserted_key-open_to_updates = refl

-- A gap, read or deleted in, is left open by no more tables than without updates.
pub gaps-open_to_updates : map left_open_updating (ReadGap ∷ DeletedGap ∷ []) ≡ map left_open (ReadGap ∷ DeletedGap ∷ [])
gaps-open_to_updates = refl

-- An updated key: four tables leave it open.
pub updated_key-open : left_open_updating UpdatedKey
    ≡ newcomer (FetchHit, Current)
    ∷ newcomer (ScanKey, Current)
    ∷ newcomer (Delete, Current)
    ∷ newcomer (Update, Current)
    ∷ []
updated_key-open = refl

-- What fails --

-- The first failed case of a cover under the table that errs at a.
abbrev pub first_of : Cover → Ask → Option FailedCase
first_of c a = slice_get (filter (λ f. cover_number f.cover == cover_number c) (failed_cases (lets_in a))) 0

-- A read key: the lock of a fetch lets in who deletes the key.
pub read_key-fails : first_of ReadKey (Delete, Current) ≡ Some (failed rule.FetchHit ReadKey (origin.Own 0) strict (Delete, Current) 0 0)
read_key-fails = refl

-- A read gap: the lock of a fetch that missed lets in who inserts into the gap, or deletes the key above it.
pub read_gap-fails : map (first_of ReadGap) ((Insert, Next) ∷ (Delete, Current) ∷ [])
    ≡ Some (failed rule.FetchMiss ReadGap (origin.Own 0) strict (Insert, Next) 0 0)
    ∷ Some (failed rule.FetchMiss ReadGap (origin.Own 0) strict (Delete, Current) 0 0)
    ∷ []
read_gap-fails = refl

-- An inserted key: the lock of an insert lets in who reads the key or the gap below it, or deletes the key or the one below it.
pub inserted_key-fails : map (first_of InsertedKey) ((FetchHit, Current) ∷ (FetchMiss, Next) ∷ (ScanKey, Current) ∷ (ScanStop, Next) ∷ (Delete, Current) ∷ (Delete, Next) ∷ [])
    ≡ Some (failed rule.Insert InsertedKey (origin.Insert 0 0) strict (FetchHit, Current) 0 0)
    ∷ Some (failed rule.Insert InsertedKey (origin.Insert 0 0) strict (FetchMiss, Next) 0 0)
    ∷ Some (failed rule.Insert InsertedKey (origin.Insert 0 0) strict (ScanKey, Current) 0 0)
    ∷ Some (failed rule.Insert InsertedKey (origin.Insert 0 0) strict (ScanStop, Next) 0 0)
    ∷ Some (failed rule.Insert InsertedKey (origin.Insert 0 0) strict (Delete, Current) 0 0)
    ∷ Some (failed rule.Insert InsertedKey (origin.Insert 0 0) strict (Delete, Next) 0 0)
    ∷ []
inserted_key-fails = refl

-- A deleted gap: the lock of a delete on the next name lets in who reads the gap, scans on to the key above it, inserts into it, or deletes the key at either end of it.
pub deleted_gap-fails : map (first_of DeletedGap) ((FetchMiss, Next) ∷ (ScanKey, Current) ∷ (ScanStop, Next) ∷ (Insert, Next) ∷ (Delete, Current) ∷ (Delete, Next) ∷ [])
    ≡ Some (failed rule.Delete DeletedGap (origin.Own 0) strict (FetchMiss, Next) 0 0)
    ∷ Some (failed rule.Delete DeletedGap (origin.Own 0) strict (ScanKey, Current) 0 0)
    ∷ Some (failed rule.Delete DeletedGap (origin.Own 0) strict (ScanStop, Next) 0 0)
    ∷ Some (failed rule.Delete DeletedGap (origin.Own 0) strict (Insert, Next) 0 0)
    ∷ Some (failed rule.Delete DeletedGap (origin.Own 0) strict (Delete, Current) 0 0)
    ∷ Some (failed rule.Delete DeletedGap (origin.Own 0) lax (Delete, Next) 0 0)
    ∷ []
deleted_gap-fails = refl

-- The same with updates.
abbrev pub first_of_updating : Cover → Ask → Option FailedCase
first_of_updating c a = slice_get (filter (λ f. cover_number f.cover == cover_number c) (failed_cases (lets_in_updating a))) 0

-- A read key and an inserted key: the lock of a fetch or of an insert lets in who updates the key.
pub read_and_inserted_key-fail : map (λ c. first_of_updating c (Update, Current)) (ReadKey ∷ InsertedKey ∷ [])
    ≡ Some (failed rule.FetchHit ReadKey (origin.Own 0) strict (Update, Current) 0 0)
    ∷ Some (failed rule.Insert InsertedKey (origin.Insert 0 0) strict (Update, Current) 0 0)
    ∷ []
read_and_inserted_key-fail = refl

-- An updated key: the lock of an update lets in who reads the key, deletes it or updates it again.
pub updated_key-fails : map (first_of_updating UpdatedKey) ((FetchHit, Current) ∷ (ScanKey, Current) ∷ (Delete, Current) ∷ (Update, Current) ∷ [])
    ≡ Some (failed rule.Update UpdatedKey (origin.Own 0) strict (FetchHit, Current) 0 0)
    ∷ Some (failed rule.Update UpdatedKey (origin.Own 0) strict (ScanKey, Current) 0 0)
    ∷ Some (failed rule.Update UpdatedKey (origin.Own 0) strict (Delete, Current) 0 0)
    ∷ Some (failed rule.Update UpdatedKey (origin.Own 0) lax (Update, Current) 0 0)
    ∷ []
updated_key-fails = refl
