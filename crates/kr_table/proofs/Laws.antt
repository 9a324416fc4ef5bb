-- A table keeps the laws of a protocol.
use Rattle.std.proofs.Common.{◌≡◌, ◌≢◌, ℕ, ◌+◌, ◌-◌, ◌*◌, ◌<◌, ◌≤◌, ◌&&◌, ◌||◌, ◌==◌, List, [], ◌∷◌, ◌++◌, length, Bool, true, false, not, Option, Some, None, is_some, refl, subst, arith, slice_index_or, nat_lt, nat_le, suc, zero}
use Rattle.std.specs.Prelude.{bytes_eq, All, AllPairs, unwrap_or}
use Rattle.kr_model.specs.ModeNames.{AreModeNames, IsModeName, none_name}
use Rattle.kr_table.specs.DocumentFaults.{is_good, is_mode, is_printable}
use Rattle.kr_table.proofs.Puts.{equal_itself}
use Rattle.kr_table.proofs.ReadBack.{Apart, Distinct, distinct_from}
use Rattle.std.specs.List.{list_all}
use Rattle.std.proofs.lemmas.Bool.{and_parts}
use Rattle.std.proofs.lemmas.Bool.Decides.{nat_tests}
use Rattle.kr_model.specs.declared.Row.{Row}
use Rattle.kr_model.specs.declared.Row.TheVariants.{FetchHit, FetchMiss, ScanKey, ScanStop, Insert, Delete, Update}
use Rattle.kr_model.specs.declared.Side.{Side}
use Rattle.kr_model.specs.declared.Side.TheVariants.{Current, Next}
use Rattle.kr_model.specs.declared.Span.{Span}
use Rattle.kr_model.specs.Protocol.{Protocol, IsLawful, IsMode, MovesNoKey}
use Rattle.kr_table.specs.Tables.{TableData, Request, IsTable, protocol_of, ask_of, in_range, asks_mode, are_good}
use Rattle.kr_table.specs.Matrix.{convert_of, IsMatrix}

-- of numbers in a range, each
range_at : (m : ℕ) (xs : List ℕ) (i d : ℕ) → list_all (in_range m) xs ≡ true → i < length xs → (0 < slice_index_or xs i d) × (slice_index_or xs i d ≤ m)
range_at m [] i d h b = absurd (omega arith)
range_at m (x ∷ xs) zero d h b =
    let p = and_parts (in_range m x) (list_all (in_range m) xs) h in
    let q = and_parts (nat_lt 0 x) (nat_le x m) p.0 in
    let a : nat_lt 0 x ≡ true = q.0 in
    let c : nat_le x m ≡ true = q.1 in
    (grind (arith, nat_tests), grind (arith, nat_tests))
range_at m (x ∷ xs) (suc i) d h b = range_at m xs i d ((and_parts (in_range m x) (list_all (in_range m) xs) h).1) (omega arith)

mode_of_request : (p : Protocol) (r : Request) (q : ℕ) (s : Span) → asks_mode p.count r ≡ true → r ≡ Some (q, s) → IsMode p q
mode_of_request p r q s h e =
    let t : in_range p.count q ≡ true = subst (λ x. asks_mode p.count x ≡ true) e h in
    let a : nat_lt 0 q ≡ true = (and_parts (nat_lt 0 q) (nat_le q p.count) t).0 in
    let b : nat_le q p.count ≡ true = (and_parts (nat_lt 0 q) (nat_le q p.count) t).1 in
    record { some = grind (arith, nat_tests); in_range = grind (arith, nat_tests) }

pub request_at : (m : ℕ) (rs : List Request) (i : ℕ) → list_all (asks_mode m) rs ≡ true → asks_mode m (slice_index_or rs i None) ≡ true
request_at m [] zero h = refl
request_at m [] (suc i) h = refl
request_at m (r ∷ rs) zero h = (and_parts (asks_mode m r) (list_all (asks_mode m) rs) h).0
request_at m (r ∷ rs) (suc i) h = request_at m rs i ((and_parts (asks_mode m r) (list_all (asks_mode m) rs) h).1)

asks : (x : TableData) → IsTable x → (row : Row) (side : Side) (own : ℕ) → asks_mode (length x.modes.names) (ask_of x row side own) ≡ true
asks x t FetchHit Current own = t.fetch_hit
asks x t FetchMiss Next own = t.fetch_miss
asks x t ScanKey Current own = t.scan_key
asks x t ScanStop Next own = t.scan_stop
asks x t Insert Current own = request_at (length x.modes.names) x.insert_current own t.insert_current.modes
asks x t Insert Next own = request_at (length x.modes.names) x.insert_next own t.insert_next.modes
asks x t Delete Current own = request_at (length x.modes.names) x.delete_current own t.delete_current.modes
asks x t Delete Next own = request_at (length x.modes.names) x.delete_next own t.delete_next.modes
asks x t FetchHit Next own = refl
asks x t FetchMiss Current own = refl
asks x t ScanKey Next own = refl
asks x t ScanStop Current own = refl
asks x t Update Current own = t.update
asks x t Update Next own = refl

reads : (x : TableData) (row : Row) (side : Side) (own : ℕ) → MovesNoKey row → ask_of x row side own ≡ ask_of x row side 0
reads x FetchHit Current own is = refl
reads x FetchMiss Next own is = refl
reads x ScanKey Current own is = refl
reads x ScanStop Next own is = refl
reads x FetchHit Next own is = refl
reads x FetchMiss Current own is = refl
reads x ScanKey Next own is = refl
reads x ScanStop Current own is = refl
reads x Update Current own is = refl
reads x Update Next own is = refl
reads x Insert side own is = absurd is
reads x Delete side own is = absurd is

none_asked : (o : Option Request) → is_some o ≡ false → unwrap_or o None ≡ None
none_asked None h = refl
none_asked (Some r) h = absurd (cc)

no_update : (x : TableData) (side : Side) (own : ℕ) → is_some x.update ≡ false → ask_of x Update side own ≡ None
no_update x Current own none = none_asked x.update none
no_update x Next own none = refl

within_square : (m a b : ℕ) → a < m → b < m → a * m + b < m * m
within_square m a b h k = grind arith

converts_at : (x : TableData) (h q : ℕ) → IsTable x → 0 < h → h ≤ length x.modes.names → 0 < q → q ≤ length x.modes.names
    → (0 < slice_index_or x.modes.conversion ((h - 1) * length x.modes.names + (q - 1)) 0) × (slice_index_or x.modes.conversion ((h - 1) * length x.modes.names + (q - 1)) 0 ≤ length x.modes.names)
converts_at x h q t a b c d =
    let inside : (h - 1) * length x.modes.names + (q - 1) < length x.modes.names * length x.modes.names = within_square (length x.modes.names) (h - 1) (q - 1) (omega arith) (omega arith) in
    range_at (length x.modes.names) x.modes.conversion ((h - 1) * length x.modes.names + (q - 1)) 0 t.conversions (rw t.conversion inside)

some_modes : (x : TableData) (h q : ℕ) → 0 < h → 0 < q → convert_of x.modes h q ≡ slice_index_or x.modes.conversion ((h - 1) * length x.modes.names + (q - 1)) 0
some_modes x h q a b =
    let e : (h == 0) ≡ false = grind (arith, nat_tests) in
    let f : (q == 0) ≡ false = grind (arith, nat_tests) in
    rw (e, f)

mode_converted : (x : TableData) (h q : ℕ) → IsTable x → IsMode (protocol_of x) h → IsMode (protocol_of x) q → IsMode (protocol_of x) (convert_of x.modes h q)
mode_converted x h q t ih iq =
    let e = some_modes x h q ih.some iq.some in
    let r = converts_at x h q t ih.some ih.in_range iq.some iq.in_range in
    record { some = rw e r.0; in_range = rw e r.1 }

ok_none : (x : TableData) (q : ℕ) → (protocol_of x).ok q 0 ≡ true
ok_none x q = either (q == 0)
  where
    either : (b : Bool) → (b || true) ≡ true
    either true = refl
    either false = refl

convert_none : (x : TableData) (h : ℕ) → (protocol_of x).convert h 0 ≡ h
convert_none x zero = refl
convert_none x (suc h) = let e : (suc h == 0) ≡ false = grind (arith, nat_tests) in rw e

pub lawful_of : (x : TableData) → IsTable x → IsLawful (protocol_of x)
lawful_of x t =
    record {
      few = let few = t.few in grind (arith, nat_tests);
      ok-none_held = λ q b. ok_none x q;
      ok-none_asked = λ h b. refl;
      convert-none_held = λ q b. refl;
      convert-none_asked = λ h b. convert_none x h;
      convert-modes = λ h q ih iq. mode_converted x h q t ih iq;
      ask-mode = λ row side own q span b e. mode_of_request (protocol_of x) (ask_of x row side own) q span (asks x t row side own) e;
      ask-no_move = λ row side own is b. reads x row side own is;
      ask-no_update = λ side own none b. no_update x side own none;
    }

-- names of modes --

all_parts : (a b c d e : Bool) → (a && b && c && d && e) ≡ true → (a ≡ true) × (b ≡ true) × (c ≡ true) × (d ≡ true)
all_parts true true true true e h = (refl, refl, refl, refl)
all_parts true true true false e h = cc
all_parts true true false d e h = cc
all_parts true false c d e h = cc
all_parts false b c d e h = cc

printable_at : (bs : List ℕ) → is_printable bs ≡ true → All (λ b. (32 ≤ b) × (b ≤ 126)) bs
printable_at [] h k d low = absurd (omega arith)
printable_at (b ∷ bs) h zero d low =
    let p = and_parts (nat_lt 31 b && nat_lt b 127) (is_printable bs) h in
    let q = and_parts (nat_lt 31 b) (nat_lt b 127) p.0 in
    let low_end : nat_lt 31 b ≡ true = q.0 in
    let high_end : nat_lt b 127 ≡ true = q.1 in
    (grind (arith, nat_tests), grind (arith, nat_tests))
printable_at (b ∷ bs) h (suc k) d low = printable_at bs ((and_parts (nat_lt 31 b && nat_lt b 127) (is_printable bs) h).1) k d (omega arith)

not_none : (n : List ℕ) → not (bytes_eq n none_name) ≡ true → n ≢ none_name
not_none n h e = not_both (bytes_eq n none_name) h (subst (λ m. bytes_eq n m ≡ true) e (equal_itself n))
  where
    not_both : (b : Bool) → not b ≡ true → b ≡ true → ⊥
    not_both true h e = absurd (cc)
    not_both false h e = absurd (cc)

mode_name : (before : List (List ℕ)) (n : List ℕ) → is_good before n ≡ true → IsModeName n
mode_name before n h =
    let p = all_parts (nat_lt 0 (length n)) (nat_lt (length n) 25) (is_printable n) (not (bytes_eq n none_name)) (not (is_mode before n)) h in
    let some : nat_lt 0 (length n) ≡ true = p.0 in
    let short : nat_lt (length n) 25 ≡ true = p.1 in
    record {
      some = grind (arith, nat_tests);
      short = grind (arith, nat_tests);
      printable = printable_at n p.2;
      not_none = not_none n p.3;
    }

mode_names : (before ns : List (List ℕ)) → are_good before ns ≡ true → All IsModeName ns
mode_names before [] h k d low = absurd (omega arith)
mode_names before (n ∷ ns) h zero d low = mode_name before n ((and_parts (is_good before n) (are_good (before ++ n ∷ []) ns) h).0)
mode_names before (n ∷ ns) h (suc k) d low = mode_names (before ++ n ∷ []) ns ((and_parts (is_good before n) (are_good (before ++ n ∷ []) ns) h).1) k d (omega arith)

apart_at : (n : List ℕ) (ns : List (List ℕ)) (k : ℕ) (d : List ℕ) → Apart n ns → k < length ns → n ≢ slice_index_or ns k d
apart_at n [] k d a h = absurd (omega arith)
apart_at n (m ∷ ns) zero d a h = a.0
apart_at n (m ∷ ns) (suc k) d a h = apart_at n ns k d a.1 (omega arith)

all_apart : (ns : List (List ℕ)) → Distinct ns → AllPairs (λ a b. a ≢ b) ns
all_apart [] apart i j d before low = absurd (omega arith)
all_apart (n ∷ ns) apart i zero d before low = absurd (omega arith)
all_apart (n ∷ ns) apart zero (suc j) d before low = apart_at n ns j d apart.0 (omega arith)
all_apart (n ∷ ns) apart (suc i) (suc j) d before low = all_apart ns apart.1 i j d (omega arith) (omega arith)

-- the modes of a table have names of their own
pub named_of : (x : TableData) → IsTable x → AreModeNames x.modes.names (length x.modes.names)
named_of x t = record { one_each = refl; each = mode_names [] x.modes.names t.named; distinct = all_apart x.modes.names (distinct_from [] x.modes.names t.named) }

-- the modes of a table are a matrix
pub matrix_sound : (x : TableData) → IsTable x → IsMatrix x.modes
matrix_sound x t =
    record {
      some = let h = t.some in grind (arith, nat_tests);
      few = let h = t.few in grind (arith, nat_tests);
      named = mode_names [] x.modes.names t.named;
      distinct = all_apart x.modes.names (distinct_from [] x.modes.names t.named);
      compatible_square = t.compatible;
      conversion_square = t.conversion;
      conversion_modes = λ k d low. range_at (length x.modes.names) x.modes.conversion k d t.conversions low;
    }
