-- Changes are the same where `is_equal` says so, and only there.
use Rattle.std.proofs.Common.{◌≡◌, ℕ, ◌==◌, ◌&&◌, ◌∙◌, refl, sym, ap, Bool, true, false, cond, Option, Some, None, arith}
use Rattle.std.proofs.lemmas.Bool.{and_parts}
use Rattle.std.proofs.lemmas.Bool.Decides.{nat_tests}
use Rattle.kr_model.specs.declared.Row.{Row}
use Rattle.kr_model.specs.declared.Row.TheVariants.{FetchHit, FetchMiss, ScanKey, ScanStop, Insert, Delete, Update}
use Rattle.kr_model.specs.declared.Side.{Side}
use Rattle.kr_model.specs.declared.Side.TheVariants.{Current, Next}
use Rattle.kr_model.specs.declared.Span.{Span}
use Rattle.kr_model.specs.declared.Span.TheVariants.{Instant, Commit}
use Rattle.kr_change.specs.declared.change.Change.{Change}
use Rattle.kr_change.specs.declared.change.Change.TheVariants.{Request, GhostRequest, Convert, Heir, Compatible}
use Rattle.kr_change.specs.declared.change.GhostRow.{GhostRow}
use Rattle.kr_change.specs.declared.change.GhostRow.TheVariants.{Revive, InsertHit, DeleteMiss, UpdateMiss}
use Rattle.kr_change.specs.GhostChanges.{ghost_row_number}
use Rattle.kr_model.specs.Words.{row_number, side_number}
use Rattle.kr_change.specs.Every.{is_same_request, is_same_span}
use Rattle.kr_suite_core.specs.Equal.{is_equal, is_same_bool, is_same_own}

nat_same : (m n : ℕ) → (m == n) ≡ true → m ≡ n
nat_same m n h = grind (arith, nat_tests)

nat_self : (m : ℕ) → (m == m) ≡ true
nat_self m = grind (arith, nat_tests)

abbrev row_of : ℕ → Row
row_of n = cond (n == 0) FetchHit (cond (n == 1) FetchMiss (cond (n == 2) ScanKey (cond (n == 3) ScanStop (cond (n == 4) Insert (cond (n == 5) Delete Update)))))

row_back : (r : Row) → row_of (row_number r) ≡ r
row_back FetchHit = refl
row_back FetchMiss = refl
row_back ScanKey = refl
row_back ScanStop = refl
row_back Insert = refl
row_back Delete = refl
row_back Update = refl

row_same : (r s : Row) → (row_number r == row_number s) ≡ true → r ≡ s
row_same r s h = sym (row_back r) ∙ ap row_of (nat_same (row_number r) (row_number s) h) ∙ row_back s

abbrev ghost_row_of : ℕ → GhostRow
ghost_row_of n = cond (n == 0) Revive (cond (n == 1) InsertHit (cond (n == 2) DeleteMiss UpdateMiss))

ghost_row_back : (r : GhostRow) → ghost_row_of (ghost_row_number r) ≡ r
ghost_row_back Revive = refl
ghost_row_back InsertHit = refl
ghost_row_back DeleteMiss = refl
ghost_row_back UpdateMiss = refl

ghost_row_same : (r s : GhostRow) → (ghost_row_number r == ghost_row_number s) ≡ true → r ≡ s
ghost_row_same r s h = sym (ghost_row_back r) ∙ ap ghost_row_of (nat_same (ghost_row_number r) (ghost_row_number s) h) ∙ ghost_row_back s

side_same : (r s : Side) → (side_number r == side_number s) ≡ true → r ≡ s
side_same Current Current h = refl
side_same Next Next h = refl
side_same Current Next h = absurd (cc)
side_same Next Current h = absurd (cc)

span_same : (r s : Span) → is_same_span r s ≡ true → r ≡ s
span_same Instant Instant h = refl
span_same Commit Commit h = refl
span_same Instant Commit h = absurd (cc)
span_same Commit Instant h = absurd (cc)

span_self : (s : Span) → is_same_span s s ≡ true
span_self Instant = refl
span_self Commit = refl

own_same : (m n : Option ℕ) → is_same_own m n ≡ true → m ≡ n
own_same None None h = refl
own_same (Some m) (Some n) h = ap Some (nat_same m n h)
own_same None (Some n) h = absurd (cc)
own_same (Some m) None h = absurd (cc)

own_self : (m : Option ℕ) → is_same_own m m ≡ true
own_self None = refl
own_self (Some m) = nat_self m

bool_same : (a b : Bool) → is_same_bool a b ≡ true → a ≡ b
bool_same true true h = refl
bool_same false false h = refl
bool_same true false h = absurd (cc)
bool_same false true h = absurd (cc)

bool_self : (b : Bool) → is_same_bool b b ≡ true
bool_self true = refl
bool_self false = refl

request_same : (a b : Option (ℕ × Span)) → is_same_request a b ≡ true → a ≡ b
request_same None None h = refl
request_same (Some (m, s)) (Some (n, t)) h =
    let both = and_parts (m == n) (is_same_span s t) h in
    ap (λ (x : ℕ). Some (x, s)) (nat_same m n both.0) ∙ ap (λ (x : Span). Some (n, x)) (span_same s t both.1)
request_same None (Some x) h = absurd (cc)
request_same (Some x) None h = absurd (cc)

request_self : (a : Option (ℕ × Span)) → is_same_request a a ≡ true
request_self None = refl
request_self (Some (m, s)) = rw (nat_self m, span_self s) refl

pub equal_same : (c d : Change) → is_equal c d ≡ true → c ≡ d
equal_same (Request r s o a) (Request t u n b) h =
    let places = and_parts ((row_number r == row_number t) && (side_number s == side_number u)) (is_same_own o n && is_same_request a b) h in
    let place = and_parts (row_number r == row_number t) (side_number s == side_number u) places.0 in
    let rest = and_parts (is_same_own o n) (is_same_request a b) places.1 in
    let row = row_same r t place.0 in
    let side = side_same s u place.1 in
    let own = own_same o n rest.0 in
    let request = request_same a b rest.1 in
    cc
equal_same (GhostRequest r s a) (GhostRequest t u b) h =
    let places = and_parts ((ghost_row_number r == ghost_row_number t) && (side_number s == side_number u)) (is_same_request a b) h in
    let place = and_parts (ghost_row_number r == ghost_row_number t) (side_number s == side_number u) places.0 in
    let row = ghost_row_same r t place.0 in
    let side = side_same s u place.1 in
    let request = request_same a b places.1 in
    cc
equal_same (Heir h m) (Heir i n) e =
    let rest = and_parts (h == i) (m == n) e in
    let held = nat_same h i rest.0 in
    let mode = nat_same m n rest.1 in
    cc
equal_same (Convert h q m) (Convert i r n) e =
    let helds = and_parts (h == i) ((q == r) && (m == n)) e in
    let rest = and_parts (q == r) (m == n) helds.1 in
    let held = nat_same h i helds.0 in
    let requested = nat_same q r rest.0 in
    let mode = nat_same m n rest.1 in
    cc
equal_same (Compatible q h b) (Compatible r i c) e =
    let requesteds = and_parts (q == r) ((h == i) && is_same_bool b c) e in
    let rest = and_parts (h == i) (is_same_bool b c) requesteds.1 in
    let requested = nat_same q r requesteds.0 in
    let held = nat_same h i rest.0 in
    let compatible = bool_same b c rest.1 in
    cc
equal_same (Request r s o a) (Convert i q n) h = absurd (cc)
equal_same (Request r s o a) (Compatible q i c) h = absurd (cc)
equal_same (Convert h q m) (Request t u n b) e = absurd (cc)
equal_same (Convert h q m) (Compatible r i c) e = absurd (cc)
equal_same (Compatible q h b) (Request t u n a) e = absurd (cc)
equal_same (Compatible q h b) (Convert i r n) e = absurd (cc)
equal_same (GhostRequest r s a) (Request t u n b) h = absurd (cc)
equal_same (GhostRequest r s a) (Convert i q n) h = absurd (cc)
equal_same (GhostRequest r s a) (Heir i n) h = absurd (cc)
equal_same (GhostRequest r s a) (Compatible q i c) h = absurd (cc)
equal_same (Heir h m) (Request t u n b) e = absurd (cc)
equal_same (Heir h m) (GhostRequest t u b) e = absurd (cc)
equal_same (Heir h m) (Convert i r n) e = absurd (cc)
equal_same (Heir h m) (Compatible r i c) e = absurd (cc)
equal_same (Request r s o a) (GhostRequest t u b) h = absurd (cc)
equal_same (Request r s o a) (Heir i n) h = absurd (cc)
equal_same (Convert h q m) (GhostRequest t u b) e = absurd (cc)
equal_same (Convert h q m) (Heir i n) e = absurd (cc)
equal_same (Compatible q h b) (GhostRequest t u a) e = absurd (cc)
equal_same (Compatible q h b) (Heir i n) e = absurd (cc)

pub equal_self : (c : Change) → is_equal c c ≡ true
equal_self (Request r s o a) = rw (nat_self (row_number r), nat_self (side_number s), own_self o, request_self a) refl
equal_self (GhostRequest r s a) = rw (nat_self (ghost_row_number r), nat_self (side_number s), request_self a) refl
equal_self (Heir h m) = rw (nat_self h, nat_self m) refl
equal_self (Convert h q m) = rw (nat_self h, nat_self q, nat_self m) refl
equal_self (Compatible q h b) = rw (nat_self q, nat_self h, bool_self b) refl
