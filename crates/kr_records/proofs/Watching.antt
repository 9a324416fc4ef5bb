-- One of a row of tokens learns its place.
use Rattle.std.proofs.Common.{◌≡◌, ℕ, ◌<◌, List, length, map, Option, None, Some, Bor, ap, sym, ◌∙◌, subst}
use Rattle.std.specs.Prelude.{slice_set, slice_index_or, IfSome, MatchOption}
use Rattle.once_cell.specs.Once.{Agrees}
use Rattle.kr_records.specs.declared.name.Entry.{Entry}
use Rattle.kr_records.specs.declared.known.Known.{Known}
use Rattle.kr_records.specs.Notes.{what_of, name_of, AgreeAt}
use Rattle.kr_records.proofs.RowLists.{length-map, map-set, map-at, set_own}

-- the name and the knowledge of one of a row of tokens
pub named_at : (ks : List (Known Entry)) (names : List ℕ) (i : ℕ) (k : Known Entry) → map name_of ks ≡ names → i < length names → k ≡ slice_index_or ks i k → k.cell ≡ slice_index_or names i 0
named_at ks names i k are lt read = ap name_of read ∙ map-at name_of ks i k 0 (subst (λ (l : List ℕ). i < length l) (sym are) lt) ∙ ap (λ (l : List ℕ). slice_index_or l i 0) are

pub known_there : (ks : List (Known Entry)) (v : List (Option Entry)) (i : ℕ) (k : Known Entry) → map what_of ks ≡ v → i < length v → k ≡ slice_index_or ks i k → slice_index_or v i None ≡ k.known
known_there ks v i k are lt read = sym (ap what_of read ∙ map-at what_of ks i k None (subst (λ (l : List (Option Entry)). i < length l) (sym are) lt) ∙ ap (λ (l : List (Option Entry)). slice_index_or l i None) are)

-- as long as the names are
pub view_length : (ks : List (Known Entry)) (names : List ℕ) (v : List (Option Entry)) → map name_of ks ≡ names → map what_of ks ≡ v → length v ≡ length names
view_length ks names v are is = ap (λ (l : List (Option Entry)). length l) (sym is) ∙ length-map what_of ks ∙ sym (length-map name_of ks) ∙ ap (λ (l : List ℕ). length l) are

pub names_stay : (ks : List (Known Entry)) (i : ℕ) (k : Known Entry) (names : List ℕ) → i < length names → k.cell ≡ slice_index_or names i 0 → map name_of ks ≡ names → map name_of (slice_set ks i k) ≡ names
names_stay ks i k names lt cell are = map-set name_of ks i k ∙ ap (λ (l : List ℕ). slice_set l i k.cell) are ∙ set_own names i k.cell 0 lt cell

pub now_told : (ks : List (Known Entry)) (v : List (Option Entry)) (i : ℕ) (k : Known Entry) (o : Option Entry) → map what_of ks ≡ v → k.known ≡ o → map what_of (slice_set ks i k) ≡ slice_set v i o
now_told ks v i k o is same = map-set what_of ks i k ∙ (λ j. slice_set (is j) i (same j))

-- a place that was looked at, where o is what was found
module _ (ks : List (Known Entry)) (v : List (Option Entry)) (i : ℕ) (k k' : Known Entry) (is : map what_of ks ≡ v) (lt : i < length v) (read : k ≡ slice_index_or ks i k) where
  abbrev Found : Option (Bor Entry) → Type 0
  Found o = MatchOption o ((k.known ≡ None) × (k'.known ≡ None)) (λ r. (k'.known ≡ Some r.now) × Agrees k.known r.now)

  pub still_unseen : (o : Option (Bor Entry)) → Found o → o ≡ None → map what_of (slice_set ks i k') ≡ v
  still_unseen None h none = now_told ks v i k' None is h.1 ∙ set_own v i None None lt (sym (known_there ks v i k is lt read ∙ h.0))
  still_unseen (Some r) h none = absurd (cc (none))

  pub now_seen : (o : Option (Bor Entry)) → Found o → IfSome o (λ r. map what_of (slice_set ks i k') ≡ slice_set v i (Some r.now))
  now_seen None h = tt
  now_seen (Some r) h = now_told ks v i k' (Some r.now) is h.0

pub agree_at : (xs ys : List (Option Entry)) (i : ℕ) (p q : Option Entry) → slice_index_or xs i None ≡ p → slice_index_or ys i None ≡ q → IfSome q (Agrees p) → AgreeAt xs ys i
agree_at xs ys i p q a b h x y e f =
    let px : p ≡ Some x = sym a ∙ e in
    let qy : q ≡ Some y = sym b ∙ f in
    let g : IfSome (Some y) (Agrees (Some x)) = subst (λ (z : Option Entry × Option Entry). IfSome z.0 (Agrees z.1)) (λ j. (qy j, px j)) h in g
