-- Under an ordered protocol a lock gets no weaker by a request, and is at least the lock of one who had nothing and requested less.
use Rattle.std.proofs.Common.{◌≡◌, ℕ, Bool, ◌≤◌, refl, sym, ◌∙◌, ap, subst, true, false}
use Rattle.std.specs.Prelude.{not, Option, Some, None}
use Rattle.kr_model.specs.declared.Row.{Row}
use Rattle.kr_model.specs.declared.Row.TheVariants.{FetchHit, FetchMiss, ScanKey, ScanStop, Insert, Delete, Update}
use Rattle.kr_model.specs.declared.Side.{Side}
use Rattle.kr_model.specs.declared.Side.TheVariants.{Next}
use Rattle.kr_model.specs.declared.Span.{Span}
use Rattle.kr_model.specs.declared.Span.TheVariants.{Instant, Commit}
use Rattle.kr_model.specs.Protocol.{Protocol, IsLawful, IsMode, MovesNoKey}
use Rattle.kr_model.specs.Covers.{mode_after, conflicts_with}
use Rattle.kr_model.proofs.Keep.{kept_mode}
use Rattle.kr_theorem.specs.Ordered.{IsAtLeast, AsksAtLeast, IsOrdered}

-- A mode is requested, if anything.
abbrev pub IsForMode : Protocol → Option (ℕ × Span) → Type 0
IsForMode p a = (q : ℕ) (span : Span) → a ≡ Some (q, span) → IsMode p q

pub at_least_itself : (p : Protocol) (m : ℕ) → IsAtLeast p m m
at_least_itself p m = record { requested = λ h le e. e; held = λ q le e. e }

pub at_least_trans : (p : Protocol) (a b c : ℕ) → IsAtLeast p a b → IsAtLeast p b c → IsAtLeast p a c
at_least_trans p a b c ab bc = record { requested = λ h le e. bc.requested h le (ab.requested h le e); held = λ q le e. bc.held q le (ab.held q le e) }

-- Each mode is at least no lock.
pub at_least_none : (p : Protocol) → IsLawful p → (m : ℕ) → IsAtLeast p m 0
at_least_none p laws m = record { requested = λ h le e. laws.ok-none_asked h le; held = λ q le e. laws.ok-none_held q le }

-- What one holds after a request is no lock or a mode.
pub after_within : (p : Protocol) → IsLawful p → (o : ℕ) (a : Option (ℕ × Span)) → IsForMode p a → o ≤ p.count → mode_after p o a ≤ p.count
after_within p laws o None mode le = le
after_within p laws o (Some (q, Instant)) mode le = le
after_within p laws o (Some (q, Commit)) mode le = let i = mode q Commit refl in let c = kept_mode p o q laws le i.some i.in_range in c.in_range

-- It is at least what was held before.
pub after_rises : (p : Protocol) → IsOrdered p → (o : ℕ) (a : Option (ℕ × Span)) → IsForMode p a → o ≤ p.count → IsAtLeast p (mode_after p o a) o
after_rises p ordered o None mode le = at_least_itself p o
after_rises p ordered o (Some (q, Instant)) mode le = at_least_itself p o
after_rises p ordered o (Some (q, Commit)) mode le = let i = mode q Commit refl in (ordered.convert o q le i.in_range).0

-- It is at least what one holds who had nothing, and requested less.
pub after_more : (p : Protocol) → IsLawful p → IsOrdered p → (o : ℕ) (a b : Option (ℕ × Span)) → o ≤ p.count → IsForMode p a → IsForMode p b → AsksAtLeast p a b → IsAtLeast p (mode_after p o a) (mode_after p 0 b)
after_more p laws ordered o a None le in_a in_b least = at_least_none p laws (mode_after p o a)
after_more p laws ordered o a (Some (m, Instant)) le in_a in_b least = at_least_none p laws (mode_after p o a)
after_more p laws ordered o None (Some (m, Commit)) le in_a in_b least = absurd least
after_more p laws ordered o (Some (q, Instant)) (Some (m, Commit)) le in_a in_b least = let e = least.1 refl in absurd (cc)
after_more p laws ordered o (Some (q, Commit)) (Some (m, Commit)) le in_a in_b least =
    let i = in_a q Commit refl in
    let j = in_b m Commit refl in
    let more = at_least_trans p (p.convert o q) q m (ordered.convert o q le i.in_range).1 least.0 in
    subst (λ z. IsAtLeast p (p.convert o q) z) (sym (laws.convert-none_held m j.in_range)) more

-- Where a lock lets a request in, a lesser lock lets in one who has nothing and requests less.
pub less_let_in : (p : Protocol) → IsLawful p → IsOrdered p → (o h m : ℕ) (a b : Option (ℕ × Span)) → o ≤ p.count → h ≤ p.count → m ≤ p.count
    → IsForMode p a → IsForMode p b → AsksAtLeast p a b → IsAtLeast p h m → conflicts_with p h o a ≡ false → conflicts_with p m 0 b ≡ false
less_let_in p laws ordered o h m a None io ih im in_a in_b least less granted = refl
less_let_in p laws ordered o h m None (Some (c, span)) io ih im in_a in_b least less granted = absurd least
less_let_in p laws ordered o h m (Some (q, of_q)) (Some (c, of_c)) io ih im in_a in_b least less granted =
    let i = in_a q of_q refl in
    let j = in_b c of_c refl in
    let converted = not_false (p.ok (p.convert o q) h) granted in
    let requested = least.0.requested h ih ((ordered.convert o q io i.in_range).1.requested h ih converted) in
    ap not (ap (λ z. p.ok z m) (laws.convert-none_held c j.in_range) ∙ less.held c j.in_range requested)
  where
    not_false : (b : Bool) → not b ≡ false → b ≡ true
    not_false true e = refl
    not_false false e = absurd (cc)

-- What is requested rises with the own mode on the next name.
abbrev pub Rises : Protocol → Row → Side → Type 0
Rises p row side = (m n : ℕ) → m ≤ p.count → n ≤ p.count → IsAtLeast p n m → AsksAtLeast p (p.ask row side n) (p.ask row side m)

asks_itself : (p : Protocol) (a : Option (ℕ × Span)) → AsksAtLeast p a a
asks_itself p None = tt
asks_itself p (Some (m, of_m)) = (at_least_itself p m, λ e. e)

-- Only of inserts and deletes has it to be shown: by a law the other rows request the same at each own mode.
pub ordered_by_moves : (p : Protocol) → IsLawful p
    → ((h q : ℕ) → h ≤ p.count → q ≤ p.count → IsAtLeast p (p.convert h q) h × IsAtLeast p (p.convert h q) q)
    → ((own q : ℕ) (span : Span) → own ≤ p.count → p.ask Insert Next own ≡ Some (q, span) → span ≡ Instant)
    → ((side : Side) → Rises p Insert side) → ((side : Side) → Rises p Delete side) → IsOrdered p
ordered_by_moves p laws up instant inserts deletes = record { convert = up; ask = at_row; insert_next = instant }
  where
    unmoved : (row : Row) (side : Side) → MovesNoKey row → Rises p row side
    unmoved row side still m n mm nn least =
        let of_m = laws.ask-no_move row side m still mm in
        let of_n = laws.ask-no_move row side n still nn in
        rw (of_m, of_n) (asks_itself p (p.ask row side 0))

    at_row : (row : Row) (side : Side) → Rises p row side
    at_row Insert side = inserts side
    at_row Delete side = deletes side
    at_row FetchHit side = unmoved FetchHit side tt
    at_row FetchMiss side = unmoved FetchMiss side tt
    at_row ScanKey side = unmoved ScanKey side tt
    at_row ScanStop side = unmoved ScanStop side tt
    at_row Update side = unmoved Update side tt
