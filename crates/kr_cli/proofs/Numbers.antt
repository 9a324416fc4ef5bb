-- Numbers as they are written.
use Rattle.std.proofs.Common.{◌≡◌, ◌≢◌, ℕ, ◌<◌, ◌≤◌, ◌^◌, List, [], ◌∷◌, ◌++◌, length, get_or, refl, sym, subst, arith}
use Rattle.std.specs.Prelude.{Option, Result, Ok, Err, IfSome, IfNone}
use Rattle.std.specs.Result.{result_ok}
use Rattle.std.specs.Fmt.{decimal}
use Rattle.std.specs.Str.Parse.{ParsesUnsigned, AllDigits, digits_value}
use Rattle.std.proofs.lemmas.Str.Parse.{IsNumeralModel, numerals_by_value, tells_digits, parse_plain}
use Rattle.std.proofs.lemmas.Fmt.{decimal-digits_value, decimal_digit, decimal_by_steps, parse-decimal}

own : IsNumeralModel (AllDigits 10) (digits_value 10)
own = numerals_by_value _ tells_digits

-- nought begins with the digit 0
starts_at_48 : (bs : List ℕ) (n : ℕ) → bs ≡ decimal n → n ≡ 0 → get_or bs 0 0 ≡ 48
starts_at_48 bs n e z =
    let P : ℕ → Type 0 = λ m. bs ≡ decimal m in
    rw (subst P z e) (rw (decimal_digit 0 (omega arith)) refl)

-- digits that don't begin with 0 are how their value is written
value_written : (bs : List ℕ) (n : ℕ) → AllDigits 10 bs → 0 < length bs → digits_value 10 bs < 2 ^ 64 → n ≡ digits_value 10 bs → 49 ≤ get_or bs 0 0 → (0 < n) × (bs ≡ decimal n)
value_written bs n digits some small value first =
    let shown : decimal (digits_value 10 bs) ≡ bs = decimal-digits_value own bs digits some (λ zero. absurd (omega (arith, zero, first))) small in
    let P : ℕ → Type 0 = λ m. bs ≡ decimal m in
    let same : bs ≡ decimal n = subst P (sym value) (sym shown) in
    let not_zero : n ≢ 0 = λ zero. omega (arith, starts_at_48 bs n same zero, first) in
    (omega (arith, not_zero), same)

-- a text that doesn't begin below the digit 1, and parses as a number, is how that number is written
pub number_written : {E : Type 0} (bs : List ℕ) (r : Result ℕ E) (o : Option ℕ) → ParsesUnsigned 64 10 bs r → 49 ≤ get_or bs 0 0 → o ≡ result_ok r → IfSome o (λ n. (0 < n) × (bs ≡ decimal n))
number_written {E = E} bs (Ok n) o parses first same =
    let plain = parse_plain own {E = E} 64 bs (Ok n) parses (λ plus. omega (arith, plus, first)) in
    let P : Option ℕ → Type 0 = λ found. IfSome found (λ m. (0 < m) × (bs ≡ decimal m)) in
    subst P (sym same) (value_written bs n plain.0.0 plain.0.1 plain.0.2 plain.1 first)
number_written bs (Err e) o parses first same =
    let P : Option ℕ → Type 0 = λ found. IfSome found (λ m. (0 < m) × (bs ≡ decimal m)) in
    subst P (sym same) tt

-- where it doesn't parse it is how no number is written
pub no_number : {E : Type 0} (bs : List ℕ) (r : Result ℕ E) (o : Option ℕ) → ParsesUnsigned 64 10 bs r → o ≡ result_ok r → IfNone o ((n : ℕ) → 0 < n → n < 2 ^ 64 → bs ≡ decimal n → ⊥)
no_number bs (Ok n) o parses same =
    let P : Option ℕ → Type 0 = λ found. IfNone found ((m : ℕ) → 0 < m → m < 2 ^ 64 → bs ≡ decimal m → ⊥) in
    subst P (sym same) tt
no_number {E = E} bs (Err e) o parses same =
    let P : Option ℕ → Type 0 = λ found. IfNone found ((m : ℕ) → 0 < m → m < 2 ^ 64 → bs ≡ decimal m → ⊥) in
    subst P (sym same) (λ n some small is. let k : Err e ≡ Ok n = parse-decimal {E = E} 64 n bs (Err e) small small is parses in absurd (cc))

-- more digits behind leave the first as it is
front_more : (ds es : List ℕ) → (0 < length ds) × (49 ≤ get_or ds 0 0) → (0 < length (ds ++ es)) × (49 ≤ get_or (ds ++ es) 0 0)
front_more [] es h = absurd (omega (arith, h.0))
front_more (d ∷ ds) es h = (omega arith, h.1)

-- a number from 1 begins with a digit from 1
first_of : (n : ℕ) → n < 2 ^ 64 → 0 < n → 49 ≤ get_or (decimal n) 0 0
first_of n small some =
    let P : ℕ → List ℕ → Type 0 = λ m ds. (0 < m) → (0 < length ds) × (49 ≤ get_or ds 0 0) in
    (decimal_by_steps P (λ m low up. (omega arith, omega (arith, up))) (λ m ds high had up. front_more ds _ (had (omega (arith, high)))) n small some).1

-- a text that begins otherwise is how no number from 1 is written
pub not_written : (bs : List ℕ) → get_or bs 0 0 < 49 → (n : ℕ) → 0 < n → n < 2 ^ 64 → bs ≡ decimal n → ⊥
not_written bs low n some small is =
    let P : List ℕ → Type 0 = λ xs. get_or xs 0 0 < 49 in
    omega (arith, first_of n small some, subst P is low)
