-- Numbers that a few decimal digits write.
use Rattle.std.proofs.Common.{◌≡◌, ◌^◌, ◌<◌, ◌≤◌, ℕ, List, [], ◌++◌, length, slice_index, false, Some, refl, ap, sym, ◌∙◌, arith, append-nil, ne_eqb}
use Rattle.std.proofs.lemmas.Int.Digits.{digits_value-lt}
use Rattle.std.proofs.lemmas.Str.Parse.{digit_at}
use Rattle.std.proofs.Math.Nat.{pow-le-pow_right}
use Rattle.std.specs.Str.Parse.{AllDigits, IsNumeral, digits_value}
use Rattle.fast_float.specs.Text.{Parts, scan}
use Rattle.fast_float.proofs.Writing.{scan-text_of}
use Rattle.serde_json.specs.Data.{unsigned}
use Rattle.serde_json.specs.Read.{number_of}
use Rattle.kr_script.proofs.Documents.{whole_of_scan}

-- 19 digits or fewer write a number below 10 ^ 19
pub few_digits : (ds : List ℕ) → AllDigits 10 ds → length ds ≤ 19 → digits_value 10 ds < 10 ^ 19
few_digits ds h few =
    let below = digits_value-lt 10 ds h in
    let tens : 10 ^ length ds ≤ 10 ^ 19 = pow-le-pow_right (omega arith) few in
    omega arith

-- the parts of a numeral that is digits alone
abbrev digits : List ℕ → Parts
digits ds = record { whole = ds; point = false; fraction = []; exponent_negative = false; exponent = []; len = length (ds ++ []) }

scan-digits : (ds : List ℕ) → AllDigits 10 ds → scan ds ≡ digits ds
scan-digits ds h =
    ap scan (sym (append-nil ds))
    ∙ scan-text_of (digits ds) (record { whole_digits = h; fraction_digits = tt; exponent_digits = tt; no_point = λ _. refl; no_exponent = λ _. refl; len_is = refl })

-- a numeral of 19 digits or fewer is a whole number
pub number_of-digits : (ds : List ℕ) → IsNumeral 10 ds → length ds ≤ 19 → number_of ds ≡ Some (unsigned (digits_value 10 ds))
number_of-digits ds h few =
    let low = few_digits ds h.1 few in
    let first = digit_at ds 0 h.1 h.0 in
    whole_of_scan ds (Some (digits_value 10 ds)) (ne_eqb (slice_index ds 0) 45 (λ e. omega arith)) (rw (scan-digits ds h.1, append-nil) (((h.0, refl, refl), omega arith), refl))
