use Rattle.std.proofs.Common.{◌≡◌, ◌≤◌, length, ℕ, ◌+◌, ◌-◌, ◌*◌, ◌<◌, ◌^◌, List, get_or, take, arith, length-take}
use Rattle.std.specs.Char.{digit_value}
use Rattle.std.specs.Str.Parse.{AllDigits, digits_value}
use Rattle.std.proofs.lemmas.Int.Digits.{digits_value_more, digits_more}
use Rattle.std.proofs.lemmas.Str.{digit_value_digit}
use Rattle.std.proofs.lemmas.Str.Parse.{digit_from_value, digit_at}
use Rattle.kr_script.proofs.Numbers.{few_digits}
use Rattle.kr_script.proofs.plain.decimal.Goals as goal

module _ (bs : List ℕ) (i n : ℕ) (l : i < length bs) (h : AllDigits 10 (take i bs)) (e : n ≡ digits_value 10 (take i bs)) (k : digit_value (get_or bs i 0) < 10) where
  -- the digits so far and one more
  more : n * 10 + (get_or bs i 0 - 48) ≡ digits_value 10 (take (i + 1) bs)
  more = let digit : digit_value (get_or bs i 0) + 48 ≡ get_or bs i 0 = digit_value_digit _ (digit_from_value _ k) in rw (digits_value_more 10 bs i l, e) (omega arith)

  fits : length bs ≤ 19 → n * 10 + (get_or bs i 0 - 48) < 10 ^ 19
  fits few = rw more (few_digits (take (i + 1) bs) (digits_more 10 bs i l h k) (rw length-take (omega arith)))

pub returns-then-not-is_ascii_digit : goal.returns-then-not-is_ascii_digit
returns-then-not-is_ascii_digit c = λ p.
    let digit = digit_at c.args.bytes.now c.loop-byte.byte-index p.0.1 c.loop-byte-test.true in
    let other = rw c.if-not-is_ascii_digit.true at c.is_ascii_digit.ensures.cases in
    omega arith

pub overflow_mul-n : goal.overflow_mul-n
overflow_mul-n c =
    let digit = rw c.if-not-is_ascii_digit.false at c.is_ascii_digit.ensures.bound in
    let low = fits _ _ c.loop-byte.n c.loop-byte-test.true c.loop-byte.invariant.digits c.loop-byte.invariant.number digit c.if-bytes-gt19.false in
    omega arith

pub overflow_add-n : goal.overflow_add-n
overflow_add-n c =
    let digit = rw c.if-not-is_ascii_digit.false at c.is_ascii_digit.ensures.bound in
    let low = fits _ _ c.loop-byte.n c.loop-byte-test.true c.loop-byte.invariant.digits c.loop-byte.invariant.number digit c.if-bytes-gt19.false in
    rw c.from.ensures (omega arith)

pub loop-byte-preserved : goal.loop-byte-preserved
loop-byte-preserved c =
    let digit = rw c.if-not-is_ascii_digit.false at c.is_ascii_digit.ensures.bound in
    let invariant = c.loop-byte.invariant in
    record {
      digits = digits_more 10 _ _ c.loop-byte-test.true invariant.digits digit;
      number = rw c.from.ensures (more _ _ _ c.loop-byte-test.true invariant.digits invariant.number digit);
    }
