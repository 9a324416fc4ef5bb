use Rattle.std.proofs.Common.{◌≡◌, ◌==◌, ◌<◌, ◌^◌, ap, sym, subst, false, slice_index, ne_eqb, ◌∙◌, Some}
use Rattle.std.specs.Option.{SomeIff}
use Rattle.fast_float.specs.Text.{IsInteger, digits_of, scan}
use Rattle.serde_json.specs.Data.{unsigned}
use Rattle.serde_json.specs.Read.{number_of}
use Rattle.kr_script.proofs.Documents.{whole_of_scan}
use Rattle.kr_script.proofs.Numbers.{number_of-digits}
use Rattle.kr_script.proofs.plain.whole_number.Goals as goal

pub returns-in-Some : goal.returns-in-Some
returns-in-Some c =
    let digits = c.in-Some.ensures in
    ap number_of (sym c.as_bytes-bytes.ensures.value) ∙ number_of-digits _ digits.0.0 digits.0.1 ∙ ap (λ n. Some (unsigned n)) (sym digits.1)

pub returns : goal.returns
returns c =
    let text = c.args.text.now in
    let bytes = c.as_bytes-bytes.result.now in
    let same : bytes ≡ text = c.as_bytes-bytes.ensures.value in
    let no_minus : (slice_index bytes 0 == 45) ≡ false = ne_eqb (slice_index bytes 0) 45 c.if-bytes-eq45.false in
    let parts : c.scan-numeral.result ≡ scan text = c.scan-numeral.ensures.parts ∙ ap scan same in
    whole_of_scan text c.to_u64.result (subst (λ s. slice_index s 0 == 45 ≡ false) same no_minus)
    (subst (λ p. SomeIff c.to_u64.result (IsInteger p × (digits_of p < 2 ^ 64)) (digits_of p)) parts c.to_u64.ensures)
