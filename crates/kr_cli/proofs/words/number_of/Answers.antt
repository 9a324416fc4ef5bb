use Rattle.std.proofs.Common.{◌≡◌, ◌<◌, ◌≤◌, ℕ, true, List, [], ◌∷◌, length, get_or, subst, arith}
use Rattle.std.specs.Prelude.{◌==◌}
use Rattle.kr_cli.proofs.Numbers.{number_written, no_number, not_written}
use Rattle.kr_cli.proofs.words.number_of.Goals as goal
use Rattle.kr_cli.proofs.words.number_of.Goals.{then-is_empty-via-then-is_empty, then-is_empty-via-else-is_empty+then-bytes-lt49}

-- an empty text has no digit in front
empty_below : (bs : List ℕ) → (length bs == 0) ≡ true → get_or bs 0 0 < 49
empty_below [] empty = omega arith
empty_below (b ∷ bs) empty = absurd (grind (arith, empty))

-- the same first byte
first_below : (xs ys : List ℕ) → xs ≡ ys → get_or xs 0 0 < 49 → get_or ys 0 0 < 49
first_below xs ys same low = let P : List ℕ → Type 0 = λ zs. get_or zs 0 0 < 49 in subst P same low

first_from : (xs ys : List ℕ) → xs ≡ ys → 49 ≤ get_or xs 0 0 → 49 ≤ get_or ys 0 0
first_from xs ys same high = let P : List ℕ → Type 0 = λ zs. 49 ≤ get_or zs 0 0 in subst P same high

pub returns-then-is_empty-clause-none : goal.returns-then-is_empty-clause-none
returns-then-is_empty-clause-none c =
    let bytes = c.as_bytes-bytes.result.now in
    not_written c.args.word.now (first_below bytes c.args.word.now c.as_bytes-bytes.ensures.value (elim c.then-is_empty.branch [ then-is_empty-via-then-is_empty w ↦ let e : (length bytes == 0) ≡ true = cc in empty_below bytes e | then-is_empty-via-else-is_empty+then-bytes-lt49 w ↦ w.if-bytes-lt49.true ]))

pub returns-clause-some : goal.returns-clause-some
returns-clause-some c = number_written c.args.word.now c.parse.result c.ok.result c.parse.ensures.value.0 (first_from c.as_bytes-bytes.result.now c.args.word.now c.as_bytes-bytes.ensures.value c.if-bytes-lt49.false) c.ok.ensures.value

pub returns-clause-none : goal.returns-clause-none
returns-clause-none c = no_number c.args.word.now c.parse.result c.ok.result c.parse.ensures.value.0 c.ok.ensures.value
