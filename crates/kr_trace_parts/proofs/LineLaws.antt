-- The lines of a text: where its first one ends.
use Rattle.std.specs.Prelude.{◌≡◌, ◌≢◌, ℕ, zero, suc, ◌<◌, ◌≤◌, ◌==◌, Bool, true, false, cond, List, [], ◌∷◌, ◌++◌, Option, Some, length, refl, slice_get, take, drop}
use Rattle.std.proofs.Common.{sym, ◌∙◌, ap, subst, arith, ne_eqb, append_assoc, append-nil}
use Rattle.std.proofs.lemmas.List.{length-append, take-append-drop}
use Rattle.kr_trace_parts.specs.Lines.{BeginTooLong, HasNoLineFeed, IsLeft, MayGive, byte_before, lines_of, some_given}

-- what isn't a line feed is told from one
not_feed : (b : ℕ) → b ≢ 10 → (b == 10) ≡ false
not_feed b h = ne_eqb b 10 h

some_byte : (b : ℕ) → Some b ≢ Some 10 → b ≢ 10
some_byte b h same = h (ap (λ (x : ℕ). Some x) same)

-- the first byte isn't a line feed, and behind it there is none
first_is_none : (b : ℕ) (bs : List ℕ) (n : ℕ) → HasNoLineFeed (suc n) (b ∷ bs) → b ≢ 10
first_is_none b bs n h = some_byte b (h 0 (omega arith))

rest_has_none : (b : ℕ) (bs : List ℕ) (n : ℕ) → HasNoLineFeed (suc n) (b ∷ bs) → HasNoLineFeed n bs
rest_has_none b bs n h i lt = h (suc i) (omega (arith, lt))

-- one byte more before a line
line_before : (b : ℕ) (bs : List ℕ) → b ≢ 10 → lines_of (b ∷ bs) ≡ byte_before b (lines_of bs)
line_before b bs h = ap (λ t. cond t ([] ∷ lines_of bs) (byte_before b (lines_of bs))) (not_feed b h)

-- The first line of bytes with a line feed ends before it.
pub first_line : (front bs : List ℕ) → HasNoLineFeed (length front) front → lines_of (front ++ 10 ∷ bs) ≡ front ∷ lines_of bs
first_line [] bs h = refl
first_line (b ∷ front) bs h =
    line_before b (front ++ 10 ∷ bs) (first_is_none b front (length front) h)
    ∙ ap (byte_before b) (first_line front bs (rest_has_none b front (length front) h))

-- Bytes without a line feed are one line, unless they are none.
pub last_line : (b : ℕ) (bs : List ℕ) → HasNoLineFeed (suc (length bs)) (b ∷ bs) → lines_of (b ∷ bs) ≡ (b ∷ bs) ∷ []
last_line b [] h = line_before b [] (first_is_none b [] 0 h)
last_line b (d ∷ bs) h =
    line_before b (d ∷ bs) (first_is_none b (d ∷ bs) (suc (length bs)) h)
    ∙ ap (byte_before b) (last_line d bs (rest_has_none b (d ∷ bs) (suc (length bs)) h))

-- The first of lines has at least this many bytes.
abbrev AtLeast : ℕ → List (List ℕ) → Type 0
AtLeast n [] = n ≡ 0
AtLeast n (line ∷ lines) = n ≤ length line

one_longer : (b n : ℕ) (lines : List (List ℕ)) → AtLeast n lines → AtLeast (suc n) (byte_before b lines)
one_longer b n [] h = omega (arith, h)
one_longer b n (line ∷ lines) h = omega (arith, h)

at_least : (n : ℕ) (bytes : List ℕ) → n ≤ length bytes → HasNoLineFeed n bytes → AtLeast n (lines_of bytes)
at_least zero [] least h = refl
at_least (suc n) [] least h = absurd (omega (arith, least))
at_least zero (b ∷ bs) least h = none_at_all (lines_of (b ∷ bs))
  where
    none_at_all : (lines : List (List ℕ)) → AtLeast 0 lines
    none_at_all [] = refl
    none_at_all (line ∷ lines) = omega arith
at_least (suc n) (b ∷ bs) least h =
    subst (AtLeast (suc n)) (sym (line_before b bs (first_is_none b bs n h)))
    (one_longer b n (lines_of bs) (at_least n bs (omega (arith, least)) (rest_has_none b bs n h)))

too_long : (lines : List (List ℕ)) (n : ℕ) → 16777216 < n → AtLeast n lines → BeginTooLong lines
too_long [] n more h = absurd (omega (arith, more, h))
too_long (line ∷ lines) n more h = omega (arith, more, h)

-- Bytes that begin with more than a line may have, and no line feed among these, begin with a line that is too long.
pub begin_too_long : (bytes : List ℕ) (n : ℕ) → 16777216 < n → n ≤ length bytes → HasNoLineFeed n bytes → BeginTooLong (lines_of bytes)
begin_too_long bytes n more least h = too_long (lines_of bytes) n more (at_least n bytes least h)

-- What is given --

get_left : (xs ys : List ℕ) (i : ℕ) → i < length xs → slice_get (xs ++ ys) i ≡ slice_get xs i
get_left [] ys i lt = absurd (omega (arith, lt))
get_left (x ∷ xs) ys zero lt = refl
get_left (x ∷ xs) ys (suc i) lt = get_left xs ys i (omega (arith, lt))

-- Bytes without a line feed have none where more stand behind them, and the other way.
pub none_in_more : (n : ℕ) (xs ys : List ℕ) → n ≤ length xs → HasNoLineFeed n xs → HasNoLineFeed n (xs ++ ys)
none_in_more n xs ys least h i lt same = h i lt (sym (get_left xs ys i (omega (arith, lt, least))) ∙ same)

pub none_in_front : (n : ℕ) (xs ys : List ℕ) → n ≤ length xs → HasNoLineFeed n (xs ++ ys) → HasNoLineFeed n xs
none_in_front n xs ys least h i lt same = h i lt (get_left xs ys i (omega (arith, lt, least)) ∙ same)

-- A line that ends before a line feed, and then the lines of what is left behind it.
pub line_given : (ended : Bool) (known : Option (List ℕ)) (line after : List ℕ) (lines : List (List ℕ)) → HasNoLineFeed (length line) (line ++ 10 ∷ after)
    → MayGive ended known after lines → MayGive ended known (line ++ 10 ∷ after) (line ∷ lines)
line_given ended known line after lines h g =
    let rest : List ℕ = g.1.0.0 in
    let bytes : List ℕ = (line ++ 10 ∷ after) ++ rest in
    let same : bytes ≡ line ++ 10 ∷ (after ++ rest) = append_assoc line (10 ∷ after) rest in
    let behind : lines ≡ lines_of (after ++ rest) = g.1.1 ∙ ap lines_of g.1.0.1.1 in (
      bytes,
      (
        (rest, (g.1.0.1.0, refl)),
        ap (λ (z : List (List ℕ)). line ∷ z) behind
            ∙ sym (first_line line (after ++ rest) (none_in_front (length line) line (10 ∷ after) (omega arith) h))
            ∙ ap lines_of (sym same),
      ),
    )

-- The last line.
pub last_given : (known : Option (List ℕ)) (line : List ℕ) (lines : List (List ℕ)) → 0 < length line → HasNoLineFeed (length line) line
    → MayGive true known [] lines → MayGive true known line (line ∷ lines)
last_given known [] lines some h g = absurd (omega (arith, some))
last_given known (b ∷ bs) lines some h g =
    let none : lines ≡ [] = g.1.1 ∙ ap lines_of (g.1.0.1.1 ∙ g.1.0.1.0) in (
      (b ∷ bs) ++ [],
      (
        ([], (refl, refl)),
        ap (λ (z : List (List ℕ)). (b ∷ bs) ∷ z) none ∙ sym (last_line b bs h) ∙ ap lines_of (sym (append-nil (b ∷ bs))),
      ),
    )

-- Where nothing is left there is no line.
pub none_given : (known : Option (List ℕ)) (ahead : List ℕ) → length ahead ≡ 0 → MayGive true known ahead []
none_given known [] h = ([], (([], (refl, refl)), refl))
none_given known (b ∷ bs) h = absurd (omega (arith, h))

-- The same is given by the same reader.
pub same_given : (e f : Bool) (k o : Option (List ℕ)) (ahead : List ℕ) (lines : List (List ℕ)) → e ≡ f → k ≡ o → MayGive e k ahead lines → MayGive f o ahead lines
same_given e f k o ahead lines ended known g = subst (λ (z : Option (List ℕ)). MayGive f z ahead lines) known (subst (λ (z : Bool). MayGive z k ahead lines) ended g)

-- A line that is too long.
pub long_given : (ended : Bool) (known : Option (List ℕ)) (ahead : List ℕ) (n : ℕ) → 16777216 < n → n ≤ length ahead → HasNoLineFeed n ahead
    → (lines : List (List ℕ)) × (MayGive ended known ahead lines × BeginTooLong lines)
long_given ended known ahead n more least h =
    let g = some_given ended known ahead in
    let rest : List ℕ = g.1.1.0.0 in
    let is : g.0 ≡ lines_of (ahead ++ rest) = g.1.1.1 ∙ ap lines_of g.1.1.0.1.1 in
    (g.0, (g.1, subst BeginTooLong (sym is) (begin_too_long (ahead ++ rest) n more (omega (arith, least, length-append ahead rest)) (none_in_more n ahead rest least h))))

-- What may be given now is what may be given at first, where what is left now was left at first.
pub given_before : (e f : Bool) (k o : Option (List ℕ)) (a b : List ℕ) → ((bytes : List ℕ) → IsLeft e k a bytes → IsLeft f o b bytes) → (lines : List (List ℕ)) → MayGive e k a lines → MayGive f o b lines
given_before e f k o a b same lines g = (g.0, (same g.0 g.1.0, g.1.1))

-- A line as it is taken.
pub taken_given : (ended : Bool) (known : Option (List ℕ)) (bytes ahead line after : List ℕ) (end : ℕ) (lines : List (List ℕ)) → bytes ≡ ahead → HasNoLineFeed end bytes
    → ahead ≡ line ++ 10 ∷ after → length line ≡ end → MayGive ended known after lines → MayGive ended known ahead (line ∷ lines)
taken_given ended known bytes ahead line after end lines same h parts len g =
    let none : HasNoLineFeed (length line) (line ++ 10 ∷ after) =
    subst (λ (xs : List ℕ). HasNoLineFeed (length line) xs) (same ∙ parts) (subst (λ (n : ℕ). HasNoLineFeed n bytes) (sym len) h) in
    subst (λ (xs : List ℕ). MayGive ended known xs (line ∷ lines)) (sym parts) (line_given ended known line after lines none g)

-- What is left after a piece was read.
pub piece_left : (ended : Bool) (known now : Option (List ℕ)) (ahead more : List ℕ) → ((bytes : List ℕ) → IsLeft false now more bytes → IsLeft false known ahead bytes)
    → (ended ≡ true → IsLeft false known ahead more) → (bytes : List ℕ) → IsLeft ended now more bytes → IsLeft false known ahead bytes
piece_left true known now ahead more f g bytes h =
    subst (IsLeft false known ahead) (sym (h.1.1 ∙ ap (λ (z : List ℕ). more ++ z) h.1.0 ∙ append-nil more)) (g refl)
piece_left false known now ahead more f g bytes h = f bytes h

-- The bytes seen have no line feed where more were read behind them.
pub seen_in_more : (n : ℕ) (old new : List ℕ) → n ≡ length old → HasNoLineFeed n old → take (length old) new ≡ old → HasNoLineFeed n new
seen_in_more n old new len h front =
    subst (HasNoLineFeed n) (ap (λ (z : List ℕ). z ++ drop (length old) new) (sym front) ∙ take-append-drop (length old) new)
    (none_in_more n old (drop (length old) new) (omega (arith, len)) h)

pub front_within : (n : ℕ) (old new : List ℕ) → n ≡ length old → take (length old) new ≡ old → n ≤ length new
front_within n old new len front =
    let whole = ap (λ (z : List ℕ). length z) (ap (λ (z : List ℕ). z ++ drop (length old) new) (sym front) ∙ take-append-drop (length old) new) in
    let parts = length-append old (drop (length old) new) in
    omega (arith, len, whole, parts)
