-- A line that tells something of a word has no line feed, and so what a program prints as it ends has one line.
use Rattle.std.specs.Prelude.{◌≡◌, ◌≢◌, ◌≤◌, ◌+◌, ◌/◌, ◌%◌, ◌==◌, ℕ, zero, suc, Bool, true, false, List, [], ◌∷◌, ◌++◌, Option, codes, if◌then◌else◌, nat_lt}
use Rattle.std.proofs.Common.{append_assoc, arith, inl, inr, refl, subst, sym}
use Rattle.std.specs.Char.{encode_utf8, is_control}
use Rattle.std.specs.Fmt.{digit_glyph, digits, digits_onto}
use Rattle.std.specs.List.{flat_map, list_all}
use Rattle.std.specs.Str.{chars}
use Rattle.std.proofs.lemmas.Bool.{ltb-true}
use Rattle.std.proofs.lemmas.List.Elements.{All-append}
use Rattle.std.proofs.lemmas.List.Sums.{AllPass-from_list_all}
use Rattle.kr_sink.specs.Puts.{AppendsFront}
use Rattle.kr_cli.specs.declared.endings.Ending.{Ending}
use Rattle.kr_cli.specs.Endings.{TellsOneLine, ending_line, line_of}
use Rattle.kr_cli.specs.Named.{TellsNoScript, TellsNoTable}
use Rattle.kr_cli.specs.Lines.{HasNoLineFeed, shown, told_line}

none_in_nothing : HasNoLineFeed []
none_in_nothing = λ k d within. absurd (omega (arith, within))

none_in_more : (b : ℕ) (bs : List ℕ) → b ≢ 10 → HasNoLineFeed bs → HasNoLineFeed (b ∷ bs)
none_in_more b bs other none zero d within = other
none_in_more b bs other none (suc k) d within = none k d (omega (arith, within))

-- whichever of two it is
none_in_either : (b : Bool) (xs ys : List ℕ) → HasNoLineFeed xs → HasNoLineFeed ys → HasNoLineFeed (if b then xs else ys)
none_in_either true xs ys first second = first
none_in_either false xs ys first second = second

-- bytes that are all above 10
pub none_above : (bs : List ℕ) → list_all (λ b. nat_lt 10 b) bs ≡ true → HasNoLineFeed bs
none_above bs above = λ k d within ten. omega (arith, ten, ltb-true 10 _ (AllPass-from_list_all (λ b. nat_lt 10 b) bs above k d within))

-- a digit is from 48 on
glyph_from_48 : (b : Bool) (d : ℕ) → 48 ≤ (if b then 48 + d else 87 + d)
glyph_from_48 true d = omega arith
glyph_from_48 false d = omega arith

none_in_digits : (k base n : ℕ) (acc : List ℕ) → HasNoLineFeed acc → HasNoLineFeed (digits_onto k base false n acc)
none_in_digits zero base n acc none = none
none_in_digits (suc k) base n acc none =
    let digit = glyph_from_48 (nat_lt (n % base) 10) (n % base) in
    let more : HasNoLineFeed (digit_glyph false (n % base) ∷ acc) = none_in_more _ acc (λ ten. omega (arith, ten, digit)) none in
    none_in_either (n / base == 0) _ _ more (none_in_digits k base (n / base) _ more)

none_in_number : (n : ℕ) → HasNoLineFeed (digits 16 false n)
unfolding digits
none_in_number n = none_in_digits 64 16 n [] none_in_nothing

-- a byte of a character that takes more than one
above : (from b : ℕ) → 11 ≤ from → from + b ≢ 10
above from b far ten = omega (arith, far, ten)

-- the bytes of a character that isn't the line feed
none_in_char : (c : ℕ) → c ≢ 10 → HasNoLineFeed (encode_utf8 c)
unfolding encode_utf8
none_in_char c other =
    let last : List ℕ = (128 + c % 64) ∷ [] in
    let two : List ℕ = (128 + (c / 64) % 64) ∷ last in
    let three : List ℕ = (128 + (c / 4096) % 64) ∷ two in
    let in_last : HasNoLineFeed last = none_in_more (128 + c % 64) [] (above 128 (c % 64) (omega arith)) none_in_nothing in
    let in_two : HasNoLineFeed two = none_in_more (128 + (c / 64) % 64) last (above 128 ((c / 64) % 64) (omega arith)) in_last in
    let in_three : HasNoLineFeed three = none_in_more (128 + (c / 4096) % 64) two (above 128 ((c / 4096) % 64) (omega arith)) in_two in
    let from_two : HasNoLineFeed ((192 + c / 64) ∷ last) = none_in_more (192 + c / 64) last (above 192 (c / 64) (omega arith)) in_last in
    let from_three : HasNoLineFeed ((224 + c / 4096) ∷ two) = none_in_more (224 + c / 4096) two (above 224 (c / 4096) (omega arith)) in_two in
    let from_four : HasNoLineFeed ((240 + c / 262144) ∷ three) = none_in_more (240 + c / 262144) three (above 240 (c / 262144) (omega arith)) in_three in
    none_in_either (nat_lt c 128) (c ∷ []) _ (none_in_more c [] other none_in_nothing) (none_in_either (nat_lt c 2048) ((192 + c / 64) ∷ last) _ from_two (none_in_either (nat_lt c 65536) ((224 + c / 4096) ∷ two) ((240 + c / 262144) ∷ three) from_three from_four))

none_in_shown : (c : ℕ) (b : Bool) → is_control c ≡ b → HasNoLineFeed (if b then codes "\\u{" ++ (digits 16 false c ++ codes "}") else encode_utf8 c)
none_in_shown c true is =
    let P : ℕ → Type 0 = λ b. b ≢ 10 in
    All-append P (codes "\\u{") (digits 16 false c ++ codes "}") (none_above (codes "\\u{") refl) (All-append P (digits 16 false c) (codes "}") (none_in_number c) (none_above (codes "}") refl))
none_in_shown c false is = none_in_char c (λ ten. let control : true ≡ false = subst (λ (x : ℕ). is_control x ≡ false) ten is in absurd cc)

none_in_all : (cs : List ℕ) → HasNoLineFeed (flat_map shown cs)
none_in_all [] = none_in_nothing
none_in_all (c ∷ cs) = All-append (λ b. b ≢ 10) (shown c) (flat_map shown cs) (none_in_shown c (is_control c) refl) (none_in_all cs)

pub told_has_no_line_feed : (word what : List ℕ) → HasNoLineFeed (told_line word what)
told_has_no_line_feed word what = none_in_all (chars (word ++ (codes ": " ++ what)))

-- so has one that says why a word names no table or no script
told_none : (word what line : List ℕ) → line ≡ told_line word what → HasNoLineFeed line
told_none word what line is = subst HasNoLineFeed (sym is) (told_has_no_line_feed word what)

pub none_in_no_table : (may_give : List ℕ → Option (List ℕ) → Type 0) (word line : List ℕ) → TellsNoTable may_give word line → HasNoLineFeed line
none_in_no_table may_give word line (inl (none, is)) = told_none word _ line is
none_in_no_table may_give word line (inr (bytes, (had, (f, (is_fault, is))))) = told_none word _ line is

pub none_in_no_script : (may_give : List ℕ → Option (List ℕ) → Type 0) (word line : List ℕ) → TellsNoScript may_give word line → HasNoLineFeed line
none_in_no_script may_give word line (inl (none, is)) = told_none word _ line is
none_in_no_script may_give word line (inr (bytes, (had, (f, (is_fault, is))))) = told_none word _ line is

-- the line of an ending whose text has none
pub one_line : (e : Ending) (old new : Option (List ℕ)) → HasNoLineFeed (line_of e) → AppendsFront old new (ending_line e) → TellsOneLine old new
one_line e old new in_line front =
    let P : ℕ → Type 0 = λ b. b ≢ 10 in
    let line : List ℕ = codes "kr: " ++ line_of e in
    let none : HasNoLineFeed line = All-append P (codes "kr: ") (line_of e) (none_above (codes "kr: ") refl) in_line in
    let same : ending_line e ≡ line ++ 10 ∷ [] = sym (append_assoc (codes "kr: ") (line_of e) (10 ∷ [])) in
    (line, (none, subst (λ (text : List ℕ). AppendsFront old new text) same front))
