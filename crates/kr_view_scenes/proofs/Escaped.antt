-- A character of a text as it stands in a page.
use Rattle.std.specs.Prelude.{ℕ, List, [], ◌∷◌, ◌++◌, ◌<◌, ◌≡◌, ◌≢◌, Result, Ok, Err, OnOk, is_ok, length, if◌then◌else◌, refl}
use Rattle.std.proofs.Common.{sym, ap, arith, ◌∙◌, get_or, encode_utf8_all, suc}
use Rattle.std.proofs.lemmas.List.{append-nil}
use Rattle.std.proofs.lemmas.List.Concat.{flat_map-append}
use Rattle.std.proofs.lemmas.Bool.Decides.{nat_tests}
use Rattle.std.proofs.lemmas.Str.{inside_one, encodes-append}
use Rattle.std.proofs.Math.Utf8.{encode}
use Rattle.kr_view_scenes.specs.Escape.{escaped_byte, escaped}

-- a piece that was written is an escaped character
written : {A E : Type 0} (r : Result A E) (page piece new : List ℕ) (c : ℕ) → piece ≡ escaped (encode c) → new ≡ (if is_ok r then page ++ piece else page) → OnOk r (new ≡ page ++ escaped (encode c))
written (Err e) page piece new c same is_new = tt
written (Ok a) page piece new c same is_new = is_new ∙ ap (λ b. page ++ b) same

-- an entity is the escaped form of its character
pub entity : {A E : Type 0} (r : Result A E) (page piece new : List ℕ) (c d : ℕ) → c ≡ d → piece ≡ escaped (encode d) → new ≡ (if is_ok r then page ++ piece else page) → OnOk r (new ≡ page ++ escaped (encode c))
entity r page piece new c d e same is_new = written r page piece new c (same ∙ ap (λ x. escaped (encode x)) (sym e)) is_new

-- a byte that none of the five marks is stays
byte_stays : (b : ℕ) → b ≢ 60 → b ≢ 62 → b ≢ 38 → b ≢ 34 → b ≢ 39 → escaped_byte b ≡ b ∷ []
byte_stays b lt gt amp quot apos = grind (arith, nat_tests)

-- and so do bytes of which each is none of them
bytes_stay : (bs : List ℕ) → ((k : ℕ) → k < length bs → escaped_byte (get_or bs k 0) ≡ get_or bs k 0 ∷ []) → escaped bs ≡ bs
bytes_stay [] each = refl
bytes_stay (b ∷ bs) each = ap (λ x. x ++ escaped bs) (each 0 (omega arith)) ∙ ap (λ x. b ∷ x) (bytes_stay bs (λ k low. each (suc k) (omega arith)))

-- a byte of a character that isn't the one mark isn't the mark either
not_the_mark : (c m k : ℕ) → m < 128 → c ≢ m → k < length (encode c) → get_or (encode c) k 0 ≢ m
not_the_mark c m k ascii other low same = other (inside_one c [] (encode c) k (sym (append-nil (encode c))) low (omega arith) ∙ same)

-- a character that is none of the five stays
pub stays : {A E : Type 0} (r : Result A E) (page new : List ℕ) (c : ℕ) → c ≢ 60 → c ≢ 62 → c ≢ 38 → c ≢ 34 → c ≢ 39 → new ≡ (if is_ok r then page ++ encode c else page) → OnOk r (new ≡ page ++ escaped (encode c))
stays r page new c lt gt amp quot apos is_new =
    written r page (encode c) new c (sym (bytes_stay (encode c) (λ k low. byte_stays (get_or (encode c) k 0) (not_the_mark c 60 k (omega arith) lt low) (not_the_mark c 62 k (omega arith) gt low) (not_the_mark c 38 k (omega arith) amp low) (not_the_mark c 34 k (omega arith) quot low) (not_the_mark c 39 k (omega arith) apos low)))) is_new

-- a text behind which an escaped character was written is the escaped text of one more character
pub one_more : (page new : List ℕ) (cs : List ℕ) (c : ℕ) → page ≡ escaped (encode_utf8_all cs) → new ≡ page ++ escaped (encode c) → new ≡ escaped (encode_utf8_all (cs ++ c ∷ []))
one_more page new cs c so_far e =
    let first : new ≡ escaped (encode_utf8_all cs) ++ escaped (encode c) = e ∙ ap (λ b. b ++ escaped (encode c)) so_far in
    let last : encode_utf8_all (cs ++ c ∷ []) ≡ encode_utf8_all cs ++ encode c = encodes-append cs (c ∷ []) ∙ ap (λ b. encode_utf8_all cs ++ b) (append-nil (encode c)) in
    first ∙ sym (flat_map-append escaped_byte (encode_utf8_all cs) (encode c)) ∙ ap escaped (sym last)
