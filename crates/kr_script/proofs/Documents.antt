-- A document that is read token by token, and what it reads as.
use Rattle.std.proofs.Common.{◌≡◌, ℕ, ◌+◌, ◌-◌, ◌<◌, ◌≤◌, List, [], ◌∷◌, ◌++◌, map, length, codes, Bool, true, false, nat_lt, Option, Some, None, Ok, IfSome, ◌==◌, ◌^◌, slice_index, lt-ltb, refl, sym, ap, subst, ◌∙◌, arith}
use Rattle.std.proofs.lemmas.Bool.Decides.{nat_tests}
use Rattle.std.proofs.lemmas.Bool.{and_parts}
use Rattle.std.specs.Prelude.{IsUtf8}
use Rattle.std.proofs.lemmas.Str.{is_utf8-from_IsUtf8}
use Rattle.json.specs.Lex.{tokens}
use Rattle.json.specs.Token.{Token}
use Rattle.json.specs.Json as json
use Rattle.json.specs.Json.{parse_map, after_end_array, read_key, items, value}
use Rattle.json.proofs.Grammar.{value_is, value-begin_array, value-begin_object, after_end_array-shorter, read_key-shorter, items_more, items_end, members_more, members_end}
use Rattle.serde_json.specs.Data.{Data, unsigned, string, array, object, item, no_members, member, put}
use Rattle.serde_json.specs.Events.{items_len}
use Rattle.std.specs.Option.{SomeIff}
use Rattle.fast_float.specs.Text.{Parts, scan, digits_of, IsInteger}
use Rattle.serde_json.specs.Read.{of_json, of_items, number_of, number_from}
use Rattle.serde_json.specs.View.{items_of}
use Rattle.serde_json.proofs.OnLiterals.{serde_json_on_literals}
use Rattle.kr_model.specs.declared.Op.{Op}
use Rattle.kr_model.specs.declared.Op.TheVariants.{Fetch, Scan, Go, Insert, Delete, Update, Commit, Abort, Back}
use Rattle.kr_model.specs.declared.Event.{Event}
use Rattle.kr_model.specs.Map.{Map, is_above, is_rising}
use Rattle.kr_script.specs.Json.{whole}
use Rattle.kr_script.specs.Line.{document_of, format_number}
use Rattle.kr_script.specs.Pairs.{pair_data, pairs_data}
use Rattle.kr_script.specs.Steps.{event_of, step_of, items_of_op}
use Rattle.kr_script.specs.Faults.{format_faults, is_two, opening_faults, step_faults}
use Rattle.kr_script.specs.Reading.{pairs_of, events_of, document, reading_of}
use Rattle.kr_script.specs.Tokens.{IsNext, AreNext, word_of, behind_word}

-- Values --

integer_from : (p : Parts) → IsInteger p → digits_of p < 2 ^ 64 → number_from false p ≡ Some (unsigned (digits_of p))
integer_from p h low = rw (lt-ltb _ _ h.0, h.1, h.2, lt-ltb _ _ low) refl

-- a text whose digits are a whole number is that number
pub whole_of_scan : (s : List ℕ) (o : Option ℕ) → slice_index s 0 == 45 ≡ false → SomeIff o (IsInteger (scan s) × (digits_of (scan s) < 2 ^ 64)) (digits_of (scan s))
    → IfSome o (λ n. number_of s ≡ Some (unsigned n))
unfolding number_of
whole_of_scan s None e h = tt
whole_of_scan s (Some n) e h = rw e (integer_from (scan s) h.0.0 h.0.1 ∙ ap (λ x. Some (unsigned x)) (sym h.1))

-- what follows from a fact of what there is
pub if_some : {A : Type 0} (o : Option A) (P Q : A → Type 0) → ((a : A) → P a → Q a) → IfSome o P → IfSome o Q
if_some None P Q f h = tt
if_some (Some a) P Q f h = f a h

-- a number's token is that number
pub number_next : (depth : ℕ) (s : List ℕ) (ts : List Token) (n : ℕ) → number_of s ≡ Some (unsigned n) → IsNext depth (Token.number s ∷ ts) (whole n) ts
number_next depth s ts n e = record {
  json = json.number s;
  is = value_is depth (Token.number s ∷ ts);
  reads = rw e refl;
  more = refl;
  shorter = omega arith;
}

-- a text's token is that text
pub string_next : (depth : ℕ) (s : List ℕ) (ts : List Token) → IsNext depth (Token.string s ∷ ts) (string s) ts
string_next depth s ts = record {
  json = json.string s;
  is = value_is depth (Token.string s ∷ ts);
  reads = refl;
  more = refl;
  shorter = omega arith;
}

module _ (depth : ℕ) where
  -- one more value
  pub one_more_next : (a b c : List Token) (ds : List Data) (d : Data) → AreNext depth a ds b → IsNext depth b d c → AreNext depth a (ds ++ d ∷ []) c
  one_more_next a b c [] d h n = (c, subst (λ x. IsNext depth x d c) h n, refl)
  one_more_next a b c (e ∷ ds) d h n = (h.0, h.1, one_more_next h.0 b c ds d h.2 n)

  no_longer : (a b : List Token) (ds : List Data) → AreNext depth a ds b → length b ≤ length a
  no_longer a b [] h = rw h (omega arith)
  no_longer a b (d ∷ ds) h =
      let rest = no_longer h.0 b ds h.2 in
      let first = h.1.shorter in
      omega arith

  items_next : (n : ℕ) (a b r : List Token) (ds : List Data) → AreNext depth a ds b → after_end_array b ≡ Some r → length a ≤ n
      → (js : json.Items) × (items (value depth) n a ≡ Some (js, r)) × (of_items js ≡ Some (items_of ds))
  items_next n a b r [] h e le = (json.no_items, items_end (value depth) n a r le (subst (λ x. after_end_array x ≡ Some r) h e), refl)
  items_next n a b r (d ∷ ds) h e le =
      let first = h.1.shorter in
      let rest = items_next (n - 1) h.0 b r ds h.2 e (omega arith) in (
        json.item h.1.json rest.0,
        items_more (value depth) n a h.0 h.1.json (omega arith) h.1.more h.1.is ∙ ap (parse_map (json.item h.1.json)) rest.1,
        rw (h.1.reads, rest.2) refl,
      )

-- values within brackets are an array
pub array_next : (depth : ℕ) (a b r : List Token) (ds : List Data) → 0 < depth → AreNext (depth - 1) a ds b → after_end_array b ≡ Some r
    → IsNext depth (Token.begin_array ∷ a) (array (items_of ds)) r
array_next depth a b r ds some h e =
    let all = items_next (depth - 1) (length a) a b r ds h e (omega arith) in
    record {
      json = json.array all.0;
      is = value-begin_array depth a some ∙ ap (parse_map json.array) all.1;
      reads = rw all.2 refl;
      more = refl;
      shorter = let low = no_longer (depth - 1) a b ds h in let end = after_end_array-shorter b r e in omega arith;
    }

-- Elements that read back --

-- there is an item for each element
pub as_many : {A : Type 0} (write : A → Data) (xs : List A) → items_len (items_of (map write xs)) ≡ length xs
as_many write [] = refl
as_many write (x ∷ xs) = let more = as_many write xs in omega arith

-- at most 100,000 elements are few items
pub few_items : {A : Type 0} (write : A → Data) (xs : List A) → length xs ≤ 100000 → nat_lt (items_len (items_of (map write xs))) 100001 ≡ true
few_items write xs few = rw (as_many write xs) (grind (arith, nat_tests))

-- elements that read back from what they are written as
abbrev pub ReadBack : {A : Type 0} → (A → Data) → (Data → Option A) → List A → Type 0
ReadBack write read xs = map (λ x. read (write x)) xs ≡ map Some xs

module _ {A : Type 0} (write : A → Data) (read : Data → Option A) where
  pub first_back : (x : A) (xs : List A) → ReadBack write read (x ∷ xs) → (read (write x) ≡ Some x) × ReadBack write read xs
  first_back x xs h = parts (read (write x)) (Some x) (map (λ y. read (write y)) xs) (map Some xs) h
    where
      parts : {B : Type 0} (a b : B) (us vs : List B) → a ∷ us ≡ b ∷ vs → (a ≡ b) × (us ≡ vs)
      parts a b us vs e = (cc, cc)

  pub back_further : (xs : List A) (x : A) → ReadBack write read xs → read (write x) ≡ Some x → ReadBack write read (xs ++ x ∷ [])
  back_further [] x h k = rw k refl
  back_further (y ∷ xs) x h k = let parts = first_back y xs h in rw (parts.0, back_further xs x parts.1 k) refl

-- Pairs --

-- the key before what comes next
abbrev pub last_key : Option ℕ → Map → Option ℕ
last_key before [] = before
last_key before (p ∷ ps) = last_key (Some p.0) ps

pub rises_further : (before : Option ℕ) (ps : Map) (p : ℕ × ℕ) → is_rising before ps ≡ true → is_above p.0 (last_key before ps) ≡ true → is_rising before (ps ++ p ∷ []) ≡ true
rises_further before [] p h k = rw k refl
rises_further before (q ∷ ps) p h k =
    let parts = and_parts (is_above q.0 before) (is_rising (Some q.0) ps) h in
    rw (parts.0, rises_further (Some q.0) ps p parts.1 k) refl

pub last_of_more : (before : Option ℕ) (ps : Map) (p : ℕ × ℕ) → last_key before (ps ++ p ∷ []) ≡ Some p.0
last_of_more before [] p = refl
last_of_more before (q ∷ ps) p = last_of_more (Some q.0) ps p

-- pairs whose keys rise have no fault
pub no_opening_fault : (i : ℕ) (before : Option ℕ) (ps : Map) → is_rising before ps ≡ true → opening_faults i before (items_of (map pair_data ps)) ≡ []
no_opening_fault i before [] h = refl
no_opening_fault i before (p ∷ ps) h =
    let parts = and_parts (is_above p.0 before) (is_rising (Some p.0) ps) h in
    rw (parts.0, no_opening_fault (i + 1) (Some p.0) ps parts.1) refl

-- pairs read back
pub pairs_back : (ps : Map) → pairs_of (items_of (map pair_data ps)) ≡ ps
pairs_back [] = refl
pairs_back (p ∷ ps) = ap (λ l. p ∷ l) (pairs_back ps)

-- Steps --

-- a step's values are its word and what is behind it
pub items_of_step : (op : Op) → item (string (word_of op)) (items_of (behind_word op)) ≡ items_of_op op
items_of_step (Fetch k) = refl
items_of_step (Scan lo hi) = refl
items_of_step Go = refl
items_of_step (Insert k v) = refl
items_of_step (Delete k) = refl
items_of_step (Update k v) = refl
items_of_step Commit = refl
items_of_step Abort = refl
items_of_step Back = refl

module _ (two : Bool) where
  pub no_step_fault : (i : ℕ) (es : List Event) → ReadBack step_of (event_of two) es → step_faults two i (items_of (map step_of es)) ≡ []
  no_step_fault i [] h = refl
  no_step_fault i (e ∷ es) h = let parts = first_back step_of (event_of two) e es h in rw (parts.0, no_step_fault (i + 1) es parts.1) refl

  pub events_back : (es : List Event) → ReadBack step_of (event_of two) es → events_of two (items_of (map step_of es)) ≡ es
  events_back [] h = refl
  events_back (e ∷ es) h = let parts = first_back step_of (event_of two) e es h in rw (parts.0, events_back es parts.1) refl

-- The document --

pub three_put : (f o s : Data) → put (codes "steps") s (put (codes "opening") o (put (codes "format") f no_members)) ≡ member (codes "format") f (member (codes "opening") o (member (codes "steps") s no_members))
unfolding serde_json_on_literals
three_put f o s = refl

-- a document of this format, with these pairs and these steps
abbrev pub document_with : ℕ → Map → List Data → Data
document_with n ps ds = object (member (codes "format") (whole n) (member (codes "opening") (pairs_data ps) (member (codes "steps") (array (items_of ds)) no_members)))

-- the tokens of a script are those of its document
pub document_next : (t0 t1 t2 t3 t4 t5 t6 t7 : List Token) (n : ℕ) (ps : Map) (ds : List Data)
    → read_key t0 ≡ Some (Some (codes "format"), t1) → IsNext 126 t1 (whole n) t2
    → read_key t2 ≡ Some (Some (codes "opening"), t3) → IsNext 126 t3 (pairs_data ps) t4
    → read_key t4 ≡ Some (Some (codes "steps"), t5) → IsNext 126 t5 (array (items_of ds)) t6
    → read_key t6 ≡ Some (None, t7)
    → (j : json.Json) × (value 127 (Token.begin_object ∷ t0) ≡ Some (j, t7)) × (of_json j ≡ Some (document_with n ps ds))
document_next t0 t1 t2 t3 t4 t5 t6 t7 n ps ds kf f ko o ks s end =
    let p = value 126 in
    let len = length t0 in
    let s1 = read_key-shorter t0 (Some (codes "format")) t1 kf in
    let s2 = f.shorter in
    let s3 = read_key-shorter t2 (Some (codes "opening")) t3 ko in
    let s4 = o.shorter in
    let s5 = read_key-shorter t4 (Some (codes "steps")) t5 ks in
    let s6 = s.shorter in
    let ms = json.member (codes "format") f.json (json.member (codes "opening") o.json (json.member (codes "steps") s.json json.no_members)) in (
      json.object ms,
      value-begin_object 127 t0 (omega arith)
          ∙ ap (parse_map json.object)
          (members_more p len (codes "format") t0 t1 t2 f.json (omega arith) kf f.is
          ∙ ap (parse_map (json.member (codes "format") f.json))
          (members_more p (len - 1) (codes "opening") t2 t3 t4 o.json (omega arith) ko o.is
          ∙ ap (parse_map (json.member (codes "opening") o.json))
          (members_more p (len - 1 - 1) (codes "steps") t4 t5 t6 s.json (omega arith) ks s.is
          ∙ ap (parse_map (json.member (codes "steps") s.json)) (members_end p (len - 1 - 1 - 1) t6 t7 (omega arith) end)))),
      rw (f.reads, o.reads, s.reads) (ap (λ l. Some (object l)) (three_put (whole n) (pairs_data ps) (array (items_of ds)))),
    )

-- the number of a format has no fault, and is of that format
format_reads : (two : Bool) → (format_faults (Some (format_number two)) ≡ []) × (is_two (Some (format_number two)) ≡ two)
format_reads true = (refl, refl)
format_reads false = (refl, refl)

-- the document of a script has no fault, and is that script
pub document_reads : (two : Bool) (ps : Map) (es : List Event) → opening_faults 0 None (items_of (map pair_data ps)) ≡ [] → ReadBack step_of (event_of two) es → length ps ≤ 100000 → length es ≤ 100000
    → reading_of (Some (document_of two ps es)) ≡ Ok (record { opening = ps; steps = es })
unfolding serde_json_on_literals
document_reads two ps es rising back few_pairs few_steps =
    let format = format_reads two in
    rw (format.0, format.1, few_items pair_data ps few_pairs, few_items step_of es few_steps, rising, no_step_fault two 0 es back, pairs_back ps, events_back two es back) refl

-- a text whose tokens are a document with this reading reads so
pub text_reads : {R : Type 0} (reads : Option Data → R) (bytes : List ℕ) (r : R) → IsUtf8 bytes → ((j : json.Json) × (value 127 (tokens bytes) ≡ Some (j, [])) × (reads (of_json j) ≡ r))
    → reads (document bytes) ≡ r
text_reads reads bytes r utf8 h = rw (is_utf8-from_IsUtf8 bytes utf8, h.1) h.2
