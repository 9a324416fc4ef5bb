-- A script's line reads as the script.
use Rattle.std.proofs.Common.{◌≡◌, ℕ, ◌+◌, ◌*◌, ◌<◌, ◌≤◌, ◌^◌, ◌||◌, List, [], ◌∷◌, ◌++◌, map, length, codes, decimal, Bool, true, false, nat_lt, Some, None, Ok, All, refl, sym, ap, ◌∙◌, append_assoc, append-nil, option_and_then, arith}
use Rattle.std.specs.Prelude.{IsUtf8, max}
use Rattle.std.specs.Ordering.{nat_cmp, is_lt}
use Rattle.std.specs.FinMap.{is_sorted}
use Rattle.std.specs.FinMap.Entries.{below_all}
use Rattle.std.proofs.lemmas.Bool.{and_parts}
use Rattle.std.proofs.lemmas.Bool.Decides.{nat_tests}
use Rattle.std.proofs.lemmas.Fmt.{length-decimal-le}
use Rattle.std.proofs.lemmas.List.{length-append}
use Rattle.std.proofs.lemmas.List.Elements.{All-head, All-tail}
use Rattle.std.proofs.lemmas.Str.{is_utf8-from_IsUtf8}
use Rattle.json.specs.Json as json
use Rattle.json.specs.Tree as tree
use Rattle.json.specs.Tree.{HasNumbers, ItemsHaveNumbers}
use Rattle.json.proofs.Printed.Decimals.{IsNumber-decimal}
use Rattle.json.specs.Lex.{tokens}
use Rattle.json.proofs.Printed.Tokens.{tokens-print}
use Rattle.json.proofs.Printed.Trees.{ArePrintable-json_tokens, value-json_tokens}
use Rattle.serde_json.specs.Data.{Data, string, array, object, Items, no_items, item}
use Rattle.serde_json.specs.Read.{of_json, of_items, read}
use Rattle.serde_json.specs.View.{items_of}
use Rattle.serde_json.specs.Written.{outline, items_outline, compact_text, items_text}
use Rattle.serde_json.proofs.Numbers.{number_of-decimal}
use Rattle.serde_json.proofs.OnLiterals.{serde_json_on_literals}
use Rattle.serde_json.proofs.Texts.{print-outline}
use Rattle.kr_model.specs.declared.Op.{Op}
use Rattle.kr_model.specs.declared.Op.TheVariants.{Fetch, Scan, Go, Insert, Delete, Update, Commit, Abort, Back}
use Rattle.kr_model.specs.declared.Event.{Event}
use Rattle.kr_model.specs.Map.{Map, is_rising}
use Rattle.kr_script.specs.Json.{whole}
use Rattle.kr_script.specs.Line.{needs_two, format_number, steps_data, document_of, line_text, PairFits, OpFits, EventFits}
use Rattle.kr_script.specs.Pairs.{pair_data, pairs_data}
use Rattle.kr_script.specs.Reading.{reading}
use Rattle.kr_script.specs.Script.{IsScript}
use Rattle.kr_script.specs.Steps.{event_of, is_later, items_of_op, step_of}
use Rattle.kr_script.proofs.Documents.{ReadBack, no_opening_fault, three_put, document_reads}
use Rattle.kr_script.proofs.Written.{reads_back}

-- Values whose texts read back --

-- a value whose text reads back, which nests no deeper than the number, and whose text is no longer than the other
record Reads (deep long : ℕ) (d : Data) : Type 0 where
  numbers : HasNumbers (outline d)
  back : of_json (outline d) ≡ Some d
  shallow : tree.depth (outline d) ≤ deep
  short : length (compact_text d) ≤ long

-- the same of values, with the closing bracket
record AllRead (deep long : ℕ) (ds : Items) : Type 0 where
  numbers : ItemsHaveNumbers (items_outline ds)
  back : of_items (items_outline ds) ≡ Some ds
  shallow : tree.items_depth (items_outline ds) ≤ deep
  short : (later : Bool) → length (items_text later ds) ≤ long

number_reads : (n : ℕ) → n < 2 ^ 64 → Reads 0 20 (whole n)
number_reads n h = record {
  numbers = IsNumber-decimal n h;
  back = rw (number_of-decimal n h) refl;
  shallow = omega arith;
  short = length-decimal-le 20 n (omega arith) (omega arith) h;
}

none_read : (deep : ℕ) → AllRead deep 1 no_items
none_read deep = record { numbers = tt; back = refl; shallow = omega arith; short = λ later. omega arith }

larger : (a b n : ℕ) → a ≤ n → b ≤ n → max a b ≤ n
larger a b n h k = omega arith

item_reads : (deep long more : ℕ) (d : Data) (ds : Items) → Reads deep long d → AllRead deep more ds → AllRead deep (long + more + 1) (item d ds)
item_reads deep long more d ds h k = record {
  numbers = (h.numbers, k.numbers);
  back = rw (h.back, k.back) refl;
  shallow = larger (tree.depth (outline d)) (tree.items_depth (items_outline ds)) deep h.shallow k.shallow;
  short = short;
}
  where
    short : (later : Bool) → length (items_text later (item d ds)) ≤ long + more + 1
    short true = omega (arith, length-append (compact_text d) (items_text true ds), h.short, k.short true)
    short false = omega (arith, length-append (compact_text d) (items_text true ds), h.short, k.short true)

array_reads : (deep long : ℕ) (ds : Items) → AllRead deep long ds → Reads (deep + 1) (long + 1) (array ds)
array_reads deep long ds h = record {
  numbers = h.numbers;
  back = rw h.back refl;
  shallow = let s = h.shallow in omega arith;
  short = let s = h.short false in omega arith;
}

wider : (deep a b : ℕ) (ds : Items) → a ≤ b → AllRead deep a ds → AllRead deep b ds
wider deep a b ds le h = record { numbers = h.numbers; back = h.back; shallow = h.shallow; short = λ later. let s = h.short later in omega arith }

-- how long the texts of so many elements are, with commas and the closing bracket
abbrev total : {A : Type 0} → ℕ → List A → ℕ
total long [] = 1
total long (x ∷ xs) = long + total long xs + 1

list_reads : {A : Type 0} (f : A → Data) (P : A → Type 0) (deep long : ℕ) → ((a : A) → P a → Reads deep long (f a)) → (xs : List A) → All P xs → AllRead deep (total long xs) (items_of (map f xs))
list_reads f P deep long each [] h = none_read deep
list_reads f P deep long each (x ∷ xs) h =
    item_reads deep long (total long xs) (f x) (items_of (map f xs)) (each x (All-head P x xs h)) (list_reads f P deep long each xs (All-tail P x xs h))

-- Pairs and steps --

pair_reads : (p : ℕ × ℕ) → PairFits p → Reads 1 44 (pair_data p)
pair_reads p h =
    array_reads 0 43 _ (item_reads 0 20 22 (whole p.0) _ (number_reads p.0 h.0) (item_reads 0 20 1 (whole p.1) _ (number_reads p.1 h.1) (none_read 0)))

-- the words of operations
module _ (word : List ℕ) (h : length (compact_text (string word)) ≤ 8) where
  word_reads : Reads 0 8 (string word)
  word_reads = record { numbers = tt; back = refl; shallow = omega arith; short = h }

  alone_reads : AllRead 0 52 (item (string word) no_items)
  alone_reads = wider 0 10 52 _ (omega arith) (item_reads 0 8 1 _ _ word_reads (none_read 0))

  one_reads : (n : ℕ) → n < 2 ^ 64 → AllRead 0 52 (item (string word) (item (whole n) no_items))
  one_reads n k = wider 0 31 52 _ (omega arith) (item_reads 0 8 22 _ _ word_reads (item_reads 0 20 1 _ _ (number_reads n k) (none_read 0)))

  two_read : (m n : ℕ) → m < 2 ^ 64 → n < 2 ^ 64 → AllRead 0 52 (item (string word) (item (whole m) (item (whole n) no_items)))
  two_read m n k l = item_reads 0 8 43 _ _ word_reads (item_reads 0 20 22 _ _ (number_reads m k) (item_reads 0 20 1 _ _ (number_reads n l) (none_read 0)))

op_reads : (op : Op) → OpFits op → AllRead 0 52 (items_of_op op)
unfolding serde_json_on_literals
op_reads (Fetch k) h = one_reads (codes "fetch") (omega arith) k h
op_reads (Scan lo hi) h = two_read (codes "scan") (omega arith) lo hi h.0 h.1
op_reads Go h = alone_reads (codes "go") (omega arith)
op_reads (Insert k v) h = two_read (codes "insert") (omega arith) k v h.0 h.1
op_reads (Delete k) h = one_reads (codes "delete") (omega arith) k h
op_reads (Update k v) h = two_read (codes "update") (omega arith) k v h.0 h.1
op_reads Commit h = alone_reads (codes "commit") (omega arith)
op_reads Abort h = alone_reads (codes "abort") (omega arith)
op_reads Back h = alone_reads (codes "back") (omega arith)

step_reads : (e : Event) → EventFits e → Reads 1 74 (step_of e)
step_reads e h = array_reads 0 73 _ (item_reads 0 20 52 (whole e.txn) _ (number_reads e.txn (let l = h.0 in omega arith)) (op_reads e.op h.1))

pairs_long : (ps : Map) → total 44 ps ≤ 45 * length ps + 1
pairs_long [] = omega arith
pairs_long (p ∷ ps) = let more = pairs_long ps in omega arith

steps_long : (es : List Event) → total 74 es ≤ 75 * length es + 1
steps_long [] = omega arith
steps_long (e ∷ es) = let more = steps_long es in omega arith

-- The document --

format_reads : (two : Bool) → Reads 0 20 (whole (format_number two))
format_reads true = number_reads 2 (omega arith)
format_reads false = number_reads 1 (omega arith)

module _ (two : Bool) (ps : Map) (es : List Event) (fit : All PairFits ps) (fits : All EventFits es) where
  opening : Reads 2 (total 44 ps + 1) (pairs_data ps)
  opening = array_reads 1 (total 44 ps) _ (list_reads pair_data PairFits 1 44 pair_reads ps fit)

  steps : Reads 2 (total 74 es + 1) (steps_data es)
  steps = array_reads 1 (total 74 es) _ (list_reads step_of EventFits 1 74 step_reads es fits)

  format : Reads 0 20 (whole (format_number two))
  format = format_reads two

  document_back : of_json (outline (document_of two ps es)) ≡ Some (document_of two ps es)
  document_back = rw (format.back, opening.back, steps.back) (ap (λ l. Some (object l)) (three_put (whole (format_number two)) (pairs_data ps) (steps_data es)))

  document_deep : tree.depth (outline (document_of two ps es)) ≤ 127
  document_deep =
      let a = format.shallow in
      let b = opening.shallow in
      let c = steps.shallow in
      omega arith

  document_numbers : HasNumbers (outline (document_of two ps es))
  document_numbers = (format.numbers, (opening.numbers, (steps.numbers, tt)))

  -- its text reads as it
  document_read : read (compact_text (document_of two ps es)) ≡ Some (document_of two ps es)
  document_read =
      let d = document_of two ps es in
      let ts = tree.json_tokens (outline d) in
      let same : tokens (compact_text d) ≡ ts = ap tokens (sym (print-outline d)) ∙ tokens-print ts (ArePrintable-json_tokens (outline d) document_numbers) in
      ap (λ o. option_and_then of_json (option_and_then (λ p. json.if_last p.0 p.1) o))
      (ap (json.value 127) (same ∙ sym (append-nil ts)) ∙ value-json_tokens (outline d) 127 [] document_deep)
      ∙ document_back

  document_short : length (compact_text (document_of two ps es)) ≤ total 44 ps + total 74 es + 100
  unfolding serde_json_on_literals
  document_short =
      let a = decimal (format_number two) in
      let b = compact_text (pairs_data ps) in
      let c = compact_text (steps_data es) in
      let f = format.short in
      let o = opening.short in
      let s = steps.short in
      omega (arith, length-append a (codes ",\"opening\":" ++ (b ++ (codes ",\"steps\":" ++ (c ++ codes "}")))), length-append b (codes ",\"steps\":" ++ (c ++ codes "}")), length-append c (codes "}"))

-- Keys that rise --

above : (a b : ℕ) → is_lt (nat_cmp a b) ≡ true → nat_lt a b ≡ true
above a b h = above_by (nat_lt a b) a b refl h
  where
    above_by : (t : Bool) (a b : ℕ) → nat_lt a b ≡ t → is_lt (nat_cmp a b) ≡ true → nat_lt a b ≡ true
    above_by true a b e h = e
    above_by false a b e h = grind (arith, nat_tests)

rises_from : (x : ℕ) (ps : Map) → below_all nat_cmp x ps ≡ true → is_sorted nat_cmp ps ≡ true → is_rising (Some x) ps ≡ true
rises_from x [] h k = refl
rises_from x (p ∷ ps) h k =
    let first = and_parts (is_lt (nat_cmp x p.0)) (below_all nat_cmp x ps) h in
    let rest = and_parts (below_all nat_cmp p.0 ps) (is_sorted nat_cmp ps) k in
    rw (above x p.0 first.0, rises_from p.0 ps rest.0 rest.1) refl

map_rises : (ps : Map) → is_sorted nat_cmp ps ≡ true → is_rising None ps ≡ true
map_rises [] h = refl
map_rises (p ∷ ps) h = let parts = and_parts (below_all nat_cmp p.0 ps) (is_sorted nat_cmp ps) h in rises_from p.0 ps parts.0 parts.1

-- Steps that read back in the format that they need --

or_left : (a b : Bool) → a ≡ true → a || b ≡ true
or_left true b h = refl
or_left false b h = cc

or_right : (a b : Bool) → b ≡ true → a || b ≡ true
or_right true b h = refl
or_right false b h = h

all_back : (two : Bool) (es : List Event) → All EventFits es → (needs_two es ≡ true → two ≡ true) → ReadBack step_of (event_of two) es
all_back two [] h k = refl
all_back two (e ∷ es) h k =
    let first = All-head EventFits e es h in
    let here = reads_back two (step_of e) e refl first.0 (λ l. k (or_left (is_later e.op) (needs_two es) l)) in
    rw (here, all_back two es (All-tail EventFits e es h) (λ l. k (or_right (is_later e.op) (needs_two es) l))) refl

-- a script's line reads as the script
pub line_reads : (ps : Map) (es : List Event) (text : List ℕ) → All PairFits ps → All EventFits es → IsUtf8 text → text ≡ line_text (record { opening = ps; steps = es }) → IsScript (record { opening = ps; steps = es })
    → reading text ≡ Ok (record { opening = ps; steps = es })
line_reads ps es text fit fits utf8 is script =
    let two = needs_two es in
    let few = script.few_pairs in
    let few_steps = script.few_steps in
    let pairs = pairs_long ps in
    let steps = steps_long es in
    let short = document_short two ps es fit fits in
    let long : length text ≤ 16777216 = rw is (omega arith) in
    let low : nat_lt 16777216 (length text) ≡ false = grind (arith, nat_tests) in
    let found : read text ≡ Some (document_of two ps es) = ap read is ∙ document_read two ps es fit fits in
    rw (low, is_utf8-from_IsUtf8 text utf8, found) (document_reads two ps es (no_opening_fault 0 None ps (map_rises ps script.rising)) (all_back two es fits (λ l. l)) few few_steps)

-- Writes --

both : (s t u x y : List ℕ) → t ≡ s ++ x → u ≡ t ++ y → u ≡ s ++ (x ++ y)
both s t u x y e f = f ∙ ap (λ l. l ++ y) e ∙ append_assoc s x y

-- what seven writes leave
pub laid_by_seven : (s1 s2 s3 s4 s5 s6 s7 x1 x2 x3 x4 x5 x6 x7 : List ℕ)
    → s1 ≡ x1 → s2 ≡ s1 ++ x2 → s3 ≡ s2 ++ x3 → s4 ≡ s3 ++ x4 → s5 ≡ s4 ++ x5 → s6 ≡ s5 ++ x6 → s7 ≡ s6 ++ x7
    → s7 ≡ x1 ++ (x2 ++ (x3 ++ (x4 ++ (x5 ++ (x6 ++ x7)))))
laid_by_seven s1 s2 s3 s4 s5 s6 s7 x1 x2 x3 x4 x5 x6 x7 e1 e2 e3 e4 e5 e6 e7 =
    let f6 : s7 ≡ s5 ++ (x6 ++ x7) = both s5 s6 s7 x6 x7 e6 e7 in
    let f5 : s7 ≡ s4 ++ (x5 ++ (x6 ++ x7)) = both s4 s5 s7 x5 (x6 ++ x7) e5 f6 in
    let f4 : s7 ≡ s3 ++ (x4 ++ (x5 ++ (x6 ++ x7))) = both s3 s4 s7 x4 (x5 ++ (x6 ++ x7)) e4 f5 in
    let f3 : s7 ≡ s2 ++ (x3 ++ (x4 ++ (x5 ++ (x6 ++ x7)))) = both s2 s3 s7 x3 (x4 ++ (x5 ++ (x6 ++ x7))) e3 f4 in
    let f2 : s7 ≡ s1 ++ (x2 ++ (x3 ++ (x4 ++ (x5 ++ (x6 ++ x7))))) = both s1 s2 s7 x2 (x3 ++ (x4 ++ (x5 ++ (x6 ++ x7)))) e2 f3 in
    f2 ∙ ap (λ l. l ++ (x2 ++ (x3 ++ (x4 ++ (x5 ++ (x6 ++ x7)))))) e1
