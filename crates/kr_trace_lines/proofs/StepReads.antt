-- The line of a step with its reply reads as the step with the reply.
use Rattle.std.proofs.Common.{◌≡◌, ℕ, ◌+◌, ◌<◌, ◌≤◌, ◌^◌, List, [], ◌∷◌, map, true, nat_lt, None, Some, Ok, All, refl, sym, ap, ◌∙◌, append-nil, option_map, option_and_then, arith}
use Rattle.std.specs.Prelude.{IsUtf8, max}
use Rattle.std.proofs.lemmas.Bool.Decides.{nat_tests}
use Rattle.std.proofs.lemmas.List.Elements.{All-head, All-tail}
use Rattle.std.proofs.lemmas.Str.{is_utf8-from_IsUtf8}
use Rattle.json.specs.Json as json
use Rattle.json.specs.Tree as tree
use Rattle.json.specs.Tree.{HasNumbers, ItemsHaveNumbers}
use Rattle.json.specs.Lex.{tokens}
use Rattle.json.proofs.Printed.Decimals.{IsNumber-decimal}
use Rattle.json.proofs.Printed.Tokens.{tokens-print}
use Rattle.json.proofs.Printed.Trees.{ArePrintable-json_tokens, value-json_tokens}
use Rattle.serde_json.specs.Data.{Data, string, array, Items, no_items, item}
use Rattle.serde_json.specs.Read.{of_json, of_items, read}
use Rattle.serde_json.specs.View.{items_of}
use Rattle.serde_json.specs.Written.{outline, items_outline, compact_text}
use Rattle.serde_json.proofs.Numbers.{number_of-decimal}
use Rattle.serde_json.proofs.Texts.{print-outline}
use Rattle.kr_model.specs.declared.Op.{Op}
use Rattle.kr_model.specs.declared.Op.TheVariants.{Fetch, Scan, Go, Insert, Delete, Update, Commit, Abort, Back}
use Rattle.kr_model.specs.declared.Event.{Event}
use Rattle.kr_model.specs.Map.{Map}
use Rattle.kr_script.specs.Faults.{pair_of}
use Rattle.kr_script.specs.Json.{whole}
use Rattle.kr_script.specs.Line.{PairFits, OpFits, EventFits}
use Rattle.kr_script.specs.Pairs.{pair_data}
use Rattle.kr_script.specs.Replies.{after_word}
use Rattle.kr_script.specs.Steps.{items_of_op, step_of}
use Rattle.kr_script.proofs.Written.{reads_back}
use Rattle.kr_trace_lines.specs.declared.observed.Observed.{Observed}
use Rattle.kr_trace_lines.specs.declared.observed.Observed.TheVariants as observed
use Rattle.kr_trace_lines.specs.Lines.{step}
use Rattle.kr_trace_lines.specs.Reading.{event_in, reading_line, with_answer, with_event}
use Rattle.kr_trace_lines.specs.Replies.{each_of, observed_data, reply_in, txn_of}
use Rattle.kr_trace_lines.specs.Steps.{ObservedFits, TxnFits, can_have, step_data, step_text}

-- Values whose texts read back --

-- A value whose text reads back, and which nests no deeper than the number.
record Reads (deep : ℕ) (d : Data) : Type 0 where
  numbers : HasNumbers (outline d)
  back : of_json (outline d) ≡ Some d
  shallow : tree.depth (outline d) ≤ deep

-- The same of values.
record AllRead (deep : ℕ) (ds : Items) : Type 0 where
  numbers : ItemsHaveNumbers (items_outline ds)
  back : of_items (items_outline ds) ≡ Some ds
  shallow : tree.items_depth (items_outline ds) ≤ deep

larger : (a b n : ℕ) → a ≤ n → b ≤ n → max a b ≤ n
larger a b n h k = omega arith

module _ (deep : ℕ) where
  number_reads : (n : ℕ) → n < 2 ^ 64 → Reads deep (whole n)
  number_reads n h = record {
    numbers = IsNumber-decimal n h;
    back = rw (number_of-decimal n h) refl;
    shallow = omega arith;
  }

  none_read : AllRead deep no_items
  none_read = record { numbers = tt; back = refl; shallow = omega arith }

  item_reads : (d : Data) (ds : Items) → Reads deep d → AllRead deep ds → AllRead deep (item d ds)
  item_reads d ds h k = record {
    numbers = (h.numbers, k.numbers);
    back = rw (h.back, k.back) refl;
    shallow = larger (tree.depth (outline d)) (tree.items_depth (items_outline ds)) deep h.shallow k.shallow;
  }

  word_reads : (word : List ℕ) (ds : Items) → AllRead deep ds → AllRead deep (item (string word) ds)
  word_reads word ds h = item_reads (string word) ds (record { numbers = tt; back = refl; shallow = omega arith }) h

  number_more : (n : ℕ) (ds : Items) → n < 2 ^ 64 → AllRead deep ds → AllRead deep (item (whole n) ds)
  number_more n ds h k = item_reads (whole n) ds (number_reads n h) k

  array_reads : (ds : Items) → AllRead deep ds → Reads (deep + 1) (array ds)
  array_reads ds h = record {
    numbers = h.numbers;
    back = rw h.back refl;
    shallow = let s = h.shallow in omega arith;
  }

  list_reads : {A : Type 0} (f : A → Data) (P : A → Type 0) → ((a : A) → P a → Reads deep (f a)) → (xs : List A) → All P xs → AllRead deep (items_of (map f xs))
  list_reads f P each [] h = none_read
  list_reads f P each (x ∷ xs) h =
      item_reads (f x) (items_of (map f xs)) (each x (All-head P x xs h)) (list_reads f P each xs (All-tail P x xs h))

pair_reads : (p : ℕ × ℕ) → PairFits p → Reads 1 (pair_data p)
pair_reads p h = array_reads 0 _ (number_more 0 p.0 _ h.0 (number_more 0 p.1 _ h.1 (none_read 0)))

txn_reads : (t : ℕ) → TxnFits t → Reads 1 (whole t)
txn_reads t h = number_reads 1 t (omega arith)

-- A step, and a reply --

op_reads : (op : Op) → OpFits op → AllRead 2 (items_of_op op)
op_reads (Fetch k) h = word_reads 2 _ _ (number_more 2 k _ h (none_read 2))
op_reads (Scan lo hi) h = word_reads 2 _ _ (number_more 2 lo _ h.0 (number_more 2 hi _ h.1 (none_read 2)))
op_reads Go h = word_reads 2 _ _ (none_read 2)
op_reads (Insert k v) h = word_reads 2 _ _ (number_more 2 k _ h.0 (number_more 2 v _ h.1 (none_read 2)))
op_reads (Delete k) h = word_reads 2 _ _ (number_more 2 k _ h (none_read 2))
op_reads (Update k v) h = word_reads 2 _ _ (number_more 2 k _ h.0 (number_more 2 v _ h.1 (none_read 2)))
op_reads Commit h = word_reads 2 _ _ (none_read 2)
op_reads Abort h = word_reads 2 _ _ (none_read 2)
op_reads Back h = word_reads 2 _ _ (none_read 2)

step_reads : (e : Event) → EventFits e → Reads 3 (step_of e)
step_reads e h = array_reads 2 _ (number_more 2 e.txn _ (let l = h.0 in omega arith) (op_reads e.op h.1))

alone : (word : List ℕ) → Reads 3 (after_word word no_items)
alone word = array_reads 2 _ (word_reads 2 word _ (none_read 2))

with_number : (word : List ℕ) (n : ℕ) → n < 2 ^ 64 → Reads 3 (after_word word (item (whole n) no_items))
with_number word n h = array_reads 2 _ (word_reads 2 word _ (number_more 2 n _ h (none_read 2)))

with_list : (word : List ℕ) (ds : Items) → AllRead 1 ds → Reads 3 (after_word word (item (array ds) no_items))
with_list word ds h = array_reads 2 _ (word_reads 2 word _ (item_reads 2 _ _ (array_reads 1 ds h) (none_read 2)))

observed_reads : (o : Observed) → ObservedFits o → Reads 3 (observed_data o)
observed_reads (observed.Found v) h = with_number _ v h
observed_reads observed.None h = alone _
observed_reads (observed.Going k) h = with_number _ k h
observed_reads (observed.Rows rows) h = with_list _ _ (list_reads 1 pair_data PairFits pair_reads rows h)
observed_reads observed.Done h = alone _
observed_reads observed.Duplicate h = alone _
observed_reads (observed.Deleted None) h = alone _
observed_reads (observed.Deleted (Some v)) h = with_number _ v h
observed_reads observed.Absent h = alone _
observed_reads (observed.Updated None) h = alone _
observed_reads (observed.Updated (Some v)) h = with_number _ v h
observed_reads (observed.Undone None) h = alone _
observed_reads (observed.Undone (Some n)) h = with_number _ n h
observed_reads observed.Committed h = alone _
observed_reads observed.Aborted h = alone _
observed_reads (observed.Blocked []) h = alone _
observed_reads (observed.Blocked (t ∷ ts)) h = with_list _ _ (list_reads 1 whole TxnFits txn_reads (t ∷ ts) h)

-- What is written reads back as a value.
text_read : (d : Data) → Reads 4 d → read (compact_text d) ≡ Some d
text_read d h =
    let ts = tree.json_tokens (outline d) in
    let low = h.shallow in
    let same : tokens (compact_text d) ≡ ts = ap tokens (sym (print-outline d)) ∙ tokens-print ts (ArePrintable-json_tokens (outline d) h.numbers) in
    ap (λ o. option_and_then of_json (option_and_then (λ p. json.if_last p.0 p.1) o))
    (ap (json.value 127) (same ∙ sym (append-nil ts)) ∙ value-json_tokens (outline d) 127 [] (omega arith))
    ∙ h.back

-- A reply reads back --

pairs_back : (ps : Map) → each_of pair_of (items_of (map pair_data ps)) ≡ Some ps
pairs_back [] = refl
pairs_back (p ∷ ps) = ap (λ o. option_map (λ qs. p ∷ qs) o) (pairs_back ps)

low_txn : (t : ℕ) → TxnFits t → nat_lt t (2 ^ 32) ≡ true
low_txn t h = grind (arith, nat_tests)

txns_back : (ts : List ℕ) → All TxnFits ts → each_of txn_of (items_of (map whole ts)) ≡ Some ts
txns_back [] h = refl
txns_back (t ∷ ts) h = rw (low_txn t (All-head TxnFits t ts h)) (ap (λ o. option_map (λ us. t ∷ us) o) (txns_back ts (All-tail TxnFits t ts h)))

reply_back : (op : Op) (o : Observed) → can_have op o ≡ true → ObservedFits o → reply_in op (observed_data o) ≡ Some o
reply_back op observed.Aborted h f = refl
reply_back op (observed.Blocked []) h f = rw h refl
reply_back op (observed.Blocked (t ∷ ts)) h f = rw h (ap (λ o. option_map observed.Blocked o) (txns_back (t ∷ ts) f))
reply_back (Fetch k) (observed.Found v) h f = refl
reply_back (Fetch k) observed.None h f = refl
reply_back (Scan lo hi) (observed.Going k) h f = refl
reply_back (Scan lo hi) (observed.Rows rows) h f = ap (λ o. option_map observed.Rows o) (pairs_back rows)
reply_back Go (observed.Going k) h f = refl
reply_back Go (observed.Rows rows) h f = ap (λ o. option_map observed.Rows o) (pairs_back rows)
reply_back (Insert k v) observed.Done h f = refl
reply_back (Insert k v) observed.Duplicate h f = refl
reply_back (Delete k) (observed.Deleted None) h f = refl
reply_back (Delete k) (observed.Deleted (Some v)) h f = refl
reply_back (Delete k) observed.Absent h f = refl
reply_back (Update k v) (observed.Updated None) h f = refl
reply_back (Update k v) (observed.Updated (Some w)) h f = refl
reply_back (Update k v) observed.Absent h f = refl
reply_back Commit observed.Committed h f = refl
reply_back Back (observed.Undone None) h f = refl
reply_back Back (observed.Undone (Some n)) h f = refl
reply_back _ _ h f = cc

-- The line --

-- The text of a step with a reply that the step can have reads as both.
pub step_line_reads : (e : Event) (o : Observed) (text : List ℕ) → EventFits e → ObservedFits o → can_have e.op o ≡ true → IsUtf8 text → text ≡ step_text e o
    → reading_line text ≡ Ok (step e o)
step_line_reads e o text fits fit can utf8 is =
    let d = step_data e o in
    let both : Reads 4 d = array_reads 3 _ (item_reads 3 _ _ (step_reads e fits) (item_reads 3 _ _ (observed_reads o fit) (none_read 3))) in
    let found : read text ≡ Some d = ap read is ∙ text_read d both in
    let event : event_in d ≡ Some e = reads_back true (step_of e) e refl fits.0 (λ later. refl) in
    rw (is_utf8-from_IsUtf8 text utf8, found) (ap (with_event d) event ∙ ap (with_answer e) (reply_back e.op o can fit))
