-- A value reads as an event exactly where it is the event's step.
use Rattle.std.proofs.Common.{◌≡◌, ℕ, ◌<◌, ◌^◌, ◌==◌, codes, Bool, true, false, cond, nat_lt, Option, Some, None, refl, ap, sym, ◌∙◌, inl, inr, ◌⊎◌, arith}
use Rattle.std.specs.Prelude.{bytes_eq, option_map, option_and_then, List}
use Rattle.std.proofs.lemmas.Bool.Decides.{nat_tests, Decides-eqb, Decides-ltb}
use Rattle.std.proofs.lemmas.Slice.Eq.{bytes_eq-Decides}
use Rattle.serde_json.specs.Data.{Data, unsigned, negative, float, null, boolean, number, string, array, object, Items, no_items, item}
use Rattle.serde_json.specs.Find.{get_item, as_number, as_str, as_u64}
use Rattle.serde_json.specs.Events.{items_len}
use Rattle.kr_model.specs.declared.Op.{Op}
use Rattle.kr_model.specs.declared.Op.TheVariants.{Fetch, Scan, Go, Insert, Delete, Update, Commit, Abort, Back}
use Rattle.kr_model.specs.declared.Event.{Event}
use Rattle.kr_script.specs.Json.{whole, number_at, word_at, both}
use Rattle.kr_script.specs.Steps.{one_number, two_numbers, alone, op_of, later_op_of, as_event, event_of, items_of_op, is_later, step_of}

-- what a number and a text are
number_is : (o : Option Data) (n : ℕ) → option_and_then as_u64 (option_and_then as_number o) ≡ Some n → o ≡ Some (whole n)
number_is None n h = cc
number_is (Some null) n h = cc
number_is (Some (boolean b)) n h = cc
number_is (Some (number (unsigned m))) n h = cc
number_is (Some (number (negative z))) n h = cc
number_is (Some (number (float x))) n h = cc
number_is (Some (string s)) n h = cc
number_is (Some (array ds)) n h = cc
number_is (Some (object ms)) n h = cc

word_is : (o : Option Data) (w : List ℕ) → option_and_then as_str o ≡ Some w → o ≡ Some (string w)
word_is None w h = cc
word_is (Some null) w h = cc
word_is (Some (boolean b)) w h = cc
word_is (Some (number n)) w h = cc
word_is (Some (string s)) w h = cc
word_is (Some (array ds)) w h = cc
word_is (Some (object ms)) w h = cc

some_of : {A B : Type 0} (f : A → Option B) (o : Option A) (y : B) → option_and_then f o ≡ Some y → (x : A) × (o ≡ Some x) × (f x ≡ Some y)
some_of f None y h = cc
some_of f (Some x) y h = (x, refl, h)

mapped : {A B : Type 0} (f : A → B) (o : Option A) (y : B) → option_map f o ≡ Some y → (x : A) × (o ≡ Some x) × (y ≡ f x)
mapped f None y h = cc
mapped f (Some x) y h = (x, refl, cc)

chosen : {A : Type 0} (b : Bool) (x y z : A) → cond b x y ≡ z → ((b ≡ true) × (x ≡ z)) ⊎ ((b ≡ false) × (y ≡ z))
chosen true x y z h = inl (refl, h)
chosen false x y z h = inr (refl, h)

-- a value that is there only where a test holds
tested : {A : Type 0} (b : Bool) (o : Option A) (x : A) → cond b o None ≡ Some x → (b ≡ true) × (o ≡ Some x)
tested true o x h = (refl, h)
tested false o x h = cc

both_are : (o p : Option ℕ) (q : ℕ × ℕ) → both o p ≡ Some q → (o ≡ Some q.0) × (p ≡ Some q.1)
both_are None p q h = cc
both_are (Some a) None q h = cc
both_are (Some a) (Some b) q h =
    let e : (a, b) ≡ q = cc in
    (ap (λ r. Some r.0) e, ap (λ r. Some r.1) e)

-- the items of a list of a known length
two : (ds : Items) (a b : Data) → items_len ds ≡ 2 → get_item 0 ds ≡ Some a → get_item 1 ds ≡ Some b → ds ≡ item a (item b no_items)
two no_items a b n g h = absurd (omega arith)
two (item x no_items) a b n g h = absurd (omega arith)
two (item x (item y no_items)) a b n g h = cc
two (item x (item y (item z zs))) a b n g h = absurd (omega arith)

three : (ds : Items) (a b c : Data) → items_len ds ≡ 3 → get_item 0 ds ≡ Some a → get_item 1 ds ≡ Some b → get_item 2 ds ≡ Some c → ds ≡ item a (item b (item c no_items))
three no_items a b c n g h i = absurd (omega arith)
three (item x no_items) a b c n g h i = absurd (omega arith)
three (item x (item y no_items)) a b c n g h i = absurd (omega arith)
three (item x (item y (item z no_items))) a b c n g h i = cc
three (item x (item y (item z (item w ws)))) a b c n g h i = absurd (omega arith)

four : (ds : Items) (a b c d : Data) → items_len ds ≡ 4 → get_item 0 ds ≡ Some a → get_item 1 ds ≡ Some b → get_item 2 ds ≡ Some c → get_item 3 ds ≡ Some d
    → ds ≡ item a (item b (item c (item d no_items)))
four no_items a b c d n g h i j = absurd (omega arith)
four (item x no_items) a b c d n g h i j = absurd (omega arith)
four (item x (item y no_items)) a b c d n g h i j = absurd (omega arith)
four (item x (item y (item z no_items))) a b c d n g h i j = absurd (omega arith)
four (item x (item y (item z (item w no_items)))) a b c d n g h i j = cc
four (item x (item y (item z (item w (item v vs))))) a b c d n g h i j = absurd (omega arith)

named : (ds : Items) (word name : List ℕ) → bytes_eq word name ≡ true → get_item 1 ds ≡ Some (string word) → get_item 1 ds ≡ Some (string name)
named ds word name e h = rw (← (bytes_eq-Decides word name).0 e) h

-- the items of a list are its first and those of an operation
abbrev AreItems : Items → Data → Op → Type 0
AreItems ds a op = ds ≡ item a (items_of_op op)

-- an operation with one number
one_items : (f : ℕ → Op) (name : List ℕ) (form : (k : ℕ) → items_of_op (f k) ≡ item (string name) (item (whole k) no_items))
    (ds : Items) (op : Op) (a : Data) → get_item 0 ds ≡ Some a → get_item 1 ds ≡ Some (string name)
    → option_map f (one_number (items_len ds) (array ds)) ≡ Some op → AreItems ds a op
one_items f name form ds op a g h o =
    let (k, at, is) = mapped f (one_number (items_len ds) (array ds)) op o in
    let (len, at_k) = tested (items_len ds == 3) (number_at 2 (array ds)) k at in
    rw (is, form k) (three ds a (string name) (whole k) ((Decides-eqb (items_len ds) 3).0 len) g h (number_is _ k at_k))

-- an operation with two numbers
two_items : (f : ℕ × ℕ → Op) (name : List ℕ) (form : (p : ℕ × ℕ) → items_of_op (f p) ≡ item (string name) (item (whole p.0) (item (whole p.1) no_items)))
    (ds : Items) (op : Op) (a : Data) → get_item 0 ds ≡ Some a → get_item 1 ds ≡ Some (string name)
    → option_map f (two_numbers (items_len ds) (array ds)) ≡ Some op → AreItems ds a op
two_items f name form ds op a g h o =
    let (p, at, is) = mapped f (two_numbers (items_len ds) (array ds)) op o in
    let (len, numbers) = tested (items_len ds == 4) (both (number_at 2 (array ds)) (number_at 3 (array ds))) p at in
    let (at_0, at_1) = both_are (number_at 2 (array ds)) (number_at 3 (array ds)) p numbers in
    rw (is, form p) (four ds a (string name) (whole p.0) (whole p.1) ((Decides-eqb (items_len ds) 4).0 len) g h (number_is _ p.0 at_0) (number_is _ p.1 at_1))

-- an operation with no number
alone_items : (o : Op) (name : List ℕ) (form : items_of_op o ≡ item (string name) no_items)
    (ds : Items) (op : Op) (a : Data) → get_item 0 ds ≡ Some a → get_item 1 ds ≡ Some (string name)
    → alone (items_len ds) o ≡ Some op → AreItems ds a op
alone_items o name form ds op a g h made =
    let (len, same) = tested (items_len ds == 2) (Some o) op made in
    let is : op ≡ o = cc in
    rw (is, form) (two ds a (string name) ((Decides-eqb (items_len ds) 2).0 len) g h)

-- the same of a form of format 2
later_items : (ds : Items) (word : List ℕ) (op : Op) (a : Data) → get_item 0 ds ≡ Some a → get_item 1 ds ≡ Some (string word)
    → later_op_of word (items_len ds) (array ds) ≡ Some op → AreItems ds a op
later_items ds word op a g h o =
    elim (chosen (bytes_eq word (codes "update")) _ _ _ o) [
      | inl y ↦ two_items (λ p. Update p.0 p.1) (codes "update") (λ p. refl) ds op a g (named ds word (codes "update") y.0 h) y.1
      | inr n ↦ elim (chosen (bytes_eq word (codes "back")) _ _ _ n.1) [
        | inl y ↦ alone_items Back (codes "back") refl ds op a g (named ds word (codes "back") y.0 h) y.1
        | inr n ↦ cc
      ]
    ]

-- the items of a list whose word and length are those of an operation
op_items : (two : Bool) (ds : Items) (word : List ℕ) (op : Op) (a : Data) → get_item 0 ds ≡ Some a → get_item 1 ds ≡ Some (string word)
    → op_of two word (items_len ds) (array ds) ≡ Some op → AreItems ds a op
op_items two ds word op a g h o =
    elim (chosen (bytes_eq word (codes "fetch")) _ _ _ o) [
      | inl y ↦ one_items Fetch (codes "fetch") (λ k. refl) ds op a g (named ds word (codes "fetch") y.0 h) y.1
      | inr n ↦ elim (chosen (bytes_eq word (codes "scan")) _ _ _ n.1) [
        | inl y ↦ two_items (λ p. Scan p.0 p.1) (codes "scan") (λ p. refl) ds op a g (named ds word (codes "scan") y.0 h) y.1
        | inr n ↦ elim (chosen (bytes_eq word (codes "go")) _ _ _ n.1) [
          | inl y ↦ alone_items Go (codes "go") refl ds op a g (named ds word (codes "go") y.0 h) y.1
          | inr n ↦ elim (chosen (bytes_eq word (codes "insert")) _ _ _ n.1) [
            | inl y ↦ two_items (λ p. Insert p.0 p.1) (codes "insert") (λ p. refl) ds op a g (named ds word (codes "insert") y.0 h) y.1
            | inr n ↦ elim (chosen (bytes_eq word (codes "delete")) _ _ _ n.1) [
              | inl y ↦ one_items Delete (codes "delete") (λ k. refl) ds op a g (named ds word (codes "delete") y.0 h) y.1
              | inr n ↦ elim (chosen (bytes_eq word (codes "commit")) _ _ _ n.1) [
                | inl y ↦ alone_items Commit (codes "commit") refl ds op a g (named ds word (codes "commit") y.0 h) y.1
                | inr n ↦ elim (chosen (bytes_eq word (codes "abort")) _ _ _ n.1) [
                  | inl y ↦ alone_items Abort (codes "abort") refl ds op a g (named ds word (codes "abort") y.0 h) y.1
                  | inr n ↦ elim (chosen two (later_op_of word (items_len ds) (array ds)) None (Some op) n.1) [
                    | inl y ↦ later_items ds word op a g h y.1
                    | inr n ↦ cc
                  ]
                ]
              ]
            ]
          ]
        ]
      ]
    ]

alone_is : (len : ℕ) (o op : Op) → alone len o ≡ Some op → is_later op ≡ is_later o
alone_is len o op h =
    let (two, same) = tested (len == 2) (Some o) op h in
    let is : op ≡ o = cc in
    ap (λ (z : Op). is_later z) is

mapped_is : {A : Type 0} (f : A → Op) (o : Option A) (op : Op) → ((a : A) → is_later (f a) ≡ false) → option_map f o ≡ Some op → is_later op ≡ false
mapped_is f o op none h = let (a, at, is) = mapped f o op h in ap (λ (z : Op). is_later z) is ∙ none a

-- in format 1 no form of format 2 is read
earlier : (word : List ℕ) (len : ℕ) (d : Data) (op : Op) → op_of false word len d ≡ Some op → is_later op ≡ false
earlier word len d op o =
    elim (chosen (bytes_eq word (codes "fetch")) _ _ _ o) [
      | inl y ↦ mapped_is Fetch (one_number len d) op (λ k. refl) y.1
      | inr n ↦ elim (chosen (bytes_eq word (codes "scan")) _ _ _ n.1) [
        | inl y ↦ mapped_is (λ p. Scan p.0 p.1) (two_numbers len d) op (λ p. refl) y.1
        | inr n ↦ elim (chosen (bytes_eq word (codes "go")) _ _ _ n.1) [
          | inl y ↦ alone_is len Go op y.1
          | inr n ↦ elim (chosen (bytes_eq word (codes "insert")) _ _ _ n.1) [
            | inl y ↦ mapped_is (λ p. Insert p.0 p.1) (two_numbers len d) op (λ p. refl) y.1
            | inr n ↦ elim (chosen (bytes_eq word (codes "delete")) _ _ _ n.1) [
              | inl y ↦ mapped_is Delete (one_number len d) op (λ k. refl) y.1
              | inr n ↦ elim (chosen (bytes_eq word (codes "commit")) _ _ _ n.1) [
                | inl y ↦ alone_is len Commit op y.1
                | inr n ↦ elim (chosen (bytes_eq word (codes "abort")) _ _ _ n.1) [
                  | inl y ↦ alone_is len Abort op y.1
                  | inr n ↦ cc
                ]
              ]
            ]
          ]
        ]
      ]
    ]

-- a form of format 2 is read in format 2 alone
later_in_two : (two : Bool) (word : List ℕ) (len : ℕ) (d : Data) (op : Op) → op_of two word len d ≡ Some op → is_later op ≡ true → two ≡ true
later_in_two true word len d op o later = refl
later_in_two false word len d op o later = absurd (no (sym (earlier word len d op o) ∙ later))
  where
    no : false ≡ true → ⊥
    no e = cc

finished : (ds : Items) (txn : ℕ) (op : Op) (e : Event) → e ≡ record { txn = txn; op = op } → ds ≡ item (whole txn) (items_of_op op) → txn < 2 ^ 32
    → (array ds ≡ step_of e) × (e.txn < 2 ^ 32)
finished ds txn op e is items lt = rw (is, items) (refl, lt)

-- what reads as an event is its step
is_step_of_list : (two : Bool) (ds : Items) (e : Event) → event_of two (array ds) ≡ Some e → (array ds ≡ step_of e) × (e.txn < 2 ^ 32) × (is_later e.op ≡ true → two ≡ true)
is_step_of_list two ds e h =
    let (txn, at_txn, more) = some_of _ (number_at 0 (array ds)) e h in
    let (word, at_word, tail) = some_of _ (word_at 1 (array ds)) e more in
    let (op, at_op, made) = some_of (as_event txn) (op_of two word (items_len ds) (array ds)) e tail in
    let items = op_items two ds word op (whole txn) (number_is _ txn at_txn) (word_is _ word at_word) at_op in
    let (fits, event) = tested (nat_lt txn (2 ^ 32)) (Some (record { txn = txn; op = op })) e made in
    let is : e ≡ record { txn = txn; op = op } = cc in
    let done = finished ds txn op e is items ((Decides-ltb txn (2 ^ 32)).0 fits) in
    (done.0, done.1, λ later. later_in_two two word (items_len ds) (array ds) op at_op (ap (λ (x : Event). is_later x.op) (sym is) ∙ later))

-- a value that reads as an event is the step that the event is written as
pub is_step : (two : Bool) (d : Data) (e : Event) → event_of two d ≡ Some e → (d ≡ step_of e) × (e.txn < 2 ^ 32) × (is_later e.op ≡ true → two ≡ true)
is_step two null e h = cc
is_step two (boolean b) e h = cc
is_step two (number n) e h = cc
is_step two (string s) e h = cc
is_step two (array ds) e h = is_step_of_list two ds e h
is_step two (object ms) e h = cc

fits : (t : ℕ) → t < 2 ^ 32 → nat_lt t (2 ^ 32) ≡ true
fits t h = grind (arith, nat_tests)

read_items : (two : Bool) (t : ℕ) (op : Op) → t < 2 ^ 32 → (is_later op ≡ true → two ≡ true) → event_of two (array (item (whole t) (items_of_op op))) ≡ Some (record { txn = t; op = op })
read_items two t (Fetch k) h later = rw (fits t h) refl
read_items two t (Scan lo hi) h later = rw (fits t h) refl
read_items two t Go h later = rw (fits t h) refl
read_items two t (Insert k v) h later = rw (fits t h) refl
read_items two t (Delete k) h later = rw (fits t h) refl
read_items two t (Update k v) h later = rw (later refl, fits t h) refl
read_items two t Commit h later = rw (fits t h) refl
read_items two t Abort h later = rw (fits t h) refl
read_items two t Back h later = rw (later refl, fits t h) refl

-- an event reads back from its step
pub reads_back : (two : Bool) (d : Data) (e : Event) → d ≡ step_of e → e.txn < 2 ^ 32 → (is_later e.op ≡ true → two ≡ true) → event_of two d ≡ Some e
reads_back two d e is h later = ap (λ z. event_of two z) is ∙ read_items two e.txn e.op h later
