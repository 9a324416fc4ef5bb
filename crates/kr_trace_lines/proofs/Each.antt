-- What each element reads as, element by element.
use Rattle.std.proofs.Common.{◌≡◌, ◌+◌, ◌<◌, ◌≤◌, ℕ, List, [], ◌∷◌, ◌++◌, Bool, true, Option, Some, None, drop, get_or, length, option_map, option_and_then, refl, sym, ap, ◌∙◌, append_assoc, append-nil}
use Rattle.std.proofs.lemmas.List.{drop_all, drop_more}
use Rattle.serde_json.specs.Data.{Data, Items, no_items, item}
use Rattle.serde_json.specs.View.{items_view, view}
use Rattle.serde_json.specs.Written.{comma_if, compact_text, items_text}
use Rattle.serde_json.specs.declared.value.Value.{Value}
use Rattle.kr_trace_lines.proofs.Texts.{both}
use Rattle.kr_trace_lines.specs.Replies.{each_of}

-- What was read, and then the rest.
abbrev pub then : {A : Type 0} → List A → Option (List A) → Option (List A)
then done o = option_map (λ xs. done ++ xs) o

module _ {A : Type 0} where
  then-none : (o : Option (List A)) → o ≡ then [] o
  then-none None = refl
  then-none (Some xs) = refl

  then-one : (done : List A) (x : A) (o : Option (List A)) → then done (option_map (λ xs. x ∷ xs) o) ≡ then (done ++ x ∷ []) o
  then-one done x None = refl
  then-one done x (Some xs) = ap (λ l. Some l) (sym (append_assoc done (x ∷ []) xs))

module _ {A : Type 0} (read : Data → Option A) (all : Items) where
  -- Nothing was read yet.
  pub each-begin : each_of read all ≡ then [] (each_of read all)
  each-begin = then-none (each_of read all)

  -- One more was read.
  pub each-more : (done : List A) (d : Data) (ds : Items) (x : A) → each_of read all ≡ then done (each_of read (item d ds)) → read d ≡ Some x
      → each_of read all ≡ then (done ++ x ∷ []) (each_of read ds)
  each-more done d ds x h e = h ∙ ap (λ o. then done (option_and_then (λ y. option_map (λ ys. y ∷ ys) (each_of read ds)) o)) e ∙ then-one done x (each_of read ds)

  -- One doesn't read.
  pub each-not : (done : List A) (d : Data) (ds : Items) → each_of read all ≡ then done (each_of read (item d ds)) → read d ≡ None → each_of read all ≡ None
  each-not done d ds h e = h ∙ ap (λ o. then done (option_and_then (λ y. option_map (λ ys. y ∷ ys) (each_of read ds)) o)) e

  -- All were read.
  pub each-end : (done : List A) → each_of read all ≡ then done (each_of read no_items) → each_of read all ≡ Some done
  each-end done h = h ∙ ap (λ l. Some l) (append-nil done)

-- A list behind so many, where another stands there.
opened : {X : Type 0} (xs : List X) (i : ℕ) (d x : X) → i < length xs → x ≡ get_or xs i d → drop i xs ≡ x ∷ drop (i + 1) xs
opened {X} xs i d x within is = drop_more xs i d within ∙ ap (λ (y : X). y ∷ drop (i + 1) xs) (sym is)

module _ {A : Type 0} (read : Data → Option A) (vs : List Value) (i : ℕ) (done : List A) (h : each_of read (items_view vs) ≡ then done (each_of read (items_view (drop i vs)))) where
  at-value : (d v : Value) → i < length vs → v ≡ get_or vs i d → each_of read (items_view vs) ≡ then done (each_of read (item (view v) (items_view (drop (i + 1) vs))))
  at-value d v within is = h ∙ ap (λ (ys : List Value). then done (each_of read (items_view ys))) (opened vs i d v within is)

  -- One more of a list of values was read.
  pub values-more : (d v : Value) (more : List A) (x : A) → i < length vs → v ≡ get_or vs i d → read (view v) ≡ Some x → more ≡ done ++ x ∷ []
      → each_of read (items_view vs) ≡ then more (each_of read (items_view (drop (i + 1) vs)))
  values-more d v more x within is e pushed =
      let left : List Value = drop (i + 1) vs in
      each-more read (items_view vs) done (view v) (items_view left) x (at-value d v within is) e ∙ ap (λ (ys : List A). then ys (each_of read (items_view left))) (sym pushed)

  -- One of them doesn't read.
  pub values-not : (d v : Value) → i < length vs → v ≡ get_or vs i d → read (view v) ≡ None → each_of read (items_view vs) ≡ None
  values-not d v within is e = each-not read (items_view vs) done (view v) (items_view (drop (i + 1) vs)) (at-value d v within is) e

  -- All of them were read.
  pub values-end : length vs ≤ i → each_of read (items_view vs) ≡ Some done
  values-end past = each-end read (items_view vs) done (h ∙ ap (λ (ys : List Value). then done (each_of read (items_view ys))) (drop_all i vs past))

-- One more item was written, behind a comma or not, and then the rest is to be.
pub items-more : {X : Type 0} (F : List X → Items) (f : X → Data) → ((x : X) (ys : List X) → F (x ∷ ys) ≡ item (f x) (F ys))
    → (xs : List X) (i : ℕ) (d x : X) (later : Bool) (out laid new whole : List ℕ) → i < length xs → x ≡ get_or xs i d
    → out ++ items_text later (F (drop i xs)) ≡ whole → laid ≡ out ++ comma_if later → new ≡ laid ++ compact_text (f x)
    → new ++ items_text true (F (drop (i + 1) xs)) ≡ whole
items-more {X} F f opens xs i d x later out laid new whole within is h e g =
    let left : List X = drop (i + 1) xs in
    let rest : List ℕ = items_text true (F left) in
    let at : F (drop i xs) ≡ item (f x) (F left) = ap F (opened xs i d x within is) ∙ opens x left in
    let here : out ++ (comma_if later ++ (compact_text (f x) ++ rest)) ≡ whole = ap (λ (ds : Items). out ++ items_text later ds) (sym at) ∙ h in
    ap (λ (l : List ℕ). l ++ rest) (both out laid new (comma_if later) (compact_text (f x)) e g)
    ∙ (append_assoc out (comma_if later ++ compact_text (f x)) rest ∙ (ap (λ (l : List ℕ). out ++ l) (append_assoc (comma_if later) (compact_text (f x)) rest) ∙ here))
