-- Wrong answers of committed programs in an order.
use Rattle.std.specs.Prelude.{◌≡◌, ◌↔◌, ◌⊎◌, ℕ, zero, suc, ◌+◌, ◌<◌, ◌≤◌, ◌==◌, Bool, true, false, cond, List, [], ◌∷◌, ◌++◌, Option, Some, None, IfNone, IfSome, is_some, length, map, refl, slice_get, slice_index, take, drop}
use Rattle.std.specs.List.{flat_map, remove}
use Rattle.std.specs.Option.{option_map}
use Rattle.std.proofs.Common.{sym, ◌∙◌, ap, subst, arith, append_assoc, append-nil, get_or, inl, inr, ⊎_elim}
use Rattle.std.proofs.lemmas.List.{length-append}
use Rattle.std.proofs.lemmas.Option.{get_or_from_slice_get, slice_get-get_or}
use Rattle.kr_model.specs.Map.{Map}
use Rattle.kr_trace_follow.specs.declared.judge.Difference.{Difference}
use Rattle.kr_trace_follow.specs.Given.{Given, AreAnsweredWhereGiven, IsFirstDifference, difference_in, map_after}
use Rattle.kr_trace_lines.specs.declared.verdict.TraceVerdict.{TraceVerdict}
use Rattle.kr_trace_lines.specs.declared.verdict.TraceVerdict.TheVariants as verdict
use Rattle.kr_trace_parts.specs.Committed.{Committed, AreSerial, IsFirstFound, IsFound, map_left}
use Rattle.kr_trace_parts.specs.Kept.{shown}
use Rattle.kr_trace_parts.specs.Orders.{AreArranged, IsWrongIn, IsWrongOf, place_in}
use Rattle.kr_trace_parts.specs.Printed.{in_order, of_txn}
use Rattle.kr_trace_parts.specs.declared.programs.Committed.{Committed as Noted}
use Rattle.kr_trace_parts.specs.declared.programs.Wrong.{Wrong}
use Rattle.kr_trace_parts.proofs.CommittedLaws.{answered_append, answered_back, answered_front}

-- Places --

no_place : (o : Option ℕ) → option_map (λ i. suc i) o ≡ None → o ≡ None
no_place None h = refl
no_place (Some i) h = absurd (cc)

-- Where no place is found, the transaction hasn't committed.
pub none_of : (cs : List Noted) (t : ℕ) → place_in cs t ≡ None → of_txn (map shown cs) t ≡ []
none_of [] t h = refl
none_of (c ∷ cs) t h = by (c.txn == t) h (none_of cs t)
  where
    by : (b : Bool) → cond b (Some 0) (option_map (λ i. suc i) (place_in cs t)) ≡ None → (place_in cs t ≡ None → of_txn (map shown cs) t ≡ []) → cond b (shown c ∷ []) (of_txn (map shown cs) t) ≡ []
    by true h rest = absurd (cc)
    by false h rest = rest (no_place (place_in cs t) h)

-- The program at the place that is found.
abbrev FoundAt : List Noted → ℕ → ℕ → Type 0
FoundAt cs t i = (c : Noted) × ((slice_get cs i ≡ Some c) × (of_txn (map shown cs) t ≡ shown c ∷ []))

pub one_of : (cs : List Noted) (t i : ℕ) → place_in cs t ≡ Some i → FoundAt cs t i
one_of [] t i h = absurd (cc)
one_of (c ∷ cs) t i h = by (c.txn == t) refl h (one_of cs t)
  where
    behind : (o : Option ℕ) → (c.txn == t) ≡ false → place_in cs t ≡ o → option_map (λ j. suc j) o ≡ Some i → ((j : ℕ) → place_in cs t ≡ Some j → FoundAt cs t j) → FoundAt (c ∷ cs) t i
    behind None other e h rest = absurd (cc)
    behind (Some j) other e h rest =
        let own : suc j ≡ i = cc in
        let d = rest j e in
        (d.0, (subst (λ (n : ℕ). slice_get (c ∷ cs) n ≡ Some d.0) own d.1.0, ap (λ b. cond b (shown c ∷ []) (of_txn (map shown cs) t)) other ∙ d.1.1))

    by : (b : Bool) → (c.txn == t) ≡ b → cond b (Some 0) (option_map (λ j. suc j) (place_in cs t)) ≡ Some i → ((j : ℕ) → place_in cs t ≡ Some j → FoundAt cs t j) → FoundAt (c ∷ cs) t i
    by true same h rest =
        let own : 0 ≡ i = cc in
        (c, (subst (λ (n : ℕ). slice_get (c ∷ cs) n ≡ Some c) own refl, ap (λ b. cond b (shown c ∷ []) (of_txn (map shown cs) t)) same))
    by false other h rest = behind (place_in cs t) other refl h rest

got_within : (cs : List Noted) (i : ℕ) (c : Noted) → slice_get cs i ≡ Some c → i < length cs
got_within [] i c h = absurd (cc)
got_within (x ∷ xs) zero c h = omega arith
got_within (x ∷ xs) (suc i) c h = let l = got_within xs i c h in omega (arith, l)

pub place_within : (cs : List Noted) (t i : ℕ) → place_in cs t ≡ Some i → i < length cs
place_within cs t i h = let f = one_of cs t i h in got_within cs i f.0 f.1.0

-- One program --

pub one_serial : (m : Map) (cs : List Committed) (c : Committed) → cs ≡ c ∷ [] → AreAnsweredWhereGiven m c.program → AreSerial m cs
one_serial m cs c is h = subst (AreSerial m) (sym is) (answered_append m c.program [] h tt)

pub one_left : (m : Map) (cs : List Committed) (c : Committed) → cs ≡ c ∷ [] → map_left m cs ≡ map_after m c.program
one_left m cs c is = ap (map_left m) is

-- What the judge finds of the program at a place.
module _ (m : Map) (cs : List Noted) (t p : ℕ) (e : Noted) (program : List Given) (there : place_in cs t ≡ Some p) (own : program ≡ (let x = get_or cs p e in x.program.items)) where
  found : FoundAt cs t p
  found = one_of cs t p there

  own_program : program ≡ (let c = found in let d = c.0 in d.program.items)
  own_program = own ∙ ap (λ (x : Noted). x.program.items) (get_or_from_slice_get cs p found.0 e found.1.0)

  pub judged_none : AreAnsweredWhereGiven m program → AreSerial m (of_txn (map shown cs) t)
  judged_none h = one_serial m (of_txn (map shown cs) t) (shown found.0) found.1.1 (subst (AreAnsweredWhereGiven m) own_program h)

  pub judged_left : (after : Map) → after ≡ map_after m program → after ≡ map_left m (of_txn (map shown cs) t)
  judged_left after h = h ∙ ap (map_after m) own_program ∙ sym (one_left m (of_txn (map shown cs) t) (shown found.0) found.1.1)

  pub judged_wrong : (d : Difference) → IsFirstDifference m program d → IsWrongOf m cs t (record { place = p; difference = d })
  judged_wrong d h = record {
    one = found.0;
    here = found.1.0;
    own = found.1.1;
    difference = subst (λ (os : List Given). IsFirstDifference m os d) own_program h;
  }

-- Programs one after another --

pub serial_append : (m : Map) (cs ds : List Committed) → AreSerial m cs → AreSerial (map_left m cs) ds → AreSerial m (cs ++ ds)
serial_append m [] ds h g = g
serial_append m (c ∷ cs) ds h g =
    answered_append m c.program (flat_map (λ p. p) (map (λ (d : Committed). d.program) (cs ++ ds)))
    (answered_front m c.program (flat_map (λ p. p) (map (λ (d : Committed). d.program) cs)) h)
    (serial_append (map_after m c.program) cs ds (answered_back m c.program (flat_map (λ p. p) (map (λ (d : Committed). d.program) cs)) h) g)

pub serial_front : (m : Map) (cs ds : List Committed) → AreSerial m (cs ++ ds) → AreSerial m cs
serial_front m [] ds h = tt
serial_front m (c ∷ cs) ds h =
    answered_append m c.program (flat_map (λ p. p) (map (λ (d : Committed). d.program) cs))
    (answered_front m c.program (flat_map (λ p. p) (map (λ (d : Committed). d.program) (cs ++ ds))) h)
    (serial_front (map_after m c.program) cs ds (answered_back m c.program (flat_map (λ p. p) (map (λ (d : Committed). d.program) (cs ++ ds))) h))

serial_back : (m : Map) (cs ds : List Committed) → AreSerial m (cs ++ ds) → AreSerial (map_left m cs) ds
serial_back m [] ds h = h
serial_back m (c ∷ cs) ds h =
    serial_back (map_after m c.program) cs ds (answered_back m c.program (flat_map (λ p. p) (map (λ (d : Committed). d.program) (cs ++ ds))) h)

pub left_append : (m : Map) (cs ds : List Committed) → map_left m (cs ++ ds) ≡ map_left (map_left m cs) ds
left_append m [] ds = refl
left_append m (c ∷ cs) ds = left_append (map_after m c.program) cs ds

-- Orders --

pub in_order_append : (cs : List Committed) (ts us : List ℕ) → in_order cs (ts ++ us) ≡ in_order cs ts ++ in_order cs us
in_order_append cs [] us = refl
in_order_append cs (t ∷ ts) us = ap (λ (ds : List Committed). of_txn cs t ++ ds) (in_order_append cs ts us) ∙ sym (append_assoc (of_txn cs t) (in_order cs ts) (in_order cs us))

pub in_order_more : (cs : List Committed) (ts : List ℕ) (t : ℕ) → in_order cs (ts ++ t ∷ []) ≡ in_order cs ts ++ of_txn cs t
in_order_more cs ts t = in_order_append cs ts (t ∷ []) ∙ ap (λ (ds : List Committed). in_order cs ts ++ ds) (append-nil (of_txn cs t))

-- A wrong answer of the next program is the first in the order.
pub wrong_more : (m : Map) (cs : List Noted) (front : List ℕ) (t : ℕ) (rest txns : List ℕ) (w : Wrong) → txns ≡ front ++ t ∷ rest → AreSerial m (in_order (map shown cs) front)
    → IsWrongOf (map_left m (in_order (map shown cs) front)) cs t w → IsWrongIn m cs txns w
wrong_more m cs front t rest txns w is serial h = record {
  before = in_order (map shown cs) front;
  one = h.one;
  rest = in_order (map shown cs) rest;
  here = h.here;
  place = ap (in_order (map shown cs)) is ∙ in_order_append (map shown cs) front (t ∷ rest)
      ∙ ap (λ (ds : List Committed). in_order (map shown cs) front ++ (ds ++ in_order (map shown cs) rest)) h.own;
  serial_before = serial;
  difference = h.difference;
}

-- A first wrong answer, as the verdict says it.
pub found_of : (m : Map) (before rest : List Committed) (c : Committed) (v : TraceVerdict) → AreSerial m before → IsFound (map_left m before) c.txn c.program (Some v)
    → IsFirstFound m (before ++ c ∷ rest) (Some v)
found_of m before rest c verdict.Serial serial h = h
found_of m before rest c (verdict.SerialInOrder ts) serial h = h
found_of m before rest c (verdict.NotSerial u n given reply) serial h = record {
  before = before;
  program = c.program;
  rest = rest;
  place = ap (λ (z : ℕ). before ++ record { txn = z; program = c.program } ∷ rest) (sym h.0);
  serial_before = serial;
  difference = h.1.0;
  told = h.1.1;
}
found_of m before rest c verdict.Unknown serial h = h

-- Where there is a wrong answer, the programs aren't serializable in the order.
pub wrong_unserial : ((m : Map) (os : List Given) → AreAnsweredWhereGiven m os → difference_in m 1 os ≡ None) → ((m : Map) (os : List Given) (d : Difference) → IsFirstDifference m os d → difference_in m 1 os ≡ Some d)
    → (m : Map) (cs : List Noted) (ts : List ℕ) (w : Wrong) → IsWrongIn m cs ts w → AreSerial m (in_order (map shown cs) ts) → ⊥
wrong_unserial if_answered only m cs ts w h serial =
    let tail : AreSerial (map_left m h.before) (shown h.one ∷ h.rest) = serial_back m h.before (shown h.one ∷ h.rest) (subst (AreSerial m) h.place serial) in
    let own : AreAnsweredWhereGiven (map_left m h.before) h.one.program.items = answered_front (map_left m h.before) h.one.program.items (flat_map (λ p. p) (map (λ (d : Committed). d.program) h.rest)) tail in
    let none = if_answered (map_left m h.before) h.one.program.items own in
    let some = only (map_left m h.before) h.one.program.items w.difference h.difference in
    absurd (cc (none, some))

-- Where a wrong answer was found, and only there, the programs aren't serializable.
pub found_wrong : ((m : Map) (os : List Given) → AreAnsweredWhereGiven m os → difference_in m 1 os ≡ None) → ((m : Map) (os : List Given) (d : Difference) → IsFirstDifference m os d → difference_in m 1 os ≡ Some d)
    → (m : Map) (cs : List Noted) (ts : List ℕ) (w : Option Wrong) → is_some w ≡ true → IfSome w (IsWrongIn m cs ts) → (w ≡ None) ↔ AreSerial m (in_order (map shown cs) ts)
found_wrong if_answered only m cs ts None some h = absurd (cc)
found_wrong if_answered only m cs ts (Some w) some h = (λ e. absurd (cc), λ serial. absurd (wrong_unserial if_answered only m cs ts w h serial))

-- The transactions before the next, it, and those behind it.
pub split_here : (ts : List ℕ) (i : ℕ) → i < length ts → ts ≡ take i ts ++ slice_index ts i ∷ drop (suc i) ts
split_here [] i lt = absurd (omega (arith, lt))
split_here (t ∷ ts) zero lt = refl
split_here (t ∷ ts) (suc i) lt = ap (λ (us : List ℕ). t ∷ us) (split_here ts i (omega (arith, lt)))

take_next : (ts : List ℕ) (i : ℕ) → i < length ts → take (suc i) ts ≡ take i ts ++ slice_index ts i ∷ []
take_next [] i lt = absurd (omega (arith, lt))
take_next (t ∷ ts) zero lt = refl
take_next (t ∷ ts) (suc i) lt = ap (λ (us : List ℕ). t ∷ us) (take_next ts i (omega (arith, lt)))

-- One program more of an order.
pub next_in_order : (cs : List Committed) (ts : List ℕ) (i : ℕ) → i < length ts → in_order cs (take (i + 1) ts) ≡ in_order cs (take i ts) ++ of_txn cs (slice_index ts i)
next_in_order cs ts i lt =
    let next : i + 1 ≡ suc i = omega arith in
    ap (in_order cs) (ap (λ (n : ℕ). take n ts) next ∙ take_next ts i lt) ∙ in_order_more cs (take i ts) (slice_index ts i)

pub next_wrong : (m at : Map) (cs : List Noted) (ts : List ℕ) (i : ℕ) (w : Option Wrong) → i < length ts → AreSerial m (in_order (map shown cs) (take i ts)) → at ≡ map_left m (in_order (map shown cs) (take i ts))
    → IfSome w (IsWrongOf at cs (slice_index ts i)) → IfSome w (IsWrongIn m cs ts)
next_wrong m at cs ts i None lt serial left h = tt
next_wrong m at cs ts i (Some w) lt serial left h =
    wrong_more m cs (take i ts) (slice_index ts i) (drop (suc i) ts) ts w (split_here ts i lt) serial (subst (λ (x : Map). IsWrongOf x cs (slice_index ts i) w) left h)

pub next_serial : (m at : Map) (cs : List Committed) (ts : List ℕ) (i : ℕ) → i < length ts → AreSerial m (in_order cs (take i ts)) → at ≡ map_left m (in_order cs (take i ts))
    → AreSerial at (of_txn cs (slice_index ts i)) → AreSerial m (in_order cs (take (i + 1) ts))
next_serial m at cs ts i lt serial left h =
    subst (AreSerial m) (sym (next_in_order cs ts i lt))
    (serial_append m (in_order cs (take i ts)) (of_txn cs (slice_index ts i)) serial (subst (λ (x : Map). AreSerial x (of_txn cs (slice_index ts i))) left h))

pub next_left : (m at after : Map) (cs : List Committed) (ts : List ℕ) (i : ℕ) → i < length ts → at ≡ map_left m (in_order cs (take i ts)) → after ≡ map_left at (of_txn cs (slice_index ts i))
    → after ≡ map_left m (in_order cs (take (i + 1) ts))
next_left m at after cs ts i lt left h =
    h ∙ ap (λ (x : Map). map_left x (of_txn cs (slice_index ts i))) left
    ∙ sym (left_append m (in_order cs (take i ts)) (of_txn cs (slice_index ts i))) ∙ ap (map_left m) (sym (next_in_order cs ts i lt))

pub at_none : (w : Option Wrong) (P : Type 0) → is_some w ≡ false → IfNone w P → P
at_none None P e h = h
at_none (Some w) P e h = absurd (cc)

-- Building the places --

-- The place of a transaction, where the first of these has the place n.
abbrev pub place_from : ℕ → List Noted → ℕ → Option ℕ
place_from n [] t = None
place_from n (c ∷ cs) t = cond (c.txn == t) (Some n) (place_from (suc n) cs t)

from_first : (n : ℕ) (cs : List Noted) (t : ℕ) → place_from n cs t ≡ option_map (λ i. n + i) (place_in cs t)
from_first n [] t = refl
from_first n (c ∷ cs) t = by (c.txn == t) (from_first (suc n) cs t)
  where
    next : (o : Option ℕ) → option_map (λ i. suc n + i) o ≡ option_map (λ i. n + i) (option_map (λ i. suc i) o)
    next None = refl
    next (Some i) = ap (λ (j : ℕ). Some j) (omega arith)

    by : (b : Bool) → place_from (suc n) cs t ≡ option_map (λ i. suc n + i) (place_in cs t)
        → cond b (Some n) (place_from (suc n) cs t) ≡ option_map (λ i. n + i) (cond b (Some 0) (option_map (λ i. suc i) (place_in cs t)))
    by true rest = ap (λ (j : ℕ). Some j) (omega arith)
    by false rest = rest ∙ next (place_in cs t)

-- All places.
pub all_placed : (cs : List Noted) (t : ℕ) → place_from 0 cs t ≡ place_in cs t
all_placed cs t = from_first 0 cs t ∙ same (place_in cs t)
  where
    same : (o : Option ℕ) → option_map (λ i. 0 + i) o ≡ o
    same None = refl
    same (Some i) = ap (λ (j : ℕ). Some j) (omega arith)

-- Trying orders --

pub longer_order : (cs : List Committed) (ts : List ℕ) (t : ℕ) (more : List ℕ) → in_order cs ((ts ++ t ∷ []) ++ more) ≡ in_order cs (ts ++ t ∷ more)
longer_order cs ts t more = ap (in_order cs) (append_assoc ts (t ∷ []) more)

-- An order isn't serializable where its front isn't.
pub front_unserial : (m : Map) (cs : List Committed) (ts : List ℕ) (t : ℕ) (more : List ℕ) → (AreSerial m (in_order cs (ts ++ t ∷ [])) → ⊥) → AreSerial m (in_order cs (ts ++ t ∷ more)) → ⊥
front_unserial m cs ts t more not_front serial =
    not_front (serial_front m (in_order cs (ts ++ t ∷ [])) (in_order cs more)
    (subst (AreSerial m) (sym (longer_order cs ts t more) ∙ in_order_append cs (ts ++ t ∷ []) more) serial))

-- An order that goes on with the next of those that are left.
pub found_with : (m : Map) (cs : List Committed) (old now new rest others : List ℕ) (i : ℕ) → i < length rest → now ≡ old ++ slice_index rest i ∷ [] → others ≡ remove rest i
    → (more : List ℕ) × (AreArranged others more × ((new ≡ now ++ more) × AreSerial m (in_order cs (now ++ more))))
    → (more : List ℕ) × (AreArranged rest more × ((new ≡ old ++ more) × AreSerial m (in_order cs (old ++ more))))
found_with m cs old now new rest others i lt pushed removed f =
    let t : ℕ = slice_index rest i in
    let same : now ++ f.0 ≡ old ++ t ∷ f.0 = ap (λ (us : List ℕ). us ++ f.0) pushed ∙ append_assoc old (t ∷ []) f.0 in (
      t ∷ f.0,
      (
        (i, (slice_get-get_or rest i 0 lt, subst (λ (us : List ℕ). AreArranged us f.0) removed f.1.0)),
        (f.1.1.0 ∙ same, subst (λ (us : List ℕ). AreSerial m (in_order cs us)) same f.1.1.1),
      ),
    )

-- No order that goes on with it is serializable.
pub none_with : (m : Map) (cs : List Committed) (old now rest others : List ℕ) (i : ℕ) → now ≡ old ++ slice_index rest i ∷ [] → others ≡ remove rest i
    → ((more : List ℕ) → AreArranged others more → AreSerial m (in_order cs (now ++ more)) → ⊥) → (more : List ℕ) → AreArranged (remove rest i) more
    → AreSerial m (in_order cs (old ++ slice_index rest i ∷ more)) → ⊥
none_with m cs old now rest others i pushed removed none more arranged serial =
    let t : ℕ = slice_index rest i in
    let same : now ++ more ≡ old ++ t ∷ more = ap (λ (us : List ℕ). us ++ more) pushed ∙ append_assoc old (t ∷ []) more in
    none more (subst (λ (us : List ℕ). AreArranged us more) (sym removed) arranged) (subst (λ (us : List ℕ). AreSerial m (in_order cs us)) (sym same) serial)

-- One more was tried.
pub tried_more : (m : Map) (cs : List Committed) (old rest : List ℕ) (i : ℕ) → i < length rest
    → ((k t : ℕ) (more : List ℕ) → k < i → slice_get rest k ≡ Some t → AreArranged (remove rest k) more → AreSerial m (in_order cs (old ++ t ∷ more)) → ⊥)
    → ((more : List ℕ) → AreArranged (remove rest i) more → AreSerial m (in_order cs (old ++ slice_index rest i ∷ more)) → ⊥)
    → (k t : ℕ) (more : List ℕ) → k < i + 1 → slice_get rest k ≡ Some t → AreArranged (remove rest k) more → AreSerial m (in_order cs (old ++ t ∷ more)) → ⊥
tried_more m cs old rest i lt before here k t more within at arranged serial = ⊎_elim below same (lt_or_eq k i within)
  where
    lt_or_eq : (k i : ℕ) → k < i + 1 → (k < i) ⊎ (k ≡ i)
    lt_or_eq zero zero h = inr refl
    lt_or_eq zero (suc i) h = inl (omega arith)
    lt_or_eq (suc k) zero h = absurd (omega (arith, h))
    lt_or_eq (suc k) (suc i) h = ⊎_elim (λ (l : k < i). inl (omega (arith, l))) (λ (e : k ≡ i). inr (ap suc e)) (lt_or_eq k i (omega (arith, h)))

    below : k < i → ⊥
    below l = before k t more l at arranged serial

    same : k ≡ i → ⊥
    same e =
        let got : slice_get rest i ≡ Some t = subst (λ (n : ℕ). slice_get rest n ≡ Some t) e at in
        let own : slice_index rest i ≡ t = get_or_from_slice_get rest i t 0 got in
        here more (subst (λ (n : ℕ). AreArranged (remove rest n) more) e arranged) (subst (λ (u : ℕ). AreSerial m (in_order cs (old ++ u ∷ more))) (sym own) serial)

num_within : (us : List ℕ) (i t : ℕ) → slice_get us i ≡ Some t → i < length us
num_within [] i t h = absurd (cc)
num_within (u ∷ us) zero t h = omega arith
num_within (u ∷ us) (suc i) t h = let l = num_within us i t h in omega (arith, l)

-- All were tried.
pub none_tried : (m : Map) (cs : List Committed) (old rest : List ℕ) (n : ℕ) → 0 < length rest → length rest ≤ n
    → ((k t : ℕ) (more : List ℕ) → k < n → slice_get rest k ≡ Some t → AreArranged (remove rest k) more → AreSerial m (in_order cs (old ++ t ∷ more)) → ⊥)
    → (more : List ℕ) → AreArranged rest more → AreSerial m (in_order cs (old ++ more)) → ⊥
none_tried m cs old rest n some all none [] arranged serial = absurd (let l = ap (λ (us : List ℕ). length us) arranged in omega (arith, l, some))
none_tried m cs old rest n some all none (t ∷ more) arranged serial =
    let l = num_within rest arranged.0 t arranged.1.0 in
    none arranged.0 t more (omega (arith, l, all)) arranged.1.0 arranged.1.1 serial

front_of : (old : List ℕ) (t : ℕ) → take (length old) (old ++ t ∷ []) ≡ old
front_of [] t = refl
front_of (x ∷ xs) t = ap (λ (us : List ℕ). x ∷ us) (front_of xs t)

-- What is left where the last one is taken away again.
pub popped : (xs ys old : List ℕ) (t n : ℕ) → ys ≡ take n xs → xs ≡ old ++ t ∷ [] → n + 1 ≡ length xs → ys ≡ old
popped xs ys old t n is pushed len =
    let whole : length xs ≡ length old + 1 = ap (λ (us : List ℕ). length us) pushed ∙ length-append old (t ∷ []) in
    let same : n ≡ length old = omega (arith, whole, len) in
    is ∙ ap (λ (us : List ℕ). take n us) pushed ∙ ap (λ (k : ℕ). take k (old ++ t ∷ [])) same ∙ front_of old t

pub some_not_none : (w : Option Wrong) → is_some w ≡ true → w ≡ None → ⊥
some_not_none None some none = absurd (cc)
some_not_none (Some w) some none = absurd (cc)
