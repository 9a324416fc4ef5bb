-- Known bytes that grow in steps.
use Rattle.std.proofs.Common.{ℕ, ◌+◌, List, ◌++◌, take, drop, Option, Some, None, length, ◌-◌, ap, sym, ◌∙◌, append_assoc}
use Rattle.std.proofs.Math.Seq.{take-add}
use Rattle.std.proofs.lemmas.List.{take-append-drop, take_rest}
use Rattle.std.specs.Io.KnownBytes.{Appends, Keeps}
use Rattle.kr_sink.specs.Puts.{AppendsFront}

-- bytes that grew by xs and then by ys grew by both
pub appends_more : (a b c : Option (List ℕ)) (xs ys : List ℕ) → Appends a b xs → Appends b c ys → Appends a c (xs ++ ys)
appends_more None b c xs ys h k = tt
appends_more (Some u) None c xs ys h k = absurd h
appends_more (Some u) (Some v) None xs ys h k = absurd k
appends_more (Some u) (Some v) (Some w) xs ys h k = k ∙ ap (λ l. l ++ ys) h ∙ append_assoc u xs ys

-- bytes that grew by the first i of bs, and then by the next n, grew by the first i + n
pub appends_next : (a b c : Option (List ℕ)) (i n : ℕ) (bs : List ℕ) → Appends a b (take i bs) → Appends b c (take n (take (length bs - i) (drop i bs))) → Appends a c (take (i + n) bs)
appends_next a b c i n bs h k = rw (take-add i n bs) (appends_more a b c (take i bs) (take n (drop i bs)) h (rw (take_rest bs i) at k))

-- bytes that grew by the first i of bs grew by a prefix of bs
pub appends_front : (a b : Option (List ℕ)) (i : ℕ) (bs : List ℕ) → Appends a b (take i bs) → AppendsFront a b bs
appends_front a b i bs h = (take i bs, drop i bs, sym (take-append-drop i bs), h)

-- bytes that grew by a prefix of bs grew by one of bs with more behind it
pub front_of_more : (a b : Option (List ℕ)) (bs more : List ℕ) → AppendsFront a b bs → AppendsFront a b (bs ++ more)
front_of_more a b bs more h = (h.0, h.1 ++ more, ap (λ l. l ++ more) h.2 ∙ append_assoc h.0 h.1 more, h.3)

-- bytes that grew by all of bs, and then by a prefix of more, grew by a prefix of both
pub front_behind : (a b c : Option (List ℕ)) (bs more : List ℕ) → Appends a b bs → AppendsFront b c more → AppendsFront a c (bs ++ more)
front_behind a b c bs more h k = (bs ++ k.0, k.1, ap (λ l. bs ++ l) k.2 ∙ sym (append_assoc bs k.0 k.1), appends_more a b c bs k.0 h k.3)

-- bytes that grew, and then were kept, grew as before
pub appends_kept : (a b c : Option (List ℕ)) (xs : List ℕ) → Appends a b xs → Keeps b c → Appends a c xs
appends_kept None b c xs h k = tt
appends_kept (Some u) None c xs h k = absurd h
appends_kept (Some u) (Some v) None xs h k = absurd k
appends_kept (Some u) (Some v) (Some w) xs h k = k ∙ h
