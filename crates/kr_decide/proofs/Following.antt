-- What comes of a pair, request by request, and what is known once it has been followed.
use Rattle.std.proofs.Common.{ℕ, Bool, true, false, ◌≡◌, ◌≤◌, ◌<◌, ◌+◌, ◌∙◌, List, [], ◌∷◌, ◌++◌, length, get_or, set, replicate, ap, refl, sym, subst, inl, inr, arith, ◌⊎◌}
use Rattle.std.specs.List.{Any}
use Rattle.std.proofs.Math.ListN.{get_or-append, length-append}
use Rattle.std.proofs.Math.Seq.{get_or-append_seam}
use Rattle.kr_model.specs.declared.Row.{Row}
use Rattle.kr_model.specs.declared.Row.TheVariants as row
use Rattle.kr_model.specs.declared.Side.{Side}
use Rattle.kr_model.specs.declared.Side.TheVariants.{Current, Next}
use Rattle.kr_model.specs.declared.LockState.{LockState}
use Rattle.kr_model.specs.Protocol.{Protocol}
use Rattle.kr_model.specs.Safe.{free}
use Rattle.kr_decide.specs.declared.pair.Pair.{Pair}
use Rattle.kr_decide.specs.declared.finding.Above.{Above}
use Rattle.kr_decide.specs.declared.finding.Found.{Found}
use Rattle.kr_decide.specs.declared.finding.Spot.{Spot}
use Rattle.std.proofs.lemmas.List.{get_or_default}
use Rattle.kr_decide.specs.Numbers.{pair_number}
use Rattle.kr_decide.specs.Pairs.{no_pair, pair_at}
use Rattle.kr_decide.specs.Findings.{Has, AreFound, Grows, IsAbove, IsSpot, MovesTo, MovesPlainly, MovesByNext, MovesByNexts, AllMoveByNext, nothing_above, above_at, AreNexts, IsAlike, HasNext, HasAllOf, IsFollowed, IsFirst, IsGoing}
use Rattle.kr_decide.proofs.Growing.{found_none, grown, has_grown, grows_on}

-- Where what is in one list is in the other, so is what one comes to.
pub moves_grown : (p : Protocol) (a b : Found) (x y n : LockState) (r : Row) (s : Side) → Grows p a b → MovesTo p a.pairs.items x y n r s → MovesTo p b.pairs.items x y n r s
moves_grown p a b x y n r s g m asks beside granted = has_grown p a b _ y g (m asks beside granted)

-- The two requests that go by the next name, and the seven that don't.
pub by_next_moves : (p : Protocol) (pairs : List Pair) (x y n : LockState) → MovesTo p pairs x y n row.Insert Current → MovesTo p pairs x y n row.Delete Current → MovesByNext p pairs x y n
by_next_moves p pairs x y n ins del row.Insert Current e = ins
by_next_moves p pairs x y n ins del row.Insert Next e = cc
by_next_moves p pairs x y n ins del row.Delete Current e = del
by_next_moves p pairs x y n ins del row.Delete Next e = cc
by_next_moves p pairs x y n ins del row.FetchHit s e = cc
by_next_moves p pairs x y n ins del row.FetchMiss s e = cc
by_next_moves p pairs x y n ins del row.ScanKey s e = cc
by_next_moves p pairs x y n ins del row.ScanStop s e = cc
by_next_moves p pairs x y n ins del row.Update s e = cc

pub plain_moves : (p : Protocol) (pairs : List Pair) (x y n : LockState) → MovesTo p pairs x y n row.FetchHit Current → MovesTo p pairs x y n row.FetchMiss Next → MovesTo p pairs x y n row.ScanKey Current
    → MovesTo p pairs x y n row.ScanStop Next → MovesTo p pairs x y n row.Insert Next → MovesTo p pairs x y n row.Delete Next → MovesTo p pairs x y n row.Update Current → MovesPlainly p pairs x y n
plain_moves p pairs x y n a b c d e f g row.FetchHit Current h = a
plain_moves p pairs x y n a b c d e f g row.FetchHit Next h = λ asks. absurd asks
plain_moves p pairs x y n a b c d e f g row.FetchMiss Current h = λ asks. absurd asks
plain_moves p pairs x y n a b c d e f g row.FetchMiss Next h = b
plain_moves p pairs x y n a b c d e f g row.ScanKey Current h = c
plain_moves p pairs x y n a b c d e f g row.ScanKey Next h = λ asks. absurd asks
plain_moves p pairs x y n a b c d e f g row.ScanStop Current h = λ asks. absurd asks
plain_moves p pairs x y n a b c d e f g row.ScanStop Next h = d
plain_moves p pairs x y n a b c d e f g row.Insert Current h = cc
plain_moves p pairs x y n a b c d e f g row.Insert Next h = e
plain_moves p pairs x y n a b c d e f g row.Delete Current h = cc
plain_moves p pairs x y n a b c d e f g row.Delete Next h = f
plain_moves p pairs x y n a b c d e f g row.Update Current h = g
plain_moves p pairs x y n a b c d e f g row.Update Next h = λ asks. absurd asks

plainly_grown : (p : Protocol) (a b : Found) (x y n : LockState) → Grows p a b → MovesPlainly p a.pairs.items x y n → MovesPlainly p b.pairs.items x y n
plainly_grown p a b x y n g m r s e = moves_grown p a b x y n r s g (m r s e)

by_next_grown : (p : Protocol) (a b : Found) (x y n : LockState) → Grows p a b → MovesByNext p a.pairs.items x y n → MovesByNext p b.pairs.items x y n
by_next_grown p a b x y n g m r s e = moves_grown p a b x y n r s g (m r s e)

-- Below n + 1 is below n, or n.
below_or_last : (k n : ℕ) → k < n + 1 → (k < n) ⊎ (k ≡ n)
below_or_last k n h = grind arith

-- At first with none.
pub nexts_none : (p : Protocol) (pairs : List Pair) (nexts : List Above) (x y : LockState) → MovesByNexts p pairs nexts 0 x y
nexts_none p pairs nexts x y j below = absurd (omega arith)

pub everywhere_none : (p : Protocol) (pairs from : List Pair) (above : LockState) → AllMoveByNext p pairs from 0 above
everywhere_none p pairs from above k below = absurd (omega arith)

-- With one lock state on the next name more.
pub nexts_step : (p : Protocol) (a b : Found) (nexts : List Above) (n : ℕ) (x y : LockState) → Grows p a b
    → MovesByNexts p a.pairs.items nexts n x y → MovesByNext p b.pairs.items x y (above_at nexts n).state → MovesByNexts p b.pairs.items nexts (n + 1) x y
nexts_step p a b nexts n x y g old new j below = split (below_or_last j n below)
  where
    split : (j < n) ⊎ (j ≡ n) → MovesByNext p b.pairs.items x y (above_at nexts j).state
    split (inl h) = by_next_grown p a b x y (above_at nexts j).state g (old j h)
    split (inr e) = subst (λ (i : ℕ). MovesByNext p b.pairs.items x y (above_at nexts i).state) (sym e) new

-- And of one pair more.
pub everywhere_step : (p : Protocol) (a b : Found) (from : List Pair) (n : ℕ) (above : LockState) → Grows p a b
    → AllMoveByNext p a.pairs.items from n above → MovesByNext p b.pairs.items (pair_at from n).own (pair_at from n).other above → AllMoveByNext p b.pairs.items from (n + 1) above
everywhere_step p a b from n above g old new k below = split (below_or_last k n below)
  where
    split : (k < n) ⊎ (k ≡ n) → MovesByNext p b.pairs.items (pair_at from k).own (pair_at from k).other above
    split (inl h) = by_next_grown p a b (pair_at from k).own (pair_at from k).other above g (old k h)
    split (inr e) = subst (λ (i : ℕ). MovesByNext p b.pairs.items (pair_at from i).own (pair_at from i).other above) (sym e) new

-- What stands on the next name in a list stays so.
pub above_grown : (p : Protocol) (a b : Found) (z : Above) → Grows p a b → IsAbove a.pairs.items z → IsAbove b.pairs.items z
above_grown p a b z g i = record {
  within = let l = g.longer in let w = i.within in omega arith;
  state = subst (λ (q : Pair). q.own ≡ z.state) (sym (g.kept z.place i.within)) i.state;
  alone = subst (λ (q : Pair). q.other ≡ free) (sym (g.kept z.place i.within)) i.alone;
}

-- So does what two transactions have.
pub spot_grown : (p : Protocol) (a b : Found) (s : Spot) → Grows p a b → IsSpot a.pairs.items s → IsSpot b.pairs.items s
spot_grown p a b s g i = record {
  from = let l = g.longer in let w = i.from in omega arith;
  pair = g.kept s.from i.from ∙ i.pair;
  above = above_grown p a b s.above g i.above;
}

pub nexts_grown : (p : Protocol) (a b : Found) (nexts : List Above) → Grows p a b → AreNexts a.pairs.items nexts → AreNexts b.pairs.items nexts
nexts_grown p a b nexts g old j h = above_grown p a b (above_at nexts j) g (old j h)

pub first_grown : (p : Protocol) (a b : Found) → Grows p a b → IsFirst a.pairs.items → IsFirst b.pairs.items
first_grown p a b g f = record {
  some = let l = g.longer in let s = f.some in omega arith;
  own = subst (λ (q : Pair). q.own ≡ free) (sym (g.kept 0 f.some)) f.own;
  other = subst (λ (q : Pair). q.other ≡ free) (sym (g.kept 0 f.some)) f.other;
}

-- Nothing on the next name is what the first pair says.
pub first_above : (pairs : List Pair) → IsFirst pairs → IsAbove pairs nothing_above
first_above pairs f = record { within = f.some; state = f.own; alone = f.other }

-- All of a pair, put together from the steps by which it was found.
pub all_of : (p : Protocol) (a b c d e : Found) (x y : LockState) → Grows p b c → Grows p c d → Grows p d e → a.nexts.items ≡ d.nexts.items
    → Has b.pairs.items y x → Has c.pairs.items free y → MovesPlainly p d.pairs.items x y free → MovesByNexts p e.pairs.items d.nexts.items (length d.nexts.items) x y
    → HasAllOf p e.pairs.items a.nexts.items x y
all_of p a b c d e x y bc cd de same turned ended plain by_next = record {
  turned = has_grown p b e y x (grows_on p b d e (grows_on p b c d bc cd) de) turned;
  ended = has_grown p c e free y (grows_on p c d e cd de) ended;
  plain = plainly_grown p d e x y free de plain;
  by_next = subst (λ (l : List Above). MovesByNexts p e.pairs.items l (length l) x y) (sym same) by_next;
}

all_grown : (p : Protocol) (a b : Found) (nexts : List Above) (x y : LockState) → Grows p a b → HasAllOf p a.pairs.items nexts x y → HasAllOf p b.pairs.items nexts x y
all_grown p a b nexts x y g h = record {
  turned = has_grown p a b y x g h.turned;
  ended = has_grown p a b free y g h.ended;
  plain = plainly_grown p a b x y free g h.plain;
  by_next = λ j l. by_next_grown p a b x y (above_at nexts j).state g (h.by_next j l);
}

-- One pair more has been followed, and nothing on the next name is new.
pub going_same : (p : Protocol) (f f' : Found) (n : ℕ) (x : Pair) → IsGoing p f n → n < length f.pairs.items → pair_at f.pairs.items n ≡ x → Grows p f f'
    → HasAllOf p f'.pairs.items f.nexts.items x.own x.other → (x.other ≡ free → x.own.deleted ≡ false → HasNext f.nexts.items x.own) → IsGoing p f' (n + 1)
going_same p f f' n x old within here g all next = record {
  found = g.found;
  first = first_grown p f f' g old.first;
  nexts = subst (λ (l : List Above). AreNexts f'.pairs.items l) (sym g.nexts) (nexts_grown p f f' f.nexts.items g old.nexts);
  followed = λ k below. subst (λ (l : List Above). Here l k) (sym g.nexts) (split k (below_or_last k n below));
}
  where
    Here : List Above → ℕ → Type 0
    Here l k = IsFollowed p f'.pairs.items l (pair_at f'.pairs.items k).own (pair_at f'.pairs.items k).other

    split : (k : ℕ) → (k < n) ⊎ (k ≡ n) → Here f.nexts.items k
    split k (inl h) =
        let o = old.followed k h in
        subst (λ (q : Pair). IsFollowed p f'.pairs.items f.nexts.items q.own q.other) (sym (g.kept k (omega arith)))
        (record { all = all_grown p f f' f.nexts.items _ _ g o.all; next = o.next })
    split k (inr e) =
        subst (λ (i : ℕ). Here f.nexts.items i) (sym e)
        (subst (λ (q : Pair). IsFollowed p f'.pairs.items f.nexts.items q.own q.other) (sym (g.kept n within ∙ here)) (record { all = all; next = next }))

-- What stood on the next name still does, and one more.
has_next_more : (nexts : List Above) (z : Above) (x : LockState) → HasNext nexts x → HasNext (nexts ++ z ∷ []) x
has_next_more nexts z x h = record {
  place = h.place;
  within = let e = length-append nexts (z ∷ []) in let w = h.within in omega arith;
  alike = subst (λ (q : Above). IsAlike q.state x) (sym (get_or-append nexts (z ∷ []) nothing_above h.place h.within)) h.alike;
}

-- One pair more has been followed, and its lock state is new on the next name.
pub going_next : (p : Protocol) (f m f' f'' : Found) (n : ℕ) (x : Pair) (z : Above) → IsGoing p f n → n < length f.pairs.items → pair_at f.pairs.items n ≡ x → Grows p f m → Grows p m f'
    → HasAllOf p m.pairs.items f.nexts.items x.own x.other → AllMoveByNext p f'.pairs.items m.pairs.items (n + 1) z.state → IsAbove m.pairs.items z → z.state ≡ x.own
    → f''.pairs.items ≡ f'.pairs.items → f''.unseen.items ≡ f'.unseen.items → f''.nexts.items ≡ f'.nexts.items ++ z ∷ [] → IsGoing p f'' (n + 1)
going_next p f m f' f'' n x z old within here fm mf all every above state pairs unseen nexts = record {
  found = subst (λ (l : List Pair). AreFound p l f''.unseen.items) (sym pairs) (subst (λ (us : List Bool). AreFound p f'.pairs.items us) (sym unseen) mf.found);
  first = subst IsFirst (sym pairs) (first_grown p f f' ff old.first);
  nexts = subst (λ (l : List Pair). AreNexts l f''.nexts.items) (sym pairs) (subst (λ (l : List Above). AreNexts f'.pairs.items l) (sym these) (λ j below. are_nexts j (below_or_last j (length f.nexts.items) (omega (arith, one_longer)))));
  followed = λ k below. subst (λ (l : List Pair). Here l f''.nexts.items k) (sym pairs) (subst (λ (l : List Above). Here f'.pairs.items l k) (sym these) (split k (below_or_last k n below)));
}
  where
    ff : Grows p f f'
    ff = grows_on p f m f' fm mf

    these : f''.nexts.items ≡ f.nexts.items ++ z ∷ []
    these = nexts ∙ ap (λ (l : List Above). l ++ z ∷ []) (mf.nexts ∙ fm.nexts)

    one_longer : length (f.nexts.items ++ z ∷ []) ≡ length f.nexts.items + 1
    one_longer = length-append f.nexts.items (z ∷ [])

    at_old : (j : ℕ) → j < length f.nexts.items → above_at (f.nexts.items ++ z ∷ []) j ≡ above_at f.nexts.items j
    at_old j h = get_or-append f.nexts.items (z ∷ []) nothing_above j h

    at_new : above_at (f.nexts.items ++ z ∷ []) (length f.nexts.items) ≡ z
    at_new = get_or-append_seam f.nexts.items z [] nothing_above

    are_nexts : (j : ℕ) → (j < length f.nexts.items) ⊎ (j ≡ length f.nexts.items) → IsAbove f'.pairs.items (above_at (f.nexts.items ++ z ∷ []) j)
    are_nexts j (inl h) = subst (IsAbove f'.pairs.items) (sym (at_old j h)) (above_grown p f f' (above_at f.nexts.items j) ff (old.nexts j h))
    are_nexts j (inr e) = subst (λ (i : ℕ). IsAbove f'.pairs.items (above_at (f.nexts.items ++ z ∷ []) i)) (sym e) (subst (IsAbove f'.pairs.items) (sym at_new) (above_grown p m f' z mf above))

    Here : List Pair → List Above → ℕ → Type 0
    Here l ns k = IsFollowed p l ns (pair_at l k).own (pair_at l k).other

    -- with the new one too
    with_new : (k : ℕ) (u : Pair) → k < n + 1 → pair_at m.pairs.items k ≡ u → HasAllOf p f'.pairs.items f.nexts.items u.own u.other → HasAllOf p f'.pairs.items (f.nexts.items ++ z ∷ []) u.own u.other
    with_new k u below is h = record { turned = h.turned; ended = h.ended; plain = h.plain; by_next = λ j l. each j (below_or_last j (length f.nexts.items) (omega (arith, one_longer))) }
      where
        each : (j : ℕ) → (j < length f.nexts.items) ⊎ (j ≡ length f.nexts.items) → MovesByNext p f'.pairs.items u.own u.other (above_at (f.nexts.items ++ z ∷ []) j).state
        each j (inl l) = subst (λ (q : Above). MovesByNext p f'.pairs.items u.own u.other q.state) (sym (at_old j l)) (h.by_next j l)
        each j (inr e) =
            subst (λ (i : ℕ). MovesByNext p f'.pairs.items u.own u.other (above_at (f.nexts.items ++ z ∷ []) i).state) (sym e)
            (subst (λ (q : Above). MovesByNext p f'.pairs.items u.own u.other q.state) (sym at_new)
            (subst (λ (q : Pair). MovesByNext p f'.pairs.items q.own q.other z.state) is (every k below)))

    split : (k : ℕ) → (k < n) ⊎ (k ≡ n) → Here f'.pairs.items (f.nexts.items ++ z ∷ []) k
    split k (inl h) =
        let o = old.followed k h in
        subst (λ (q : Pair). IsFollowed p f'.pairs.items (f.nexts.items ++ z ∷ []) q.own q.other) (sym (ff.kept k (omega arith)))
        (record {
          all = with_new k (pair_at f.pairs.items k) (omega arith) (fm.kept k (omega arith)) (all_grown p f f' f.nexts.items _ _ ff o.all);
          next = λ a b. has_next_more f.nexts.items z _ (o.next a b);
        })
    split k (inr e) =
        subst (λ (i : ℕ). Here f'.pairs.items (f.nexts.items ++ z ∷ []) i) (sym e)
        (subst (λ (q : Pair). IsFollowed p f'.pairs.items (f.nexts.items ++ z ∷ []) q.own q.other) (sym (ff.kept n within ∙ here))
        (record {
          all = with_new n x (omega arith) (fm.kept n within ∙ here) (all_grown p m f' f.nexts.items _ _ mf all);
          next = λ a b. record {
            place = length f.nexts.items;
            within = omega (arith, one_longer);
            alike = subst (λ (q : Above). IsAlike q.state x.own) (sym at_new) (ap (λ (v : LockState). v.mode) state, ap (λ (v : LockState). v.gap) state, ap (λ (v : LockState). v.deleted) state);
          };
        }))

-- The first pair alone.
pub going_none : (p : Protocol) (f : Found) (x : Pair) → x.own ≡ free → x.other ≡ free → AreFound p f.pairs.items f.unseen.items → f.pairs.items ≡ x ∷ [] → f.nexts.items ≡ [] → IsGoing p f 0
going_none p f x own other found pairs nexts = record {
  found = found;
  first = subst IsFirst (sym pairs) (record { some = omega arith; own = own; other = other });
  nexts = λ j h. absurd (let e = ap length nexts in omega arith);
  followed = λ k h. absurd (omega arith);
}

-- Of the first pair, nothing has been followed.
pub going_start : (p : Protocol) (f f' : Found) (n : ℕ) → p.count ≤ 15 → f.pairs.items ≡ [] → f.unseen.items ≡ replicate 147456 true → f.nexts.items ≡ []
    → n ≡ pair_number free free → f'.pairs.items ≡ f.pairs.items ++ no_pair ∷ [] → f'.unseen.items ≡ set f.unseen.items n false → f'.nexts.items ≡ f.nexts.items → IsGoing p f' 0
going_start p f f' n few none unseen no_nexts number pairs unseens nexts =
    let some : AreFound p f.pairs.items f.unseen.items = found_none p f none unseen in
    let g : Grows p f f' =
    grown p f f' no_pair few some (refl, refl) (omega arith) (omega arith) (omega arith)
    (subst (λ (us : List Bool). get_or us 0 true ≡ true) (sym unseen) refl) pairs (subst (λ (i : ℕ). f'.unseen.items ≡ set f.unseen.items i false) number unseens) nexts in
    going_none p f' no_pair refl refl g.found (pairs ∙ ap (λ (l : List Pair). l ++ no_pair ∷ []) none) (nexts ∙ no_nexts)

-- What is read of a list is what stands there.
pub pair_read : (pairs : List Pair) (k : ℕ) (x : Pair) → k < length pairs → x ≡ get_or pairs k x → pair_at pairs k ≡ x
pair_read pairs k x within is = get_or_default pairs k no_pair x within ∙ sym is

pub above_read : (nexts : List Above) (k : ℕ) (x : Above) → k < length nexts → x ≡ get_or nexts k x → above_at nexts k ≡ x
above_read nexts k x within is = get_or_default nexts k nothing_above x within ∙ sym is

-- A list has what some element of it is.
pub any_next : (nexts : List Above) (x : LockState) → Any (λ a. IsAlike a.state x) nexts → HasNext nexts x
any_next nexts x h = record {
  place = h.0;
  within = h.2;
  alike = subst (λ (q : Above). IsAlike q.state x) (sym (above_read nexts h.0 h.1 h.2 (sym h.3))) h.4;
}
