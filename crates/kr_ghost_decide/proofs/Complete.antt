-- Where nothing is new, all that can be on one name is marked; and where no marked pair has a hole, the protocol is safe.
use Rattle.std.proofs.Common.{ℕ, Bool, true, false, ◌≡◌, ◌≤◌, List, get_or, Some, None, refl, sym, ap, ◌∙◌, subst, arith}
use Rattle.std.specs.Prelude.{◌&&◌, ◌||◌, not, if◌then◌else◌}
use Rattle.std.proofs.lemmas.Bool.{and_from}
use Rattle.kr_ghost.specs.Protocol.{GhostProtocol, IsLawfulGhost, Inherit, inherits as are_inherited}
use Rattle.kr_ghost.specs.Safe.{KeyUse, Free, Several, Hold, free, is_changed, Ask, FetchHit, FetchMiss, ScanName, ScanStop, Insert, Delete, Update, Revive, InsertHit, DeleteMiss, UpdateMiss, ReviveNext, InsertHitNext, MayAsk, keeps_out, is_blocked, present_after, Undone, insert, update, delete, to_insert, to_update, to_delete, to_several, Quiet, commit, leave, roll, undo, inherits, Beside, start, turn, ask, quiet, third_asks, third_undoes, new, purge, IsSafeGhost}
use Rattle.kr_ghost_decide.specs.declared.found.Found.{Found}
use Rattle.kr_ghost_decide.specs.declared.heir.Heirs.{Heirs}
use Rattle.kr_ghost_decide.specs.declared.hold.Pair.{Pair}
use Rattle.kr_ghost_decide.specs.Holds.{Fact, hold_number, place, fact_at}
use Rattle.kr_ghost_decide.specs.Ways.{may_ask, granted, is_undone, undone, alters}
use Rattle.kr_ghost_decide.specs.Heirs.{left, left_of, inherited, same, inherited_by}
use Rattle.kr_ghost_decide.specs.Found.{IsReached, IsFound, AreHeirs, HasHeirs, HasLeft, HasAny, HasMoved, HasAll, HasAllOf, AreFollowed, has, is_altered, found_at}
use Rattle.kr_ghost_decide.specs.Holes.{is_hole, HasNoHole, HaveNoHole, NoHoles}
use Rattle.kr_ghost_decide.specs.Every.{AreAllPairs, AreListed, HasEvery, HasFactOf}
use Rattle.kr_ghost_decide.proofs.Numbers.{hold_back, number_below}
use Rattle.kr_ghost_decide.proofs.Within.{both_within}
use Rattle.kr_ghost_decide.proofs.Growing.{new_below, new_back}
use Rattle.kr_ghost_decide.proofs.Moved.{inherited_is}
use Rattle.kr_ghost_decide.proofs.News.{IsDone, reached}

-- Tests --

no_and_left : (a b : Bool) → a ≡ false → (a && b) ≡ false
no_and_left true b h = absurd (cc)
no_and_left false b h = refl

no_and_right : (a b : Bool) → b ≡ false → (a && b) ≡ false
no_and_right true b h = h
no_and_right false b h = refl

no_or : (a b : Bool) → a ≡ false → b ≡ false → (a || b) ≡ false
no_or true b h g = absurd (cc)
no_or false b h g = g

same_true : (a b : Bool) → a ≡ b → same a b ≡ true
same_true true b h = sym h
same_true false b h = ap not (sym h)

by_first : (r a b : Bool) → r ≡ true → a ≡ true → (if r then a else b) ≡ true
by_first true a b e h = h
by_first false a b e h = absurd (cc)

by_second : (r a b : Bool) → r ≡ false → b ≡ true → (if r then a else b) ≡ true
by_second true a b e h = absurd (cc)
by_second false a b e h = h

undone_true : (j : KeyUse) (b : Bool) (k : KeyUse) → Undone j b k → is_undone j b k ≡ true
undone_true j b k insert = refl
undone_true j b k update = refl
undone_true j b k delete = refl
undone_true j b k to_insert = refl
undone_true j b k to_update = refl
undone_true j b k to_delete = refl
undone_true j b k (to_several true) = refl
undone_true j b k (to_several false) = refl

undone_either : (j : KeyUse) (b : Bool) (k : KeyUse) → Undone j b k → (is_undone j b Free || is_undone j b Several) ≡ true
undone_either j b k insert = refl
undone_either j b k update = refl
undone_either j b k delete = refl
undone_either j b k to_insert = refl
undone_either j b k to_update = refl
undone_either j b k to_delete = refl
undone_either j b k (to_several true) = refl
undone_either j b k (to_several false) = refl

blocked : (m k b : Bool) → (m && (k && not b)) ≡ false → m ≡ true → k ≡ true → b ≡ true
blocked m k true h e f = refl
blocked m k false h e f = absurd (let g : (m && (k && true)) ≡ true = and_from m (k && true) e (and_from k true f refl) in cc)

module _ (p : GhostProtocol) (laws : IsLawfulGhost p) where
  pub may_true : (b : Bool) (x : Hold) (a : Ask) → MayAsk p b x a → may_ask p b x a ≡ true
  may_true b x FetchHit h = ap not h
  may_true b x FetchMiss h = ap not h
  may_true b x ScanName h = ap not h
  may_true b x ScanStop h = ap not h
  may_true b x Insert h = ap not h
  may_true b x Delete h = ap not h
  may_true b x Update h = and_from (not x.rolling) p.table.updates (ap not h.0) h.1
  may_true b x Revive h = and_from (not x.rolling) (not b) (ap not h.0) (ap not h.1)
  may_true b x InsertHit h = and_from (not x.rolling) b (ap not h.0) h.1
  may_true b x DeleteMiss h = ap not h
  may_true b x UpdateMiss h = and_from (not x.rolling) p.table.updates (ap not h.0) h.1
  may_true b x ReviveNext h = ap not h
  may_true b x InsertHitNext h = ap not h

  abbrev pair : Bool → Hold → Hold → Fact
  pair b x y = record { present = b; own = x; other = y }

  module _ (marks : List Bool) (heirs : List Heirs) (ghost_start : get_or marks 0 false ≡ true) (start_there : get_or marks 1 false ≡ true) (lefts : AreHeirs p marks 294912 heirs) (followed : AreFollowed p heirs 294912 marks) where
    abbrev IsMarked : Bool → Hold → Hold → Type 0
    IsMarked b x y = has marks (pair b x y) ≡ true

    found : (f : Fact) → IsReached p f → has marks f ≡ true → found_at marks (place f) ≡ Some f
    found f r h = ap (λ (b : Bool). if b then Some (fact_at (place f)) else None) h ∙ ap Some (new_back p laws f r)

    all_of : (f : Fact) → IsReached p f → has marks f ≡ true → HasAll p marks heirs f
    all_of f r h = subst (HasAllOf p marks heirs) (found f r h) (followed (place f) (new_below p laws f r))

    of : (b : Bool) (x y : Hold) → Beside p b x y → IsMarked b x y → HasAll p marks heirs (pair b x y)
    of b x y s h = all_of (pair b x y) (reached p laws (pair b x y) s) h

    ways_of : (b : Bool) (x y : Hold) → Beside p b x y → IsMarked b x y → HasMoved p marks (pair b x y)
    ways_of b x y s h = let a = of b x y s h in a.moved

    if_some : (b : Bool) (g : Fact) → b ≡ true → HasAny marks (if b then Some g else None) → has marks g ≡ true
    if_some true g e h = h
    if_some false g e h = absurd (cc)

    if_none : (b : Bool) (g : Fact) → b ≡ false → HasAny marks (if b then None else Some g) → has marks g ≡ true
    if_none true g e h = absurd (cc)
    if_none false g e h = h

    -- Each way has its number.
    grants : (f : Fact) (a : Ask) → HasMoved p marks f → HasAny marks (granted p f a)
    grants f FetchHit h = h 4 (omega arith)
    grants f FetchMiss h = h 5 (omega arith)
    grants f ScanName h = h 6 (omega arith)
    grants f ScanStop h = h 7 (omega arith)
    grants f Insert h = h 8 (omega arith)
    grants f Delete h = h 9 (omega arith)
    grants f Update h = h 10 (omega arith)
    grants f Revive h = h 11 (omega arith)
    grants f InsertHit h = h 19 (omega arith)
    grants f DeleteMiss h = h 20 (omega arith)
    grants f UpdateMiss h = h 21 (omega arith)
    grants f ReviveNext h = h 22 (omega arith)
    grants f InsertHitNext h = h 23 (omega arith)

    undoes : (f : Fact) (j : KeyUse) (b : Bool) (k : KeyUse) → Undone j b k → HasMoved p marks f → HasAny marks (undone f b k)
    undoes f j b k insert h = h 12 (omega arith)
    undoes f j b k update h = h 13 (omega arith)
    undoes f j b k delete h = h 13 (omega arith)
    undoes f j b k to_insert h = h 14 (omega arith)
    undoes f j b k to_update h = h 15 (omega arith)
    undoes f j b k to_delete h = h 16 (omega arith)
    undoes f j b k (to_several true) h = h 17 (omega arith)
    undoes f j b k (to_several false) h = h 18 (omega arith)

    by_start : (b : Bool) → IsMarked b free free
    by_start true = start_there
    by_start false = ghost_start

    by_quiet : (b : Bool) (x y : Hold) (c : Bool) (z : Hold) → Quiet b x c z → HasMoved p marks (pair b x y) → IsMarked c z y
    by_quiet b x y c z (commit d v r) h = if_none (x.rolling && is_changed x.key) _ (no_and_left x.rolling (is_changed x.key) r) (h 1 (omega arith))
    by_quiet b x y c z (leave d v u) h = if_none (x.rolling && is_changed x.key) _ (no_and_right x.rolling (is_changed x.key) u) (h 1 (omega arith))
    by_quiet b x y c z (roll d v r) h = if_none x.rolling _ r (h 2 (omega arith))
    by_quiet b x y c z (undo d v e k r u) h = if_some (x.rolling && is_undone x.key e k) _ (and_from x.rolling (is_undone x.key e k) r (undone_true x.key e k u)) (undoes (pair b x y) x.key e k u h)

    -- By a third.
    by_altered : (b : Bool) (x y z : Hold) → Beside p b x y → z.mode ≤ p.table.count → IsMarked b x y → IsMarked b z x → IsMarked b z y → alters p b z x y ≡ true → IsMarked (not b) x y
    by_altered b x y z s in_z h hu hw alter =
        let a = of b x y s h in
        a.altered (hold_number z) (number_below z p.table.count in_z)
        (subst (λ t. is_altered p marks (pair b x y) t ≡ true) (sym (hold_back z)) (and_from (has marks (pair b z x)) (has marks (pair b z y) && alters p b z x y) hu (and_from (has marks (pair b z y)) (alters p b z x y) hw alter)))

    by_third : (a : Ask) (b : Bool) (x y z : Hold) → MayAsk p b z a → is_blocked p z x a ≡ false → is_blocked p z y a ≡ false → IsMarked b x y → (alters p b z x y ≡ true → IsMarked (not b) x y) → IsMarked (present_after b a) x y
    by_third FetchHit b x y z may fx fy h alter = h
    by_third FetchMiss b x y z may fx fy h alter = h
    by_third ScanName b x y z may fx fy h alter = h
    by_third ScanStop b x y z may fx fy h alter = h
    by_third Insert b x y z may fx fy h alter = h
    by_third Update b x y z may fx fy h alter = h
    by_third InsertHit b x y z may fx fy h alter = h
    by_third DeleteMiss b x y z may fx fy h alter = h
    by_third UpdateMiss b x y z may fx fy h alter = h
    by_third ReviveNext b x y z may fx fy h alter = h
    by_third InsertHitNext b x y z may fx fy h alter = h
    by_third Delete false x y z may fx fy h alter = h
    by_third Delete true x y z may fx fy h alter = alter (by_second z.rolling _ _ may (and_from (not (is_blocked p z x Delete)) (not (is_blocked p z y Delete)) (ap not fx) (ap not fy)))
    by_third Revive true x y z may fx fy h alter = h
    by_third Revive false x y z may fx fy h alter = alter (by_second z.rolling _ _ may.0 (and_from (not (is_blocked p z x Revive)) (not (is_blocked p z y Revive)) (ap not fx) (ap not fy)))

    undone_by : (b c : Bool) (x y z : Hold) (k : KeyUse) → z.rolling ≡ true → Undone z.key c k → IsMarked b x y → (alters p b z x y ≡ true → IsMarked (not b) x y) → IsMarked c x y
    undone_by true true x y z k r u h alter = h
    undone_by true false x y z k r u h alter = alter (by_first z.rolling _ _ r (undone_either z.key false k u))
    undone_by false true x y z k r u h alter = alter (by_first z.rolling _ _ r (undone_either z.key true k u))
    undone_by false false x y z k r u h alter = h

    by_quiet_third : (b : Bool) (x y z : Hold) (c : Bool) (w : Hold) → Quiet b z c w → IsMarked b x y → (alters p b z x y ≡ true → IsMarked (not b) x y) → IsMarked c x y
    by_quiet_third b x y z c w (commit d v r) h alter = h
    by_quiet_third b x y z c w (leave d v u) h alter = h
    by_quiet_third b x y z c w (roll d v r) h alter = h
    by_quiet_third b x y z c w (undo d v e k r u) h alter = undone_by b e x y z k r u h alter

    -- By a purge.
    by_purge : (heir : ℕ → ℕ) (b : Bool) (x z y w : Hold) → p.purges ≡ Inherit heir → Beside p b x z → Beside p false y w → is_changed y.key ≡ false → is_changed w.key ≡ false → x.rolling ≡ y.rolling → z.rolling ≡ w.rolling
        → IsMarked b x z → IsMarked false y w → IsMarked b (inherits p heir x y) (inherits p heir z w)
    by_purge heir b x z y w is s t uy uw rx rz h g =
        let lf : Fact = pair false y w in
        let both : Heirs = record { own = left p y; other = left p w } in
        let r = reached p laws lf t in
        let is_left : left_of p lf ≡ Some both = ap (λ (q : Bool). if q then None else Some both) (no_or (is_changed y.key) (is_changed w.key) uy uw) in
        let listed : HasHeirs heirs both = subst (HasLeft p heirs) (found lf r g) (lefts.all (ap are_inherited is) (place lf) (new_below p laws lf r)) both is_left in
        let a = of b x z s h in
        let any : HasAny marks (inherited_by p (pair b x z) both) = subst (λ v. HasAny marks (inherited_by p (pair b x z) v)) listed.is (a.inherited listed.place listed.within) in
        let there : IsMarked b (inherited p x (left p y)) (inherited p z (left p w)) =
        if_some (same x.rolling y.rolling && same z.rolling w.rolling) _ (and_from (same x.rolling y.rolling) (same z.rolling w.rolling) (same_true _ _ rx) (same_true _ _ rz)) any
        in
        subst (λ v. IsMarked b v (inherits p heir z w)) (inherited_is p heir x y is) (subst (λ v. IsMarked b (inherited p x (left p y)) v) (inherited_is p heir z w is) there)

    pub all : (b : Bool) (x y : Hold) → Beside p b x y → IsMarked b x y
    all b x y (start c) = by_start c
    all b x y (turn c v w s) = ways_of c v w s (all c v w s) 0 (omega arith)
    all b x y (ask a c v w s may let_in) =
        if_some (may_ask p c v a && not (is_blocked p v w a)) _ (and_from (may_ask p c v a) (not (is_blocked p v w a)) (may_true c v a may) (ap not let_in)) (grants (pair c v w) a (ways_of c v w s (all c v w s)))
    all b x y (quiet c v w d u s silent) = by_quiet c v w d u silent (ways_of c v w s (all c v w s))
    all b x y (third_asks a c v w u s su sw may fu fw) =
        let in_u = both_within p laws c u v su in
        by_third a c v w u may fu fw (all c v w s) (by_altered c v w u s in_u.0 (all c v w s) (all c u v su) (all c u w sw))
    all b x y (third_undoes c v w u d r s su sw silent) =
        let in_u = both_within p laws c u v su in
        by_quiet_third c v w u d r silent (all c v w s) (by_altered c v w u s in_u.0 (all c v w s) (all c u v su) (all c u w sw))
    all b x y (new c v s unrolled) = if_some (not v.rolling) _ (ap not unrolled) (ways_of c v free s (all c v free s) 3 (omega arith))
    all b x y (purge heir c v u z w is s t a d e f) = by_purge heir c v u z w is s t a d e f (all c v u s) (all false z w t)

    -- No hole --

    tested : (f : Fact) (a : Ask) → HasNoHole p 13 f → is_hole p f a ≡ false
    tested f FetchHit h = h 0 (omega arith)
    tested f FetchMiss h = h 1 (omega arith)
    tested f ScanName h = h 2 (omega arith)
    tested f ScanStop h = h 3 (omega arith)
    tested f Insert h = h 4 (omega arith)
    tested f Delete h = h 5 (omega arith)
    tested f Update h = h 6 (omega arith)
    tested f Revive h = h 7 (omega arith)
    tested f InsertHit h = h 8 (omega arith)
    tested f DeleteMiss h = h 9 (omega arith)
    tested f UpdateMiss h = h 10 (omega arith)
    tested f ReviveNext h = h 11 (omega arith)
    tested f InsertHitNext h = h 12 (omega arith)

    pub none_open : NoHoles p 294912 marks → IsSafeGhost p
    none_open none a b x y s may keeps =
        let f : Fact = pair b x y in
        let r = reached p laws f s in
        let n : HasNoHole p 13 f = subst (HaveNoHole p) (found f r (all b x y s)) (none (place f) (new_below p laws f r)) in
        blocked (may_ask p b x a) (keeps_out b y a) (is_blocked p x y a) (tested f a n) (may_true b x a may) keeps

  pub safe_by_test : (f : Found) → IsFound p f → IsDone p (NoHoles p 294912) f.marks.items → IsSafeGhost p
  safe_by_test f found done = none_open f.marks.items done.heirs found.ghost_start found.start done.are_heirs done.followed done.holds

  -- Nothing is left out.
  pub every_marked : (Holds : List Bool → Type 0) (f : Found) → IsFound p f → IsDone p Holds f.marks.items → HasEvery p f.marks.items
  every_marked Holds f found done b x y s = all f.marks.items done.heirs found.ghost_start found.start done.are_heirs done.followed b x y s

  pub every_listed : (marks : List Bool) (list : List Pair) → HasEvery p marks → AreListed p marks 294912 list → AreAllPairs p list
  every_listed marks list has_every are = record {
    reached = are.reached;
    listed = λ b x y s.
        let f : Fact = pair b x y in
        let r = reached p laws f s in
        subst (HasFactOf list) (marked_at marks f r (has_every b x y s)) (are.listed (place f) (new_below p laws f r));
  }
    where
      marked_at : (marks : List Bool) (f : Fact) → IsReached p f → has marks f ≡ true → found_at marks (place f) ≡ Some f
      marked_at marks f r h = ap (λ (b : Bool). if b then Some (fact_at (place f)) else None) h ∙ ap Some (new_back p laws f r)
