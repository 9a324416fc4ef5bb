-- A script that leads to a state which a case is about leads to the case.
use Rattle.std.specs.Prelude.{◌≡◌, ◌⊎◌, ℕ, ◌==◌, ◌&&◌, ◌||◌, nat_le, Bool, true, false, not, IsTrue, List, All, Option, Some, None, refl}
use Rattle.std.specs.List.{Any}
use Rattle.std.proofs.Common.{◌∙◌, sym, ap, subst, inl, inr, arith}
use Rattle.std.proofs.lemmas.Bool.{and_parts, or_cases}
use Rattle.std.proofs.lemmas.Bool.Decides.{nat_tests}
use mathlib.Core.Logic.{∥∥₁_map}
use Rattle.kr_model.specs.declared.Cover.{Cover}
use Rattle.kr_model.specs.declared.FailedCase.{FailedCase}
use Rattle.kr_model.specs.declared.Name.TheVariants.{Key}
use Rattle.kr_model.specs.declared.Op.{Op}
use Rattle.kr_model.specs.declared.Op.TheVariants as op
use Rattle.kr_model.specs.declared.Origin.{Origin}
use Rattle.kr_model.specs.declared.Origin.TheVariants as origin
use Rattle.kr_model.specs.declared.Row.{Row}
use Rattle.kr_model.specs.declared.Row.TheVariants as row
use Rattle.kr_model.specs.declared.Rule.{Rule}
use Rattle.kr_model.specs.declared.Rule.TheVariants as rule
use Rattle.kr_model.specs.declared.Side.{Side}
use Rattle.kr_model.specs.declared.Side.TheVariants.{Current, Next}
use Rattle.kr_model.specs.declared.Span.{Span}
use Rattle.kr_model.specs.declared.Span.TheVariants.{Instant, Commit}
use Rattle.kr_model.specs.Protocol.{Protocol}
use Rattle.kr_model.specs.Locks.{Locks, own}
use Rattle.kr_model.specs.Map.{Map}
use Rattle.kr_model.specs.Plan.{Access}
use Rattle.kr_model.specs.Run.{Trace}
use Rattle.kr_explain_runs.specs.declared.reached.Reached.{Reached}
use Rattle.kr_explain_runs.specs.declared.state.State.{State}
use Rattle.kr_explain_runs.specs.About.{asks, can_put, can_step, can_take, has_cover, is_about, is_asked_for, is_at, is_below, is_for_commit, is_inserted, may_insert}
use Rattle.kr_explain_runs.specs.Comes.{CanComeTo, LeadsTo}
use Rattle.kr_explain_runs.specs.Requests.{IsRequestOf, access_in, name_at}
use Rattle.kr_explain_runs.specs.Reached.{AreAlikeAt, EndsIn, IsReached, index_of, points}
use Rattle.kr_explain_runs.proofs.Steps as steps

-- Tests --

same_mode : (m o : ℕ) → (m == o) ≡ true → m ≡ o
same_mode m o e = grind (arith, nat_tests)

false_of_not : (b : Bool) → not b ≡ true → b ≡ false
false_of_not true e = sym e
false_of_not false e = refl

is_or_isnt : (b : Bool) → (b ≡ true) ⊎ (b ≡ false)
is_or_isnt true = inl refl
is_or_isnt false = inr refl

-- what is requested until commit
asked_of : (mode : ℕ) (q : Option (ℕ × Span)) → is_for_commit mode q ≡ true → q ≡ Some (mode, Commit)
asked_of mode None e = absurd cc
asked_of mode (Some (m, Instant)) e = absurd cc
asked_of mode (Some (m, Commit)) e = ap (λ (x : ℕ). Some (x, Commit)) (same_mode m mode e)

-- Requests --

-- some operation of transaction 1 makes the request that a case of this rule and origin is about, on A
record Asks (p : Protocol) (r : Rule) (from : Origin) (m : Map) (h : Locks) : Type 0 where
  op : Op
  access : Access
  access_is : access_in m op ≡ Some access
  side : Side
  at_side : name_at side access ≡ Some (Key 20)
  request : IsRequestOf p r from h 1 (Key 20) side access

-- what is known at the end of a run that ends in a state
record Stands (s : State) (m : Map) (h : Locks) : Type 0 where
  alike : All (AreAlikeAt m (index_of s)) points
  on_a : own h 1 (Key 20) ≡ s.on_a
  on_y : own h 1 (Key 30) ≡ s.on_y

module _ (p : Protocol) (s : State) (m : Map) (h : Locks) (st : Stands s m h) where
  at_10 : AreAlikeAt m (index_of s) 10
  at_10 = st.alike 0 0 (omega arith)

  at_11 : AreAlikeAt m (index_of s) 11
  at_11 = st.alike 1 0 (omega arith)

  at_12 : AreAlikeAt m (index_of s) 12
  at_12 = st.alike 2 0 (omega arith)

  at_15 : AreAlikeAt m (index_of s) 15
  at_15 = st.alike 3 0 (omega arith)

  at_16 : AreAlikeAt m (index_of s) 16
  at_16 = st.alike 4 0 (omega arith)

  at_17 : AreAlikeAt m (index_of s) 17
  at_17 = st.alike 5 0 (omega arith)

  at_20 : AreAlikeAt m (index_of s) 20
  at_20 = st.alike 6 0 (omega arith)

  fetch_a : s.a ≡ true → access_in m (op.Fetch 20) ≡ Some steps.hit
  fetch_a a = steps.same_fetch m (index_of s) 20 at_20 ∙ steps.fetch_a s.k s.b s.p s.a a

  scan_a : s.a ≡ true → access_in m (op.Scan 20 20) ≡ Some steps.scanned
  scan_a a = steps.same_scan m (index_of s) 20 20 at_20 ∙ steps.scan_a s.k s.b s.p s.a a

  update_a : s.a ≡ true → access_in m (op.Update 20 0) ≡ Some steps.updated
  update_a a = steps.same_update m (index_of s) 20 0 at_20 ∙ steps.update_a s.k s.b s.p s.a a

  fetch_p : s.p ≡ false → s.a ≡ true → access_in m (op.Fetch 15) ≡ Some steps.miss
  fetch_p p a = steps.same_fetch m (index_of s) 15 at_15 ∙ steps.fetch_p s.k s.b s.p s.a p a

  fetch_c : s.p ≡ true → s.a ≡ true → access_in m (op.Fetch 17) ≡ Some steps.miss
  fetch_c p a = steps.same_fetch m (index_of s) 17 at_17 ∙ steps.fetch_c s.k s.b s.p s.a p a

  scan_p : s.p ≡ false → s.a ≡ true → access_in m (op.Scan 15 20) ≡ Some steps.scanned
  scan_p p a = steps.same_scan m (index_of s) 15 20 at_15 ∙ steps.scan_p s.k s.b s.p s.a p a

  stop_p : s.p ≡ false → s.a ≡ true → access_in m (op.Scan 15 15) ≡ Some steps.stopped
  stop_p p a = steps.same_scan m (index_of s) 15 15 at_15 ∙ steps.stop_p s.k s.b s.p s.a p a

  stop_c : s.p ≡ true → s.a ≡ true → access_in m (op.Scan 17 17) ≡ Some steps.stopped
  stop_c p a = steps.same_scan m (index_of s) 17 17 at_17 ∙ steps.stop_c s.k s.b s.p s.a p a

  take_p : s.p ≡ true → s.a ≡ true → access_in m (op.Delete 15) ≡ Some (steps.took 15)
  take_p p a = steps.same_delete m (index_of s) 15 at_15 at_16 ∙ steps.take_p s.k s.b s.p s.a p a

  put_b : s.b ≡ false → s.p ≡ false → s.a ≡ true → access_in m (op.Insert 12 0) ≡ Some steps.put
  put_b b p a = steps.same_insert m (index_of s) 12 0 at_12 ∙ steps.put_b s.k s.b s.p s.a b p a

  take_k : s.k ≡ true → s.b ≡ false → s.p ≡ false → s.a ≡ true → access_in m (op.Delete 10) ≡ Some (steps.took 10)
  take_k k b p a = steps.same_delete m (index_of s) 10 at_10 at_11 ∙ steps.take_k s.k s.b s.p s.a k b p a

  put_a : s.a ≡ false → access_in m (op.Insert 20 0) ≡ Some steps.came
  put_a a = steps.same_insert m (index_of s) 20 0 at_20 ∙ steps.put_a s.k s.b s.p s.a a

  -- a case at an own mode
  own_asks : (r : Rule) (o : ℕ) → s.a ≡ true → own h 1 (Key 20) ≡ o → can_step r s ≡ true → Asks p r (origin.Own o) m h
  own_asks rule.FetchHit o a on can = record { op = op.Fetch 20; access = steps.hit; access_is = fetch_a a; side = Current; at_side = refl; request = (on, refl) }
  own_asks rule.FetchMiss o a on can = record { op = op.Fetch 15; access = steps.miss; access_is = fetch_p (false_of_not s.p can) a; side = Next; at_side = refl; request = (on, refl) }
  own_asks rule.ScanKey o a on can = record { op = op.Scan 15 20; access = steps.scanned; access_is = scan_p (false_of_not s.p can) a; side = Current; at_side = refl; request = (on, refl) }
  own_asks rule.ScanStop o a on can = record { op = op.Scan 15 15; access = steps.stopped; access_is = stop_p (false_of_not s.p can) a; side = Next; at_side = refl; request = (on, refl) }
  own_asks rule.Delete o a on can = record { op = op.Delete 15; access = steps.took 15; access_is = take_p ((and_parts s.p (not (is_inserted s.did_p)) can).0) a; side = Next; at_side = refl; request = (on, refl) }
  own_asks rule.Update o a on can = record { op = op.Update 20 0; access = steps.updated; access_is = update_a a; side = Current; at_side = refl; request = (on, refl) }
  own_asks rule.Conversion o a on can = absurd cc
  own_asks rule.Insert o a on can = absurd cc
  own_asks rule.Split o a on can = absurd cc

  -- a case of an insert
  insert_asks : (r : Rule) (c : Cover) (n o : ℕ) → s.a ≡ false → own h 1 (Key 30) ≡ n → own h 1 (Key 20) ≡ o → may_insert r c s ≡ true → Asks p r (origin.Insert n o) m h
  insert_asks rule.Insert c n o a on_y on_a may = record { op = op.Insert 20 0; access = steps.came; access_is = put_a a; side = Current; at_side = refl; request = (on_a, on_y, refl) }
  insert_asks rule.Split c n o a on_y on_a may = record { op = op.Insert 20 0; access = steps.came; access_is = put_a a; side = Current; at_side = refl; request = (on_a, on_y, refl) }
  insert_asks rule.FetchHit c n o a on_y on_a may = absurd cc
  insert_asks rule.FetchMiss c n o a on_y on_a may = absurd cc
  insert_asks rule.ScanKey c n o a on_y on_a may = absurd cc
  insert_asks rule.ScanStop c n o a on_y on_a may = absurd cc
  insert_asks rule.Delete c n o a on_y on_a may = absurd cc
  insert_asks rule.Update c n o a on_y on_a may = absurd cc
  insert_asks rule.Conversion c n o a on_y on_a may = absurd cc

  -- a case of a conversion
  module _ (r : Rule) (held asked : ℕ) (a : s.a ≡ true) (on : own h 1 (Key 20) ≡ held) where
    of_row : (o : Op) (x : Access) (i : Side) → access_in m o ≡ Some x → name_at i x ≡ Some (Key 20) → IsRequestOf p r (origin.Conversion held asked) h 1 (Key 20) i x → Asks p r (origin.Conversion held asked) m h
    of_row o x i is at request = record { op = o; access = x; access_is = is; side = i; at_side = at; request = request }

    by_hit : asks p asked 0 row.FetchHit Current ≡ true → Asks p r (origin.Conversion held asked) m h
    by_hit e = of_row (op.Fetch 20) steps.hit Current (fetch_a a) refl (on, asked_of asked (p.ask row.FetchHit Current 0) e)

    by_scan : asks p asked 0 row.ScanKey Current ≡ true → Asks p r (origin.Conversion held asked) m h
    by_scan e = of_row (op.Scan 20 20) steps.scanned Current (scan_a a) refl (on, asked_of asked (p.ask row.ScanKey Current 0) e)

    by_update : asks p asked 0 row.Update Current ≡ true → Asks p r (origin.Conversion held asked) m h
    by_update e = of_row (op.Update 20 0) steps.updated Current (update_a a) refl (on, asked_of asked (p.ask row.Update Current 0) e)

    by_miss : asks p asked 0 row.FetchMiss Next ≡ true → Asks p r (origin.Conversion held asked) m h
    by_miss e = split (is_or_isnt s.p)
      where
        split : (s.p ≡ true) ⊎ (s.p ≡ false) → Asks p r (origin.Conversion held asked) m h
        split (inl is) = of_row (op.Fetch 17) steps.miss Next (fetch_c is a) refl (on, asked_of asked (p.ask row.FetchMiss Next 0) e)
        split (inr isnt) = of_row (op.Fetch 15) steps.miss Next (fetch_p isnt a) refl (on, asked_of asked (p.ask row.FetchMiss Next 0) e)

    by_stop : asks p asked 0 row.ScanStop Next ≡ true → Asks p r (origin.Conversion held asked) m h
    by_stop e = split (is_or_isnt s.p)
      where
        split : (s.p ≡ true) ⊎ (s.p ≡ false) → Asks p r (origin.Conversion held asked) m h
        split (inl is) = of_row (op.Scan 17 17) steps.stopped Next (stop_c is a) refl (on, asked_of asked (p.ask row.ScanStop Next 0) e)
        split (inr isnt) = of_row (op.Scan 15 15) steps.stopped Next (stop_p isnt a) refl (on, asked_of asked (p.ask row.ScanStop Next 0) e)

    -- by the own mode on A
    asked_by : (w : Row) → asks p asked s.on_a w Next ≡ true → p.ask w Next (own h 1 (Key 20)) ≡ Some (asked, Commit)
    asked_by w e = subst (λ o. p.ask w Next o ≡ Some (asked, Commit)) (sym st.on_a) (asked_of asked (p.ask w Next s.on_a) e)

    by_put : (asks p asked s.on_a row.Insert Next && can_put s) ≡ true → Asks p r (origin.Conversion held asked) m h
    by_put e =
        let both = and_parts (asks p asked s.on_a row.Insert Next) (can_put s) e in
        let gone = and_parts (not s.p) (not s.b) both.1 in
        of_row (op.Insert 12 0) steps.put Next (put_b (false_of_not s.b gone.1) (false_of_not s.p gone.0) a) refl (on, asked_by row.Insert both.0)

    by_take : (asks p asked s.on_a row.Delete Next && can_take s) ≡ true → Asks p r (origin.Conversion held asked) m h
    by_take e =
        let both = and_parts (asks p asked s.on_a row.Delete Next) (can_take s) e in
        split both.0 both.1 (is_or_isnt s.p)
      where
        split : asks p asked s.on_a row.Delete Next ≡ true → can_take s ≡ true → (s.p ≡ true) ⊎ (s.p ≡ false) → Asks p r (origin.Conversion held asked) m h
        split e can (inl is) = of_row (op.Delete 15) (steps.took 15) Next (take_p is a) refl (on, asked_by row.Delete e)
        split e can (inr isnt) =
            let rest = and_parts (not s.b) s.k (other s.p (not s.b && s.k) isnt can) in
            of_row (op.Delete 10) (steps.took 10) Next (take_k rest.1 (false_of_not s.b rest.0) isnt a) refl (on, asked_by row.Delete e)
          where
            other : (x y : Bool) → x ≡ false → (x || y) ≡ true → y ≡ true
            other true y is e = absurd cc
            other false y is e = e

    conversion_asks : is_asked_for p asked s ≡ true → Asks p r (origin.Conversion held asked) m h
    conversion_asks e = first (or_cases _ _ e)
      where
        sixth : ((asks p asked s.on_a row.Delete Next && can_take s) ≡ true) ⊎ (asks p asked 0 row.Update Current ≡ true) → Asks p r (origin.Conversion held asked) m h
        sixth (inl e) = by_take e
        sixth (inr e) = by_update e

        fifth : ((asks p asked s.on_a row.Insert Next && can_put s) ≡ true) ⊎ (((asks p asked s.on_a row.Delete Next && can_take s) || asks p asked 0 row.Update Current) ≡ true) → Asks p r (origin.Conversion held asked) m h
        fifth (inl e) = by_put e
        fifth (inr e) = sixth (or_cases _ _ e)

        fourth : (asks p asked 0 row.ScanStop Next ≡ true) ⊎ (((asks p asked s.on_a row.Insert Next && can_put s) || ((asks p asked s.on_a row.Delete Next && can_take s) || asks p asked 0 row.Update Current)) ≡ true) → Asks p r (origin.Conversion held asked) m h
        fourth (inl e) = by_stop e
        fourth (inr e) = fifth (or_cases _ _ e)

        third : (asks p asked 0 row.ScanKey Current ≡ true) ⊎ ((asks p asked 0 row.ScanStop Next || ((asks p asked s.on_a row.Insert Next && can_put s) || ((asks p asked s.on_a row.Delete Next && can_take s) || asks p asked 0 row.Update Current))) ≡ true) → Asks p r (origin.Conversion held asked) m h
        third (inl e) = by_scan e
        third (inr e) = fourth (or_cases _ _ e)

        second : (asks p asked 0 row.FetchMiss Next ≡ true) ⊎ ((asks p asked 0 row.ScanKey Current || (asks p asked 0 row.ScanStop Next || ((asks p asked s.on_a row.Insert Next && can_put s) || ((asks p asked s.on_a row.Delete Next && can_take s) || asks p asked 0 row.Update Current)))) ≡ true) → Asks p r (origin.Conversion held asked) m h
        second (inl e) = by_miss e
        second (inr e) = third (or_cases _ _ e)

        first : (asks p asked 0 row.FetchHit Current ≡ true) ⊎ ((asks p asked 0 row.FetchMiss Next || (asks p asked 0 row.ScanKey Current || (asks p asked 0 row.ScanStop Next || ((asks p asked s.on_a row.Insert Next && can_put s) || ((asks p asked s.on_a row.Delete Next && can_take s) || asks p asked 0 row.Update Current))))) ≡ true) → Asks p r (origin.Conversion held asked) m h
        first (inl e) = by_hit e
        first (inr e) = second (or_cases _ _ e)

  -- where a case is about the state, some operation makes its request
  some_asks : (r : Rule) (c : Cover) (from : Origin) → is_at p r c from s ≡ true → Asks p r from m h
  some_asks r c (origin.Own o) about =
      let all = and_parts (s.a && (s.on_a == o)) (can_step r s) about in
      let both = and_parts s.a (s.on_a == o) all.0 in
      own_asks r o both.0 (st.on_a ∙ same_mode s.on_a o both.1) all.1
  some_asks r c (origin.Conversion held asked) about =
      let five = and_parts (s.a && (s.on_a == held) && nat_le held p.count && has_cover c s) (is_asked_for p asked s) about in
      let four = and_parts (s.a && (s.on_a == held) && nat_le held p.count) (has_cover c s) five.0 in
      let three = and_parts (s.a && (s.on_a == held)) (nat_le held p.count) four.0 in
      let two = and_parts s.a (s.on_a == held) three.0 in
      conversion_asks r held asked two.0 (st.on_a ∙ same_mode s.on_a held two.1) five.1
  some_asks r c (origin.Insert n o) about =
      let all = and_parts (is_below n o s) (may_insert r c s) about in
      let three = and_parts (not s.a && (s.on_y == n)) (s.on_a == o) all.0 in
      let two = and_parts (not s.a) (s.on_y == n) three.0 in
      insert_asks r c n o (false_of_not s.a two.0) (st.on_y ∙ same_mode s.on_y n two.1) (st.on_a ∙ same_mode s.on_a o three.1) all.1

-- a run that ends in a state leads to a case that is about it
leads_to : (p : Protocol) (f : FailedCase) (s : State) (r : Trace) → EndsIn s r → is_about p f s ≡ true → LeadsTo p f r
leads_to p f s r ends about =
    let asks = some_asks p s r.state.map r.state.locks (record { alike = ends.alike; on_a = ends.on_a; on_y = ends.on_y }) f.case f.cover f.from about in
    record { granted = ends.granted; op = asks.op; access = asks.access; access_is = asks.access_is; name = Key 20; side = asks.side; at_side = asks.at_side; request = asks.request }

-- a transaction can come to a case that is about a state which a script leads to
come_by : (p : Protocol) (f : FailedCase) (s : State) → IsReached p s → is_about p f s ≡ true → CanComeTo p f
come_by p f s reached about = ∥∥₁_map reached (λ (opening, (events, leads)). (opening, (events, (leads.is_map, leads_to p f s _ leads.ends about))))

-- the same of a list of states
pub come_to : (p : Protocol) (f : FailedCase) (rs : List Reached) → All (λ (r : Reached). IsReached p r.state) rs → Any (λ r. IsTrue (is_about p f r.state)) rs → CanComeTo p f
come_to p f rs all (k, r, low, at, about) = come_by p f r.state (subst (λ (x : Reached). IsReached p x.state) at (all k r low)) about
