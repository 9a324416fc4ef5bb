-- What holds of the parts once a transaction has been put in, or has ended.
use Rattle.std.specs.Prelude.{◌≡◌, ℕ, ◌+◌, ◌≤◌, not, cond, IsTrue, List, [], ◌∷◌, Option, Some, None, Vec, refl, unwrap_or}
use Rattle.std.specs.Vec.{vec_len}
use Rattle.std.specs.declared.alloc.Global.{Global}
use Rattle.std.specs.Ordering.{nat_cmp}
use Rattle.std.specs.FinMap.{find, put, is_sorted}
use Rattle.std.proofs.Common.{sym, ◌∙◌, ap, subst, ⊎_elim, ◌≢◌, arith}
use Rattle.std.proofs.lemmas.Bool.{cases_eq}
use Rattle.kr_model.specs.declared.Name.{Name}
use Rattle.kr_model.specs.declared.Span.{Span}
use Rattle.kr_model.specs.declared.Span.TheVariants.{Instant, Commit}
use Rattle.kr_model.specs.Protocol.{Protocol}
use Rattle.kr_model.specs.Locks.{Locks, Request, holder_cmp, own, kept, kept_one, release}
use Rattle.kr_model.specs.State.{Active}
use Rattle.kr_model.proofs.Actives.{tied, find_put_same, find_put_other, find_filter_other}
use Rattle.kr_model.proofs.LockLaws.{own-keep_other, own-release_other, find-release}
use Rattle.kr_txn.specs.declared.Standing.{Standing}
use Rattle.kr_txn.specs.EndedNumbers.{EndedNumbers}
use Rattle.kr_txn.specs.Numbered.{without_txn}
use Rattle.kr_txn.specs.Standings.{entries}
use Rattle.kr_txn.proofs.Lists.{in_order-without, in_order-put}
use Rattle.kr_touch.specs.Pins.{all_changes_of}
use Rattle.kr_ghost_index.specs.Index.{GhostIndex, changes}
use Rattle.kr_ghost_machine.specs.Machine.{AreHeld, IsAtRest}

-- Who holds a lock is active --

-- Nobody but t gets a lock by what t requests.
one_other : (p : Protocol) (h : Locks) (t : ℕ) (n : Name) (q : ℕ) (span : Span) (u : ℕ) (x : Name) → u ≢ t → own (kept_one p h t n q span) u x ≡ own h u x
one_other p h t n q Instant u x ne = refl
one_other p h t n q Commit u x ne = own-keep_other h t n (p.convert (own h t n) q) u x (λ _ is. ne is)

kept_other : (p : Protocol) (h : Locks) (t : ℕ) (rs : List Request) (u : ℕ) (x : Name) → u ≢ t → own (kept p h t rs) u x ≡ own h u x
kept_other p h t [] u x ne = refl
kept_other p h t (r ∷ rs) u x ne = kept_other p (kept_one p h t r.0 r.1 r.2) t rs u x ne ∙ one_other p h t r.0 r.1 r.2 u x ne

not_put : (es : List (ℕ × Active)) (t u : ℕ) (a : Active) → find nat_cmp u (put nat_cmp t a es) ≡ None → u ≢ t
not_put es t u a none is = some_none (sym (find_put_same es t a) ∙ ap (λ z. find nat_cmp z (put nat_cmp t a es)) (sym is) ∙ none)
  where
    some_none : ◌≡◌ {A = Option Active} (Some a) None → ⊥
    some_none e = cc

pub held-same : (h : Locks) (es : List (ℕ × Active)) (t : ℕ) (a : Active) → AreHeld h es → AreHeld h (put nat_cmp t a es)
held-same h es t a held u none x = held u (sym (find_put_other es t u a (not_put es t u a none)) ∙ none) x

pub held-put : (p : Protocol) (h : Locks) (es : List (ℕ × Active)) (t : ℕ) (a : Active) (rs : List Request) → AreHeld h es → AreHeld (kept p h t rs) (put nat_cmp t a es)
held-put p h es t a rs held u none x =
    let ne = not_put es t u a none in
    kept_other p h t rs u x ne ∙ held u (sym (find_put_other es t u a ne) ∙ none) x

released : (h : Locks) (t : ℕ) (n : Name) → own (release h t) t n ≡ 0
released h t n = ap (λ g. unwrap_or g 0) (find-release h t (n, t) ∙ ap (λ b. cond (not b) (find holder_cmp (n, t) h) None) (tied t))

pub held-without : (h : Locks) (es : List (ℕ × Active)) (t : ℕ) → AreHeld h es → AreHeld (release h t) (without_txn t es)
held-without h es t held u none x = ⊎_elim
    (λ is. ap (λ z. own (release h t) z x) is ∙ released h t x)
    (λ ne. own-release_other h t u x ne ∙ held u (sym (find_filter_other es t u ne) ∙ none) x)
    (cases_eq u t)

-- The parts --

-- A transaction has ended: its locks are released, and its changes are counted no more.
pub ended_rest : (x y : GhostIndex) (h l : Locks) (before after : EndedNumbers) (active more : Vec Standing Global) (t : ℕ) (n : ℕ → ℕ) → IsAtRest x h before active
    → entries more.items ≡ without_txn t (entries active.items) → l ≡ release h t → vec_len more ≤ after.room
    → ((q : ℕ) → all_changes_of (entries active.items) q ≡ all_changes_of (entries more.items) q + n q) → ((q : ℕ) → changes y q + n q ≡ changes x q) → IsAtRest y l after more
ended_rest x y h l before after active more t n rest items locks room noted counts = record {
  in_order = subst (λ es. IsTrue (is_sorted nat_cmp es)) (sym items) (in_order-without t (entries active.items) rest.in_order);
  room = room;
  held = subst (AreHeld l) (sym items) (subst (λ k. AreHeld k (without_txn t (entries active.items))) (sym locks) (held-without h (entries active.items) t rest.held));
  counted = λ q. let a = noted q in let b = counts q in let c = rest.counted q in omega (arith, a, b, c);
}

-- A transaction has been put in.
pub put_rest : (x y : GhostIndex) (h l : Locks) (before after : EndedNumbers) (active more : Vec Standing Global) (t : ℕ) (a : Active) → IsAtRest x h before active
    → entries more.items ≡ put nat_cmp t a (entries active.items) → AreHeld l (put nat_cmp t a (entries active.items)) → vec_len more ≤ after.room
    → ((q : ℕ) → changes y q ≡ all_changes_of (entries more.items) q) → IsAtRest y l after more
put_rest x y h l before after active more t a rest items held room counted = record {
  in_order = subst (λ es. IsTrue (is_sorted nat_cmp es)) (sym items) (in_order-put t (entries active.items) rest.in_order a);
  room = room;
  held = subst (AreHeld l) (sym items) held;
  counted = counted;
}

-- The parts as contracts see them are the same.
pub same_rest : (x : GhostIndex) (h : Locks) (before after : EndedNumbers) (active more : Vec Standing Global) → IsAtRest x h before active → entries more.items ≡ entries active.items → vec_len more ≤ after.room → IsAtRest x h after more
same_rest x h before after active more rest items room = record {
  in_order = subst (λ es. IsTrue (is_sorted nat_cmp es)) (sym items) rest.in_order;
  room = room;
  held = subst (AreHeld h) (sym items) rest.held;
  counted = λ q. rest.counted q ∙ ap (λ es. all_changes_of es q) (sym items);
}
