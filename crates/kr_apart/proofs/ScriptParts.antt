-- Replies that part by what is looked at part at the last.
use Rattle.std.proofs.Common.{◌≡◌, inl, inr, refl, sym, ap, subst, Bool, true, false, ◌&&◌, ◌||◌, ◌↔◌, suc, IsTrue, List, [], ◌∷◌, if◌then◌else◌, length, ◌≢◌}
use Rattle.kr_model.specs.declared.Event.{Event}
use Rattle.kr_model.specs.declared.Reply.{Reply}
use Rattle.kr_model.specs.declared.Reply.TheVariants as reply
use Rattle.kr_model.specs.Protocol.{Protocol}
use Rattle.kr_model.specs.Locks.{Locks}
use Rattle.kr_model.specs.Map.{Map, IsMap}
use Rattle.kr_model.specs.Run.{is_granted}
use Rattle.kr_ghost.specs.State.{GhostState, opened}
use Rattle.kr_ghost.specs.Step.{Outcome}
use Rattle.kr_kinds.specs.Kinds.{IndexProtocol, leaves_ghosts}
use Rattle.kr_kinds.specs.Steps.{step}
use Rattle.kr_stepping.specs.Played.{replies_from}
use Rattle.kr_stepping.proofs.Replied.{of_steps}
use Rattle.kr_apart.specs.Apart.{AreRepliesOfRun, is_blocked, Differ, PartAtTheLast, TellsApart}
use Rattle.kr_apart.specs.Flags.{differ, part}
use Rattle.kr_apart.proofs.SameKind.{with_locks, IsSame, step_same}

either : (b c x y : Bool) → x ≡ false → y ≡ false → (if b then x else if c then y else false) ≡ false
either true c x y ex ey = ex
either false true x y ex ey = ey
either false false x y ex ey = refl

-- Lists of different lengths don't part.
pub uneven : (over : Bool) (rs ss : List Reply) → length rs ≢ length ss → part over rs ss ≡ false
uneven over [] [] ne = absurd (ne refl)
uneven over [] (s ∷ ss) ne = refl
uneven over (r ∷ rs) [] ne = refl
uneven true (r ∷ rs) (s ∷ ss) ne = refl
uneven false (r ∷ rs) (s ∷ ss) ne = either (is_granted r && is_granted s) (differ r s) (part false rs ss) (part true rs ss) (uneven false rs ss (λ e. ne (ap suc e))) (uneven true rs ss (λ e. ne (ap suc e)))

-- Behind two that differ nothing may come.
alone : (rs ss : List Reply) → part true rs ss ≡ true → (rs ≡ []) × (ss ≡ [])
alone [] [] h = (refl, refl)
alone [] (s ∷ ss) h = absurd (cc)
alone (r ∷ rs) [] h = absurd (cc)
alone (r ∷ rs) (s ∷ ss) h = absurd (cc)

-- Two that differ by what is looked at differ.
differs : (r s : Reply) → differ r s ≡ true → Differ r s
differs r s h = by (is_granted r) (is_blocked s) (is_blocked r) (is_granted s) refl refl refl refl h
  where
    by : (a b c d : Bool) → is_granted r ≡ a → is_blocked s ≡ b → is_blocked r ≡ c → is_granted s ≡ d → ((a && b) || (c && d)) ≡ true → Differ r s
    by true true c d ea eb ec ed g = inl (ea, eb)
    by true false true true ea eb ec ed g = inr (ec, ed)
    by true false true false ea eb ec ed g = absurd (cc)
    by true false false d ea eb ec ed g = absurd (cc)
    by false b true true ea eb ec ed g = inr (ec, ed)
    by false b true false ea eb ec ed g = absurd (cc)
    by false b false d ea eb ec ed g = absurd (cc)

-- One more reply in front, which is the same and granted.
in_front : (r s : Reply) (rs ss : List Reply) → IsTrue (is_granted r) → r ≡ s → PartAtTheLast rs ss → PartAtTheLast (r ∷ rs) (s ∷ ss)
in_front r s [] [] g e h = absurd h
in_front r s [] (x ∷ xs) g e h = absurd h
in_front r s (y ∷ []) [] g e h = absurd h
in_front r s (y ∷ x ∷ ys) [] g e h = absurd h
in_front r s (y ∷ ys) (x ∷ xs) g e h = ((g, e), h)

both : (a b : Bool) → (a && b) ≡ true → (a ≡ true) × (b ≡ true)
both true true h = (refl, refl)
both true false h = absurd (cc)
both false b h = absurd (cc)

-- The first step and what comes after it.
module _ (p q : IndexProtocol) (es : List Event) (o u : Outcome) (same : IsTrue (is_granted o.0) → IsTrue (is_granted u.0) → IsSame o u) (further : (k : Locks) → part false (replies_from p o.1 es) (replies_from q (with_locks o.1 k) es) ≡ true → PartAtTheLast (replies_from p o.1 es) (replies_from q (with_locks o.1 k) es)) where
  abbrev left : List Reply
  left = replies_from p o.1 es

  abbrev left_there : List Reply
  left_there = replies_from q u.1 es

  go_on : IsSame o u → IsTrue (is_granted o.0) → part false left left_there ≡ true → PartAtTheLast (o.0 ∷ left) (u.0 ∷ left_there)
  go_on is g rest =
      let state : u.1 ≡ with_locks o.1 is.locks = ap (λ (x : Outcome). x.1) is.same in
      let reply : o.0 ≡ u.0 = sym (ap (λ (x : Outcome). x.0) is.same) in
      let there : part false left (replies_from q (with_locks o.1 is.locks) es) ≡ true = subst (λ (z : GhostState). part false left (replies_from q z es) ≡ true) state rest in
      in_front o.0 u.0 left left_there g reply (subst (λ (z : GhostState). PartAtTheLast left (replies_from q z es)) (sym state) (further is.locks there))

  stop : differ o.0 u.0 ≡ true → (left ≡ []) × (left_there ≡ []) → PartAtTheLast (o.0 ∷ left) (u.0 ∷ left_there)
  stop d none = subst (λ (l : List Reply). PartAtTheLast (o.0 ∷ l) (u.0 ∷ left_there)) (sym none.0) (subst (λ (l : List Reply). PartAtTheLast (o.0 ∷ []) (u.0 ∷ l)) (sym none.1) (differs o.0 u.0 d))

  first : part false (o.0 ∷ left) (u.0 ∷ left_there) ≡ true → PartAtTheLast (o.0 ∷ left) (u.0 ∷ left_there)
  first h = by (is_granted o.0 && is_granted u.0) (differ o.0 u.0) refl refl h
    where
      by : (b c : Bool) → (is_granted o.0 && is_granted u.0) ≡ b → differ o.0 u.0 ≡ c → (if b then part false left left_there else if c then part true left left_there else false) ≡ true → PartAtTheLast (o.0 ∷ left) (u.0 ∷ left_there)
      by true c eb ec g = let two = both (is_granted o.0) (is_granted u.0) eb in go_on (same two.0 two.1) two.0 g
      by false true eb ec g = stop ec (alone left left_there g)
      by false false eb ec g = absurd (cc)

-- By induction on the events.
parts : (p q : IndexProtocol) → leaves_ghosts p ≡ leaves_ghosts q → (es : List Event) (s : GhostState) (k : Locks) → part false (replies_from p s es) (replies_from q (with_locks s k) es) ≡ true → PartAtTheLast (replies_from p s es) (replies_from q (with_locks s k) es)
parts p q kind [] s k h = absurd (cc)
parts p q kind (e ∷ es) s k h = let o = step p s e.txn e.op in first p q es o (step q (with_locks s k) e.txn e.op) (step_same p q s k e.txn e.op kind) (parts p q kind es o.1) h

-- A blocked reply isn't granted.
pub not_granted : (r : Reply) → is_blocked r ≡ true → is_granted r ≡ false
not_granted (reply.Blocked us) h = refl
not_granted (reply.Refused x) h = refl
not_granted (reply.Found v) h = absurd (cc)
not_granted reply.None h = absurd (cc)
not_granted (reply.Going c) h = absurd (cc)
not_granted (reply.Rows rows) h = absurd (cc)
not_granted reply.Done h = absurd (cc)
not_granted reply.Duplicate h = absurd (cc)
not_granted (reply.Deleted v) h = absurd (cc)
not_granted reply.Absent h = absurd (cc)
not_granted (reply.Updated v) h = absurd (cc)
not_granted reply.Committed h = absurd (cc)
not_granted reply.Aborted h = absurd (cc)
not_granted (reply.Undone n) h = absurd (cc)

-- Two that differ do so by what is looked at.
flags : (r s : Reply) → Differ r s → part false (r ∷ []) (s ∷ []) ≡ true
flags r s (inl (g, b)) = let n = not_granted s b in rw (g, b, n)
flags r s (inr (b, g)) = let n = not_granted r b in rw (b, n, g)

parted : (rs ss : List Reply) → PartAtTheLast rs ss → part false rs ss ≡ true
parted [] [] h = absurd h
parted [] (s ∷ ss) h = absurd h
parted (r ∷ []) [] h = absurd h
parted (r ∷ x ∷ rs) [] h = absurd h
parted (r ∷ []) (s ∷ []) h = flags r s h
parted (r ∷ []) (s ∷ y ∷ ss) h = absurd h.1
parted (r ∷ x ∷ []) (s ∷ []) h = absurd h.1
parted (r ∷ x ∷ y ∷ rs) (s ∷ []) h = absurd h.1
parted (r ∷ x ∷ rs) (s ∷ y ∷ ss) h =
    let g : is_granted r ≡ true = h.0.0 in
    let g2 : is_granted s ≡ true = subst (λ (z : Reply). is_granted z ≡ true) h.0.1 g in
    let rest = parted (x ∷ rs) (y ∷ ss) h.1 in
    rw (g, g2, rest)

-- What is looked at tells whether the script tells the tables apart, where they are of one kind.
pub told : (p q : IndexProtocol) (opening : Map) (events : List Event) (rs ss : List Reply) → leaves_ghosts p ≡ leaves_ghosts q → IsMap opening → rs ≡ replies_from p (opened opening) events → ss ≡ replies_from q (opened opening) events → IsTrue (part false rs ss) ↔ TellsApart p q opening events
told p q opening events rs ss kind is_map e f = rw (e, f) g
  where
    g : IsTrue (part false (replies_from p (opened opening) events) (replies_from q (opened opening) events)) ↔ TellsApart p q opening events
    g = (
      λ h. record { kind = kind; is_map = is_map; replies = parts p q kind events (opened opening) [] h },
      λ t. parted (replies_from p (opened opening) events) (replies_from q (opened opening) events) t.replies,
    )

-- Where a deleted key goes at once, the replies are those of the run.
pub of_run : (p : Protocol) → AreRepliesOfRun p
of_run p opening events = of_steps p (opened opening) events
