-- Laws of states that stand.
use Rattle.std.specs.Prelude.{◌≡◌, ℕ, ◌<◌, List, [], ◌∷◌, ◌++◌, All, Option, Some, None, Result, Ok, Err, IfOk, IfSome, OnOk, true, false, is_some, length, remove, slice_index_or, map, refl}
use Rattle.std.specs.Option.{option_to_list}
use Rattle.std.proofs.Common.{ap, sym, subst, ◌∙◌, append_assoc, append-nil, arith}
use Rattle.std.proofs.lemmas.List.Elements.{All-cons, All-head, All-tail, All-nil, All-push}
use Rattle.kr_model.specs.Map.{Map}
use Rattle.kr_ghost.specs.Protocol.{GhostProtocol}
use Rattle.kr_trace_lines.specs.declared.deviation.Deviation.{Deviation}
use Rattle.kr_trace_lines.specs.declared.deviation.DeviationKind.{DeviationKind}
use Rattle.kr_trace_follow.specs.Lines.{Line}
use Rattle.kr_trace_follow.specs.Since.{Since}
use Rattle.kr_model.specs.declared.Op.{Op}
use Rattle.kr_model.specs.Locks.{Locks}
use Rattle.kr_trace_follow.specs.Steps.{queue_for}
use Rattle.kr_ghost_follow.specs.Points.{Point, Tried, after_purge, at_start, conflicts_of, first_op, kind_at, last_of, last_tried, moment_at, point_after}
use Rattle.kr_ghost_follow.specs.Reached.{IsReached, start, purge, line}
use Rattle.kr_ghost_follow.specs.Following.{IsDeviation, Stand}
use Rattle.kr_ghost_follow.specs.Stands.{AreFollowed, IsStanding, Sits, Took, points_of}
use Rattle.kr_trace_follow.specs.Deviates.{kind_of}

-- How a line differs, by what came of its last step.
pub kind_is : (p : GhostProtocol) (at : Point) (l : Line) (since : Since) (y : Tried) → y ≡ last_tried p at l → kind_of (conflicts_of p since l.event.txn y.left.state y.op) y.ahead y.reply l.observed ≡ kind_at p since at l
kind_is p at l since y is = ap (λ (z : Tried). kind_of (conflicts_of p since l.event.txn z.left.state z.op) z.ahead z.reply l.observed) is

-- After a purge it still stands.
pub purge_stands : {P : Type 0} (ghosts : P → GhostProtocol) (q : P) (opening : Map) (lines : List Line) (k : ℕ) (x y : Sits P)
    → y.protocol ≡ x.protocol → y.point ≡ after_purge (ghosts x.protocol) k x.point → IsStanding ghosts q opening lines x → IsStanding ghosts q opening lines y
purge_stands ghosts q opening lines k x y same at h = record {
  same = same ∙ h.same;
  reached = subst (λ z. IsReached (ghosts q) opening lines z) (sym (at ∙ ap (λ z. after_purge (ghosts z) k x.point) h.same)) (_, purge k lines h.reached.0 x.point h.reached.1);
}

-- A line that is what the table answers leads on, and any other is a deviation.
pub line_taken : {P : Type 0} (ghosts : P → GhostProtocol) (q : P) (opening : Map) (lines : List Line) (l : Line) (x y : Sits P) (kind : Option DeviationKind)
    → y.protocol ≡ x.protocol → y.point ≡ point_after (ghosts x.protocol) x.point l → (since : Since) → kind ≡ kind_at (ghosts x.protocol) since x.point l
    → IsStanding ghosts q opening lines x → Took ghosts q opening lines l y kind
line_taken ghosts q opening lines l x y None same at since is h = record {
  same = same ∙ h.same;
  reached = subst (λ z. IsReached (ghosts q) opening (lines ++ l ∷ []) z) (sym (at ∙ ap (λ z. point_after (ghosts z) x.point l) h.same))
      (_, line l lines h.reached.0 x.point h.reached.1 (since, sym (is ∙ ap (λ z. kind_at (ghosts z) since x.point l) h.same)));
}
line_taken ghosts q opening lines l x y (Some k) same at since is h = record {
  before = lines;
  line = l;
  rest = [];
  place = refl;
  at = x.point;
  reached = h.reached;
  since = since;
  differs = sym (is ∙ ap (λ z. kind_at (ghosts z) since x.point l) h.same);
  numbered = refl;
  counts = ap (λ (z : Point). z.queued) (at ∙ ap (λ z. point_after (ghosts z) x.point l) h.same);
}

-- Before any line.
pub stands_at_start : {P : Type 0} (ghosts : P → GhostProtocol) (q : P) (opening : Map) (x : Sits P) → x ≡ record { protocol = q; point = at_start opening } → IsStanding ghosts q opening [] x
stands_at_start ghosts q opening x is = subst (λ z. IsStanding ghosts q opening [] z) (sym is) (record { same = refl; reached = ([], start) })

-- A deviation stays what it is behind more lines.
pub deviates_on : (p : GhostProtocol) (opening : Map) (lines more : List Line) (queued : ℕ) (d : Deviation) → IsDeviation p opening lines queued d → IsDeviation p opening (lines ++ more) queued d
deviates_on p opening lines more queued d h = record {
  before = h.before;
  line = h.line;
  rest = h.rest ++ more;
  place = ap (λ z. z ++ more) h.place ∙ append_assoc h.before (h.line ∷ h.rest) more;
  at = h.at;
  reached = h.reached;
  since = h.since;
  differs = h.differs;
  numbered = h.numbered;
  counts = h.counts;
}

-- States and their points.
points_reach : {P : Type 0} (ghosts : P → GhostProtocol) (q : P) (opening : Map) (lines : List Line) (xs : List (Sits P)) → All (IsStanding ghosts q opening lines) xs → All (IsReached (ghosts q) opening lines) (map (λ x. x.point) xs)
points_reach ghosts q opening lines [] h = All-nil (IsReached (ghosts q) opening lines)
points_reach ghosts q opening lines (x ∷ xs) h =
    All-cons (IsReached (ghosts q) opening lines) x.point (map (λ y. y.point) xs) (All-head (IsStanding ghosts q opening lines) x xs h).reached
    (points_reach ghosts q opening lines xs (All-tail (IsStanding ghosts q opening lines) x xs h))

-- So points stand.
pub followed_points : {P : Type 0} (ghosts : P → GhostProtocol) (q : P) (opening : Map) (lines : List Line) (first : Sits P) (others : List (Sits P)) (queued : ℕ) (found : Option Deviation)
    → AreFollowed ghosts q opening lines first others queued found → Stand (ghosts q) opening lines (points_of found first others) queued found
followed_points ghosts q opening lines first others queued None h =
    (h.1.1, All-cons (IsReached (ghosts q) opening lines) first.point (map (λ y. y.point) others) h.0.reached (points_reach ghosts q opening lines others h.1.0))
followed_points ghosts q opening lines first others queued (Some d) h = (refl, h)

-- By results --

pub purged_ok : {P E : Type 0} (ghosts : P → GhostProtocol) (q : P) (opening : Map) (lines : List Line) (k : ℕ) (x : Sits P) (r : Result (Option (Sits P)) E)
    → IfOk r (λ o. IfSome o (λ y. y.protocol ≡ x.protocol)) → IfOk r (λ o. IfSome o (λ y. y.point ≡ after_purge (ghosts x.protocol) k x.point)) → IsStanding ghosts q opening lines x
    → IfOk r (λ o. IfSome o (IsStanding ghosts q opening lines))
purged_ok ghosts q opening lines k x (Ok (Some y)) same at h = purge_stands ghosts q opening lines k x y same at h
purged_ok ghosts q opening lines k x (Ok None) same at h = tt
purged_ok ghosts q opening lines k x (Err e) same at h = tt

pub took_ok : {P E : Type 0} (ghosts : P → GhostProtocol) (q : P) (opening : Map) (lines : List Line) (l : Line) (x y : Sits P) (r : Result (Option DeviationKind) E)
    → y.protocol ≡ x.protocol → OnOk r (y.point ≡ point_after (ghosts x.protocol) x.point l) → IfOk r (λ kind. (since : Since) × (kind ≡ kind_at (ghosts x.protocol) since x.point l)) → IsStanding ghosts q opening lines x
    → IfOk r (Took ghosts q opening lines l y)
took_ok ghosts q opening lines l x y (Ok kind) same at is h = line_taken ghosts q opening lines l x y kind same at is.0 is.1 h
took_ok ghosts q opening lines l x y (Err e) same at is h = tt

-- A state that differs nowhere stands.
pub took_none : {P : Type 0} (ghosts : P → GhostProtocol) (q : P) (opening : Map) (lines : List Line) (l : Line) (x : Sits P) (kind : Option DeviationKind) → is_some kind ≡ false → Took ghosts q opening lines l x kind
    → IsStanding ghosts q opening (lines ++ l ∷ []) x
took_none ghosts q opening lines l x None is h = h
took_none ghosts q opening lines l x (Some k) is h = absurd (cc)

-- Lists of states --

-- What is left of a list without its first, and the first.
pub removed_rest : {X : Type 0} (P : X → Type 0) (xs : List X) → 0 < length xs → All P xs → All P (remove xs 0)
removed_rest P [] lt h = absurd (omega (arith, lt))
removed_rest P (x ∷ xs) lt h = All-tail P x xs h

-- A list with one more, if there is one.
pub more_stand : {X : Type 0} (P : X → Type 0) (xs ys : List X) (o : Option X) → All P xs → IfSome o P → ys ≡ xs ++ option_to_list o → All P ys
more_stand P xs ys None h one is = subst (All P) (sym (is ∙ append-nil xs)) h
more_stand P xs ys (Some x) h one is = subst (All P) (sym is) (All-push P xs x h one)

-- Followed lines --

pub followed_on : {P : Type 0} (ghosts : P → GhostProtocol) (q : P) (opening : Map) (lines more : List Line) (first : Sits P) (others : List (Sits P)) (queued : ℕ) (found : Option Deviation) → is_some found ≡ true
    → AreFollowed ghosts q opening lines first others queued found → AreFollowed ghosts q opening (lines ++ more) first others queued found
followed_on ghosts q opening lines more first others queued None is h = absurd (cc)
followed_on ghosts q opening lines more first others queued (Some d) is h = deviates_on (ghosts q) opening lines more queued d h

pub none_found : {P : Type 0} (ghosts : P → GhostProtocol) (q : P) (opening : Map) (lines : List Line) (first : Sits P) (others : List (Sits P)) (queued : ℕ) (found : Option Deviation) → is_some found ≡ false
    → AreFollowed ghosts q opening lines first others queued found → IsStanding ghosts q opening lines first × All (IsStanding ghosts q opening lines) others
none_found ghosts q opening lines first others queued None is h = (h.0, h.1.0)
none_found ghosts q opening lines first others queued (Some d) is h = absurd (cc)

-- The first of a list.
pub removed_first : {X : Type 0} (P : X → Type 0) (xs : List X) (x : X) → 0 < length xs → x ≡ slice_index_or xs 0 x → All P xs → P x
removed_first P xs x lt is h = subst P (sym is) (h 0 x lt)

-- The last step of a line, by what it was attempted with.
pub last_is : (p : GhostProtocol) (at : Point) (l : Line) (queue : Locks) (first : Op) (y : Tried) → queue ≡ queue_for l.observed at.waiting → first ≡ first_op at.scans l
    → y ≡ last_of p l queue (moment_at at) first → y ≡ last_tried p at l
last_is p at l queue first y q f is = is ∙ ap (λ z. last_of p l z (moment_at at) first) q ∙ ap (λ o. last_of p l (queue_for l.observed at.waiting) (moment_at at) o) f

-- How a line differs, by the state's protocol.
pub kind_told : (p r : GhostProtocol) (at : Point) (l : Line) (since : Since) (y : Tried) (kind : Option DeviationKind) → r ≡ p → y ≡ last_tried p at l
    → kind ≡ kind_of (conflicts_of r since l.event.txn y.left.state y.op) y.ahead y.reply l.observed → kind ≡ kind_at p since at l
kind_told p r at l since y kind same last is = is ∙ ap (λ z. kind_of (conflicts_of z since l.event.txn y.left.state y.op) y.ahead y.reply l.observed) same ∙ kind_is p at l since y last
