-- With no marks each request comes.
use Rattle.std.proofs.Common.{ℕ, ◌≡◌, refl, ap, ◌∙◌, Bool, true, false, []}
use Rattle.std.specs.Prelude.{◌&&◌, ◌||◌, not, slice_index_or}
use Rattle.kr_model.specs.declared.Row.{Row}
use Rattle.kr_model.specs.declared.Side.{Side}
use Rattle.kr_model.specs.Protocol.{Protocol}
use Rattle.kr_alike.specs.declared.coming.Coming.{Coming}
use Rattle.kr_alike.specs.Closed.{HasClosedSet, HasClosedSetFor}
use Rattle.kr_alike.specs.Marks.{asked_place, is_insert}
use Rattle.kr_alike.specs.Growth.{Comes}

all_come : (w : Coming) → w.asked.items ≡ [] → w.left.items ≡ [] → (r : Row) (s : Side) (x n y : ℕ) → Comes w r s x n y
all_come w e f r s x n y =
    ap (λ l. slice_index_or l (asked_place r s x n) true && (not (is_insert r s) || slice_index_or w.left.items y true)) e ∙ ap (λ l. not (is_insert r s) || slice_index_or l y true) f ∙ by (not (is_insert r s))
  where
    by : (b : Bool) → (b || true) ≡ true
    by true = refl
    by false = refl

pub closed_all : (p q : Protocol) (w : Coming) → w.asked.items ≡ [] → w.left.items ≡ [] → HasClosedSetFor p q (Comes w) → HasClosedSet p q
closed_all p q w e f some =
    let c = some.closed in
    record {
      updates = some.updates;
      has = some.has;
      closed = record {
        within = c.within;
        start = c.start;
        turn = c.turn;
        leave = c.leave;
        answer = λ r s x y n. c.answer r s x y n (all_come w e f r s x.first n.first y.first);
        move = λ r s x y n. c.move r s x y n (all_come w e f r s x.first n.first y.first);
      };
    }

pub all_closed : (p q : Protocol) (w : Coming) → HasClosedSet p q → HasClosedSetFor p q (Comes w)
all_closed p q w some =
    let c = some.closed in
    record {
      updates = some.updates;
      has = some.has;
      closed = record {
        within = c.within;
        start = c.start;
        turn = c.turn;
        leave = c.leave;
        answer = λ r s x y n may. c.answer r s x y n;
        move = λ r s x y n may. c.move r s x y n;
      };
    }
