use Rattle.std.proofs.Common.{ℕ, ◌≡◌, ◌∙◌, Option, Some, ap, sym, subst}
use Rattle.kr_model.specs.declared.Span.{Span}
use Rattle.kr_model.specs.Safe.{given}
use Rattle.kr_decide.specs.Met.{IsMarked}
use Rattle.kr_decide.proofs.met.Met.add_request.Goals as goal

same_mode : {x y : ℕ} {s t : Span} → ◌≡◌ {A = Option (ℕ × Span)} (Some (x, s)) (Some (y, t)) → x ≡ y
same_mode {x} {y} {s} {t} e = let pair : ◌≡◌ {A = ℕ × Span} (x, s) (y, t) = cc in ap (λ (q : ℕ × Span). q.0) pair

pub may_ask-requires : goal.may_ask-requires
may_ask-requires g c = c.requires.own

pub may_beside-requires : goal.may_beside-requires
may_beside-requires g c = c.requires.other

pub add-requires-clause-sound : goal.add-requires-clause-sound
add-requires-clause-sound g c = c.requires.sound

pub add-requires-clause-own : goal.add-requires-clause-own
add-requires-clause-own g c = c.requires.own

pub add-requires-clause-other : goal.add-requires-clause-other
add-requires-clause-other g c = c.requires.other

pub add-requires-clause-requests : goal.add-requires-clause-requests
add-requires-clause-requests g c =
    let p = g.P.Protocol.table c.args.protocol.now in
    record {
      row = c.args.row;
      side = c.args.side;
      span = c.in-Some.field-0-1;
      next = c.args.next;
      beside = c.requires.beside;
      alone = c.requires.alone;
      asks = c.may_ask.ensures.0 c.if-not-may_ask.false;
      may_beside = c.may_beside.ensures.0 c.if-not-may_beside.false;
      asked = subst (λ (n : ℕ). p.ask c.args.row c.args.side n ≡ Some (c.in-Some.mode, c.in-Some.field-0-1)) c.given.ensures (sym c.ask.ensures ∙ c.in-Some.is);
    }

pub returns-in-Some-clause-marks : goal.returns-in-Some-clause-marks
returns-in-Some-clause-marks g c = λ asks beside m span e.
    let p = g.P.Protocol.table c.args.protocol.now in
    let is : p.ask c.args.row c.args.side (given c.args.row c.args.side c.args.own c.args.next) ≡ Some (c.in-Some.mode, c.in-Some.field-0-1) =
    subst (λ (n : ℕ). p.ask c.args.row c.args.side n ≡ Some (c.in-Some.mode, c.in-Some.field-0-1)) c.given.ensures (sym c.ask.ensures ∙ c.in-Some.is) in
    subst (λ (n : ℕ). IsMarked p c.add.new.self c.args.own c.args.other n) (same_mode (sym is ∙ e)) c.add.ensures.marked

pub returns-in-Some-clause-adds : goal.returns-in-Some-clause-adds
returns-in-Some-clause-adds g c = c.add.ensures.adds
