use Rattle.std.specs.Prelude.{Bool, List, Option, false, ℕ, drop}
use Rattle.std.specs.Io.{StartsWith}
use Rattle.std.proofs.Common.{ap, subst, sym}
use Rattle.kr_trace_parts.specs.Lines.{IsLeft}
use Rattle.kr_trace_parts.proofs.LineLaws.{piece_left}
use Rattle.kr_trace_parts.proofs.lines.ReadLines.read_more.Goals as goal

pub returns-clause-more : goal.returns-clause-more
returns-clause-more g c bytes h =
    let left = g.R.Read.remaining in
    let ahead = drop c.args.self.now.given c.args.self.now.ahead.items in
    let more = c.read_piece.new.ahead.items in
    let now : IsLeft c.in_ok-self.field-0 (left c.read_piece.new.reader) more bytes =
    subst (λ (n : ℕ). IsLeft c.in_ok-self.field-0 (left c.read_piece.new.reader) (drop n more) bytes) c.in_ok-let_go.ensures.none h in
    let before : IsLeft false (left c.let_go.new.self.reader) c.let_go.new.self.ahead.items bytes =
    piece_left c.in_ok-self.field-0 (left c.let_go.new.self.reader) (left c.read_piece.new.reader) c.let_go.new.self.ahead.items more c.in_ok-self.ensures.more (λ e. c.read_piece.ensures.end (cc)) bytes now in
    subst (λ (e : Bool). IsLeft e (left c.args.self.now.reader) ahead bytes) (sym c.requires)
    (subst (λ (k : Option (List ℕ)). IsLeft false k ahead bytes) (ap left c.let_go.ensures.reader)
    (subst (λ (xs : List ℕ). IsLeft false (left c.let_go.new.self.reader) xs bytes) c.in_ok-let_go.ensures.left before))

pub returns-clause-front : goal.returns-clause-front
returns-clause-front g c =
    let more = c.read_piece.new.ahead.items in
    let ahead = drop c.args.self.now.given c.args.self.now.ahead.items in
    subst (λ (n : ℕ). StartsWith (drop n more) ahead) (sym c.in_ok-let_go.ensures.none) (subst (λ (xs : List ℕ). StartsWith more xs) c.in_ok-let_go.ensures.left c.in_ok-self.ensures.front)
