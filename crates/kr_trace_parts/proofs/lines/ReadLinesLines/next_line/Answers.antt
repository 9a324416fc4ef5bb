use Rattle.std.specs.Prelude.{◌≡◌, ◌<◌, ◌≤◌, ◌∷◌, ℕ, Bool, List, [], drop, length}
use Rattle.std.proofs.Common.{ap, ◌∙◌, sym, subst, arith}
use Rattle.kr_trace_parts.specs.Lines.{HasNoLineFeed, MayGive}
use Rattle.kr_trace_parts.proofs.LineLaws.{front_within, given_before, last_given, long_given, none_given, same_given, seen_in_more, taken_given}
use Rattle.kr_trace_parts.proofs.lines.ReadLinesLines.next_line.Goals as goal

pub line_feed-requires : goal.line_feed-requires
line_feed-requires g c = subst (HasNoLineFeed c.loop.seen) (sym c.left.ensures) c.loop.invariant.unseen

pub returns-then-end-gt-LINE_BYTES-clause-long : goal.returns-then-end-gt-LINE_BYTES-clause-long
returns-then-end-gt-LINE_BYTES-clause-long g c h =
    let left = g.R.Read.remaining in
    let ahead = drop c.loop.self.given c.loop.self.ahead.items in
    let first = drop c.args.self.now.given c.args.self.now.ahead.items in
    let end = c.in-Some.end in
    let more : 16777216 < end = c.if-end-gt-LINE_BYTES.true in
    let within : end ≤ length ahead = (let w = subst (λ (xs : List ℕ). end < length xs) c.left.ensures c.in-Some.ensures.within in omega (arith, w)) in
    let none : HasNoLineFeed end ahead = subst (HasNoLineFeed end) c.left.ensures c.in-Some.ensures.some.1 in
    let n = long_given c.loop.self.ended (left c.loop.self.reader) ahead end more within none in
    (n.0, (given_before c.loop.self.ended c.args.self.now.ended (left c.loop.self.reader) (left c.args.self.now.reader) ahead first c.loop.invariant.same n.0 n.1.0, n.1.1))

pub returns-in-Some-clause-line : goal.returns-in-Some-clause-line
returns-in-Some-clause-line g c rest may =
    let left = g.R.Read.remaining in
    let ahead = drop c.loop.self.given c.loop.self.ahead.items in
    let first = drop c.args.self.now.given c.args.self.now.ahead.items in
    let line = c.in_ok-take_line.field-0.items in
    let after = drop c.take_line.new.self.given c.take_line.new.self.ahead.items in
    let now = same_given c.take_line.new.self.ended c.loop.self.ended (left c.take_line.new.self.reader) (left c.loop.self.reader) after rest c.take_line.ensures.ended (ap left c.take_line.ensures.reader) may in
    given_before c.loop.self.ended c.args.self.now.ended (left c.loop.self.reader) (left c.args.self.now.reader) ahead first c.loop.invariant.same (line ∷ rest)
    (taken_given c.loop.self.ended (left c.loop.self.reader) c.left.result.now ahead line after c.in-Some.end rest c.left.ensures c.in-Some.ensures.some.1
    c.in_ok-take_line.ensures.parts c.in_ok-take_line.ensures.len now)

pub returns-then-seen-gt-LINE_BYTES-clause-long : goal.returns-then-seen-gt-LINE_BYTES-clause-long
returns-then-seen-gt-LINE_BYTES-clause-long g c h =
    let left = g.R.Read.remaining in
    let ahead = drop c.loop.self.given c.loop.self.ahead.items in
    let first = drop c.args.self.now.given c.args.self.now.ahead.items in
    let more : 16777216 < length ahead = subst (λ (xs : List ℕ). 16777216 < length xs) c.left-seen.ensures c.if-seen-gt-LINE_BYTES.true in
    let within : length ahead ≤ length ahead = omega arith in
    let all : HasNoLineFeed (length ahead) ahead = subst (λ (xs : List ℕ). HasNoLineFeed (length xs) xs) c.left.ensures c.in_default.ensures.none in
    let n = long_given c.loop.self.ended (left c.loop.self.reader) ahead (length ahead) more within all in
    (n.0, (given_before c.loop.self.ended c.args.self.now.ended (left c.loop.self.reader) (left c.args.self.now.reader) ahead first c.loop.invariant.same n.0 n.1.0, n.1.1))

pub returns-then-seen-eq0-clause-end : goal.returns-then-seen-eq0-clause-end
returns-then-seen-eq0-clause-end g c =
    let left = g.R.Read.remaining in
    let ahead = drop c.loop.self.given c.loop.self.ahead.items in
    let first = drop c.args.self.now.given c.args.self.now.ahead.items in
    let none : length ahead ≡ 0 = sym (ap (λ (xs : List ℕ). length xs) c.left-seen.ensures) ∙ c.if-seen-eq0.true in
    given_before c.loop.self.ended c.args.self.now.ended (left c.loop.self.reader) (left c.args.self.now.reader) ahead first c.loop.invariant.same []
    (subst (λ (e : Bool). MayGive e (left c.loop.self.reader) ahead []) (sym c.if-self.true) (none_given (left c.loop.self.reader) ahead none))

pub returns-then-self-clause-line : goal.returns-then-self-clause-line
returns-then-self-clause-line g c rest may =
    let left = g.R.Read.remaining in
    let ahead = drop c.loop.self.given c.loop.self.ahead.items in
    let first = drop c.args.self.now.given c.args.self.now.ahead.items in
    let len = ap (λ (xs : List ℕ). length xs) c.left-seen.ensures in
    let some : 0 < length ahead = omega (arith, len, c.if-seen-eq0.false) in
    let all : HasNoLineFeed (length ahead) ahead = subst (λ (xs : List ℕ). HasNoLineFeed (length xs) xs) c.left.ensures c.in_default.ensures.none in
    let line = c.in_ok-take_rest.field-0.items in
    let now = same_given c.take_rest.new.self.ended c.loop.self.ended (left c.take_rest.new.self.reader) (left c.loop.self.reader) _ rest c.take_rest.ensures.ended (ap left c.take_rest.ensures.reader) may in
    let behind : MayGive c.loop.self.ended (left c.loop.self.reader) [] rest = subst (λ (xs : List ℕ). MayGive c.loop.self.ended (left c.loop.self.reader) xs rest) c.in_ok-take_rest.ensures.none now in
    let given : MayGive c.loop.self.ended (left c.loop.self.reader) ahead (ahead ∷ rest) =
    subst (λ (e : Bool). MayGive e (left c.loop.self.reader) ahead (ahead ∷ rest)) (sym c.if-self.true)
    (last_given (left c.loop.self.reader) ahead rest some all (subst (λ (e : Bool). MayGive e (left c.loop.self.reader) [] rest) c.if-self.true behind)) in
    given_before c.loop.self.ended c.args.self.now.ended (left c.loop.self.reader) (left c.args.self.now.reader) ahead first c.loop.invariant.same (line ∷ rest)
    (subst (λ (xs : List ℕ). MayGive c.loop.self.ended (left c.loop.self.reader) ahead (xs ∷ rest)) (sym c.in_ok-take_rest.ensures.rest) given)

pub loop-preserved : goal.loop-preserved
loop-preserved g c =
    let ahead = drop c.loop.self.given c.loop.self.ahead.items in
    let more = drop c.read_more.new.self.given c.read_more.new.self.ahead.items in
    let seen = length c.left-seen.result.now in
    let whole : seen ≡ length ahead = ap (λ (xs : List ℕ). length xs) c.left-seen.ensures in
    let all : HasNoLineFeed (length ahead) ahead = subst (λ (xs : List ℕ). HasNoLineFeed (length xs) xs) c.left.ensures c.in_default.ensures.none in
    let none : HasNoLineFeed seen ahead = subst (λ (n : ℕ). HasNoLineFeed n ahead) (sym whole) all in
    record {
      unseen = seen_in_more seen ahead more whole none c.in_ok-read_more.ensures.front;
      within = front_within seen ahead more whole c.in_ok-read_more.ensures.front;
      same = λ bytes h. c.loop.invariant.same bytes (c.in_ok-read_more.ensures.more bytes h);
    }
