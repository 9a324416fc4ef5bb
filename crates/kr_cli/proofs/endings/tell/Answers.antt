use Rattle.std.proofs.Common.{◌≡◌, ℕ, List, [], ◌∷◌, ◌++◌, Option, ap, subst}
use Rattle.std.specs.Prelude.{codes}
use Rattle.std.specs.Io.KnownBytes.{Appends}
use Rattle.kr_sink.specs.Puts.{AppendsFront}
use Rattle.kr_sink.proofs.Grows.{appends_more, front_of_more, front_behind}
use Rattle.kr_cli.specs.Endings.{line_of}
use Rattle.kr_cli.proofs.Fronts.{front_whole}
use Rattle.kr_cli.proofs.endings.tell.Goals as goal

-- the same bytes, whole or in front
front_along : (a b : Option (List ℕ)) (xs ys : List ℕ) → xs ≡ ys → AppendsFront a b xs → AppendsFront a b ys
front_along a b xs ys e h = let P : List ℕ → Type 0 = λ bs. AppendsFront a b bs in subst P e h

whole_along : (a b : Option (List ℕ)) (xs ys : List ℕ) → xs ≡ ys → Appends a b xs → Appends a b ys
whole_along a b xs ys e h = let P : List ℕ → Type 0 = λ bs. Appends a b bs in subst P e h

pub returns-in_err-put_all-clause-front : goal.returns-in_err-put_all-clause-front
returns-in_err-put_all-clause-front g c =
    let a = g.E.Sink.taken c.args.err.now in
    let b = g.E.Sink.taken c.put_all.new.out in
    front_of_more a b (codes "kr: ") (line_of c.args.ending.now ++ 10 ∷ []) c.in_err-put_all.ensures.err

pub returns-in_err-print-clause-front : goal.returns-in_err-print-clause-front
returns-in_err-print-clause-front g c =
    let a = g.E.Sink.taken c.args.err.now in
    let b = g.E.Sink.taken c.put_all.new.out in
    let d = g.E.Sink.taken c.print.new.out in
    let printed = c.line.result.now ++ 10 ∷ [] in
    let rest = line_of c.args.ending.now ++ 10 ∷ [] in
    let same : printed ≡ rest = ap (λ (l : List ℕ). l ++ 10 ∷ []) c.line.ensures in
    front_behind a b d (codes "kr: ") rest c.in_ok-put_all.ensures.ok (front_along b d printed rest same c.in_err-print.ensures.err)

pub returns-clause-front : goal.returns-clause-front
returns-clause-front g c =
    let a = g.E.Sink.taken c.args.err.now in
    let b = g.E.Sink.taken c.put_all.new.out in
    let d = g.E.Sink.taken c.print.new.out in
    let printed = c.line.result.now ++ 10 ∷ [] in
    let rest = line_of c.args.ending.now ++ 10 ∷ [] in
    let same : printed ≡ rest = ap (λ (l : List ℕ). l ++ 10 ∷ []) c.line.ensures in
    front_behind a b d (codes "kr: ") rest c.in_ok-put_all.ensures.ok (front_along b d printed rest same (front_whole b d printed c.in_ok-print.ensures.ok))

pub returns-clause-ok : goal.returns-clause-ok
returns-clause-ok g c =
    let a = g.E.Sink.taken c.args.err.now in
    let b = g.E.Sink.taken c.put_all.new.out in
    let d = g.E.Sink.taken c.print.new.out in
    let printed = c.line.result.now ++ 10 ∷ [] in
    let rest = line_of c.args.ending.now ++ 10 ∷ [] in
    let same : printed ≡ rest = ap (λ (l : List ℕ). l ++ 10 ∷ []) c.line.ensures in
    appends_more a b d (codes "kr: ") rest c.in_ok-put_all.ensures.ok (whole_along b d printed rest same c.in_ok-print.ensures.ok)
