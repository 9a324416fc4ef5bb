use Rattle.std.specs.Prelude.{ℕ, List, Result, Ok, Err, OnErr}
use Rattle.std.proofs.Common.{subst}
use Rattle.kr_sink.specs.Puts.{AppendsFront}
use Rattle.kr_sink.proofs.Grows.{front_behind}
use Rattle.kr_cli.specs.Endings.{ending_text}
use Rattle.kr_cli.proofs.telling.tell_all.Goals as goal

-- what holds anyway holds at an error
at_err : {A E : Type 0} (r : Result A E) (P : Type 0) → P → OnErr r P
at_err (Ok x) P h = tt
at_err (Err e) P h = h

pub returns-in_err-put_all-clause-err : goal.returns-in_err-put_all-clause-err
returns-in_err-put_all-clause-err g c =
    let taken = g.E.Sink.taken in
    let line = ending_text c.args.usage.now c.args.ending.now in
    let P : List ℕ → Type 0 = λ bytes. AppendsFront (taken c.tell_used.new.err) (taken c.put_all.new.out) bytes in
    at_err c.from_residual-in_err-put_all.result _ (front_behind (taken c.args.err.now) (taken c.tell_used.new.err) (taken c.put_all.new.out) line c.args.help.now c.in_ok-tell_used.ensures.ok (subst P c.as_bytes.ensures.value c.in_err-put_all.ensures.err))
