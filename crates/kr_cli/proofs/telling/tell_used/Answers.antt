use Rattle.std.specs.Prelude.{ℕ, List, Result, Ok, Err, OnErr}
use Rattle.std.proofs.Common.{subst}
use Rattle.kr_sink.specs.Puts.{AppendsFront}
use Rattle.kr_cli.proofs.Told.{usage_in_front}
use Rattle.kr_cli.proofs.telling.tell_used.Goals as goal

-- what follows at an error
on_err : {A E : Type 0} (r : Result A E) (P Q : Type 0) → (P → Q) → OnErr r P → OnErr r Q
on_err (Ok x) P Q f h = tt
on_err (Err e) P Q f h = f h

pub returns-in-NotUnderstood-clause-err : goal.returns-in-NotUnderstood-clause-err
returns-in-NotUnderstood-clause-err g c =
    let taken = g.E.Sink.taken in
    let P : List ℕ → Type 0 = λ bytes. AppendsFront (taken c.tell.new.err) (taken c.put_all.new.out) bytes in
    on_err c.put_all.result _ _ (λ front. usage_in_front (taken c.args.err.now) (taken c.tell.new.err) (taken c.put_all.new.out) c.args.usage.now c.args.ending.now c.in-NotUnderstood.is c.in_ok-tell.ensures.ok (subst P c.as_bytes.ensures.value front)) c.put_all.ensures.err
