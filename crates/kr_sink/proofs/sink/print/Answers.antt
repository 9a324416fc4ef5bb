use Rattle.std.proofs.Common.{[], ◌∷◌}
use Rattle.std.proofs.lemmas.Result.{err_from_is_err_and}
use Rattle.kr_sink.proofs.Grows.{front_behind}
use Rattle.kr_sink.proofs.sink.print.Goals as goal

pub returns-in_err-put_all-2-clause-err : goal.returns-in_err-put_all-2-clause-err
returns-in_err-put_all-2-clause-err g c =
    let p = err_from_is_err_and c.from_residual-in_err-put_all-2.result c.from_residual-in_err-put_all-2.ensures.1 in
    let whole = rw c.as_bytes.ensures.value at c.in_ok-put_all.ensures.ok in
    rw p.1 (front_behind (g.W.Sink.taken c.args.out.now) (g.W.Sink.taken c.put_all.new.out) (g.W.Sink.taken c.put_all-2.new.out) c.args.text.now (10 ∷ []) whole c.in_err-put_all-2.ensures.err)
