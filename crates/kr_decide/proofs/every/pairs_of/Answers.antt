use Rattle.kr_decide.proofs.Complete.{beside_at, listed}
use Rattle.kr_decide.proofs.every.pairs_of.Goals as goal

pub returns : goal.returns
returns g c =
    let p = g.P.Protocol.table c.args.protocol.now in
    let f = c.in_ok-found.found in
    let going = c.in_ok-found.ensures in
    let found = going.found in
    record {
      derived = found.derived;
      beside = λ k within. beside_at p f.pairs.items k found.derived within;
      listed = listed p f going;
      own = found.own;
      other = found.other;
    }
