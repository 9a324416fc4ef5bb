use Rattle.std.proofs.Common.{sym, false, arith}
use Rattle.std.proofs.lemmas.Bool.Decides.{nat_tests}
use Rattle.kr_apart.proofs.ScriptParts.{uneven}
use Rattle.kr_apart.proofs.flags.part.Goals as goal

-- lists of different lengths don't part
pub returns-then-one-other : goal.returns-then-one-other
returns-then-one-other c = sym (uneven false c.args.one.now c.args.other.now (λ e. grind (arith, nat_tests)))
