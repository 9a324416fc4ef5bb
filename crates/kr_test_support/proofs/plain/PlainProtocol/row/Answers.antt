use Rattle.std.specs.Prelude.{max, None, true, refl}
use Rattle.kr_model.specs.Protocol.{Protocol}
use Rattle.kr_protocol.proofs.RowLaws.{no_conflicts}
use Rattle.kr_test_support.proofs.plain.PlainProtocol.row.Goals as goal

alone : Protocol
alone = record { count = 2; ok = λ q h. true; convert = λ h q. max h q; ask = λ row side own. None; updates = true }

pub returns : goal.returns
unfolding alone
returns c = no_conflicts alone c.args._requested (λ h. refl)
