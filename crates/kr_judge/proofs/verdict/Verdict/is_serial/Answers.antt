use Rattle.std.proofs.Common.{rules}
use Rattle.kr_judge.proofs.verdict.Verdict.is_serial.Goals as goal

pub returns-in-Serial : goal.returns-in-Serial
returns-in-Serial c = search rules
