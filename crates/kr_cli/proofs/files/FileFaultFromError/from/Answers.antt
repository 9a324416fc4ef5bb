use Rattle.std.proofs.Common.{arith}
use Rattle.std.proofs.lemmas.Grind.{common_steps}
use Rattle.kr_cli.proofs.files.FileFaultFromError.from.Goals as goal

pub returns-in-PermissionDenied : goal.returns-in-PermissionDenied
returns-in-PermissionDenied c = grind (arith, common_steps)
