use Rattle.std.proofs.Common.{arith}
use Rattle.std.proofs.lemmas.Grind.{common_steps}
use Rattle.kr_table.proofs.walk.test_content.Goals as goal

pub returns : goal.returns
returns c = grind (arith, common_steps)

pub returns-in_err-test_entries : goal.returns-in_err-test_entries
returns-in_err-test_entries c = grind (arith, common_steps)

pub returns-in_err-test_missing : goal.returns-in_err-test_missing
returns-in_err-test_missing c = grind (arith, common_steps)

pub returns-in_err-test_held : goal.returns-in_err-test_held
returns-in_err-test_held c = grind (arith, common_steps)

pub returns-in_err-test_missing_pairs : goal.returns-in_err-test_missing_pairs
returns-in_err-test_missing_pairs c = grind (arith, common_steps)
