use Rattle.std.proofs.Common.{◌-◌, length}
use Rattle.kr_cli_diagnosis.proofs.toml_tokens.tokens_of.Given as goal

abbrev pub decreases-loop-at : goal.decreases-loop-at
decreases-loop-at l = length l.text - l.at
