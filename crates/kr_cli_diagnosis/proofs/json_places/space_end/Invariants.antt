use Rattle.std.proofs.Common.{◌-◌, length}
use Rattle.kr_cli_diagnosis.proofs.json_places.space_end.Given as goal

abbrev pub decreases-loop-end : goal.decreases-loop-end
decreases-loop-end l = length l.text - l.end
