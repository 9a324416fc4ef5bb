use denote.RattleType.{RattleType}
use denote.Param.Send.{IsSend}
use Rattle.kr_records.specs.contracts.known_cells.KnownCells.{the_row}
use Rattle.kr_records.proofs.Cells.{all_keyless}

pub send : (T : RattleType) → IsSend (the_row T)
send T = record { owned = λ n vs. ((λ vss. (tt, ((λ uss. (tt, tt)), tt))), all_keyless T n.known); leaving = λ k d w. tt }
