use Prim.Native.Nat.{ℕ}
use base.Shift.{Keyless}
use denote.RattleType.{RattleType}
use denote.Param.Send.{IsSend}
use Rattle.std.specs.declared.option.Option.{Option}
use Rattle.std.specs.declared.option.Option.TheVariants.{None, Some}
use Rattle.once_cell.specs.Once.{noted}
use Rattle.kr_records.specs.contracts.known.Known.{the_row}

noted_keyless : (R : RattleType) (γ : ℕ) (k : Option R.Denot) → Keyless (noted R γ k)
noted_keyless R γ None = tt
noted_keyless R γ (Some x) = tt

pub send : (T : RattleType) → IsSend (the_row T)
send T = record { owned = λ n vs. ((λ vss. (tt, ((λ uss. (tt, tt)), tt))), noted_keyless T n.cell n.known); leaving = λ k d w. tt }
