use Rattle.std.specs.Prelude.{ℕ, false, ◌&&◌, ◌||◌, ◌==◌, nat_lt, None, cond, refl}
use Rattle.std.specs.Int.{bit_at}
use Rattle.std.proofs.Common.{arith, subst, sym}
use Rattle.kr_model.specs.Protocol.{Protocol}
use Rattle.kr_model.proofs.Tested.{numbers_agree}
use Rattle.kr_protocol.specs.Rows.{conflicts, IsRow}
use Rattle.kr_protocol.proofs.RowLaws.{row_from}
use Rattle.kr_crates_tests.proofs.tests.steps.locks.shared_exclusive.SharedExclusiveProtocol.row.Goals as goal

shared : Protocol
shared = record { count = 2; ok = λ q h. q == 0 || h == 0 || (q == 1 && h == 1); convert = λ h q. cond (nat_lt h q) q h; ask = λ row side own. None; updates = false }

row_of_shared : IsRow shared 1 4
unfolding shared
row_of_shared = row_from shared 1 4 3 (omega arith) (omega arith) (λ h lt. numbers_agree (λ q h. bit_at 4 h) (λ q h. cond (conflicts shared 1 h) 1 0) 3 refl 0 h (omega arith) lt)

row_of_exclusive : IsRow shared 2 6
unfolding shared
row_of_exclusive = row_from shared 2 6 3 (omega arith) (omega arith) (λ h lt. numbers_agree (λ q h. bit_at 6 h) (λ q h. cond (conflicts shared 2 h) 1 0) 3 refl 0 h (omega arith) lt)

pub returns-in-1 : goal.returns-in-1
unfolding shared
returns-in-1 c = subst (λ (q : ℕ). IsRow shared q 4) (sym c.in-1.is) row_of_shared

pub returns-in-2 : goal.returns-in-2
unfolding shared
returns-in-2 c = subst (λ (q : ℕ). IsRow shared q 6) (sym c.in-2.is) row_of_exclusive
