use Rattle.std.proofs.Common.{inl, refl, arith, false}
use Rattle.kr_change.specs.declared.change.Change.TheVariants as change
use Rattle.kr_explain_causes.proofs.Found.{are_of_entry, are_told, found_none}
use Rattle.kr_explain_causes.proofs.Tried.{IsMadeOf}
use Rattle.kr_ghost_explain.specs.Mends.{Accepts, IsOfBlame, MakesSafe, Mends}
use Rattle.kr_ghost_explain.proofs.mends.ghost_mends.Goals as goal

-- where no entry is to blame, nothing is named
pub returns-in-None : goal.returns-in-None
returns-in-None g c =
    let p = g.P.GhostProtocol.ghosts c.args.protocol.now in
    let b = c.args.cause.now.blame in
    let M = Mends p c.args.cause.now.cases.items c.args.failed.now in
    let m = c.none.result in
    let none = c.none.ensures in
    record {
      mends = are_told (Accepts p) (MakesSafe p) M (IsOfBlame b) 0 m m (found_none (Accepts p) (MakesSafe p) M (IsOfBlame b) m none.accepted none.safe none.mended) refl refl (inl none.mended);
      of_one_entry = are_of_entry (Accepts p) (MakesSafe p) M (IsOfBlame b) (change.Compatible 0 0 false) 0 m m (found_none (Accepts p) (MakesSafe p) M (IsMadeOf (IsOfBlame b) (change.Compatible 0 0 false)) m none.accepted none.safe none.mended) refl refl (inl none.mended) (omega arith);
    }
