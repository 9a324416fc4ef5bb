use Rattle.std.proofs.Common.{◌≡◌, ◌∙◌, ap, sym, subst, false, All, List, IfOk, Bor}
use Rattle.std.proofs.lemmas.Result.{IfOk-weaker}
use Rattle.kr_model.specs.Protocol.{Protocol}
use Rattle.kr_kinds.specs.Kinds.{IndexProtocol, Gone, leaves_ghosts}
use Rattle.kr_stepping.proofs.EitherRuns.{is_gone}
use Rattle.kr_suite_core.specs.Judged.{IsJudged, changes_in}
use Rattle.kr_suite_core.specs.declared.judged.Judged.{Judged}
use Rattle.kr_suite_core.proofs.again.judge_again.Goals as goal

-- the table that is safe is the table
pub look_at_all-requires : goal.look_at_all-requires
look_at_all-requires g c =
    let x = g.P.IndexProtocol.index c.args.protocol.now in
    let plain : leaves_ghosts x ≡ false = (let a = c.leaves_ghosts.ensures in let b = c.if-leaves_ghosts.false in cc) in
    let kind : Gone (g.P.Protocol.table c.args.protocol.now) ≡ x = is_gone x _ _ (g.met.P.IndexProtocol.has_tables c.args.protocol.now) plain in
    let same : Gone (g.P.Protocol.table c.in-Ok.safe.protocol.now) ≡ Gone (g.P.Protocol.table c.args.protocol.now) = ap (λ (b : Bor g.row.P.Denot). Gone (g.P.Protocol.table b.now)) c.in-Ok.ensures.ok in
    subst (λ (p : IndexProtocol). All (IsJudged p) c.args.judged.now) (sym (same ∙ kind)) c.requires

pub returns-in-Ok-clause-alike : goal.returns-in-Ok-clause-alike
returns-in-Ok-clause-alike g c =
    let x = g.P.IndexProtocol.index c.args.protocol.now in
    let plain : leaves_ghosts x ≡ false = (let a = c.leaves_ghosts.ensures in let b = c.if-leaves_ghosts.false in cc) in
    let kind : Gone (g.P.Protocol.table c.args.protocol.now) ≡ x = is_gone x _ _ (g.met.P.IndexProtocol.has_tables c.args.protocol.now) plain in
    let same : Gone (g.P.Protocol.table c.in-Ok.safe.protocol.now) ≡ Gone (g.P.Protocol.table c.args.protocol.now) = ap (λ (b : Bor g.row.P.Denot). Gone (g.P.Protocol.table b.now)) c.in-Ok.ensures.ok in
    subst (λ (p : IndexProtocol). IfOk c.look_at_all.result (λ js. All (IsJudged p) js.items)) (same ∙ kind) c.look_at_all.ensures.alike

-- else all stays as it was
pub returns-then-leaves_ghosts-clause-changes : goal.returns-then-leaves_ghosts-clause-changes
returns-then-leaves_ghosts-clause-changes g c = IfOk-weaker c.copy_of.result (λ js. js.items ≡ c.args.judged.now) (λ js. changes_in js.items ≡ changes_in c.args.judged.now) (λ js same. ap changes_in same) c.copy_of.ensures

pub returns-then-leaves_ghosts-clause-alike : goal.returns-then-leaves_ghosts-clause-alike
returns-then-leaves_ghosts-clause-alike g c = IfOk-weaker c.copy_of.result (λ js. js.items ≡ c.args.judged.now) (λ js. All (IsJudged (g.P.IndexProtocol.index c.args.protocol.now)) js.items) (λ js same. subst (λ (ks : List Judged). All (IsJudged (g.P.IndexProtocol.index c.args.protocol.now)) ks) (sym same) c.requires) c.copy_of.ensures

pub returns-clause-changes : goal.returns-clause-changes
returns-clause-changes g c = IfOk-weaker c.copy_of-in-Err.result (λ js. js.items ≡ c.args.judged.now) (λ js. changes_in js.items ≡ changes_in c.args.judged.now) (λ js same. ap changes_in same) c.copy_of-in-Err.ensures

pub returns-clause-alike : goal.returns-clause-alike
returns-clause-alike g c = IfOk-weaker c.copy_of-in-Err.result (λ js. js.items ≡ c.args.judged.now) (λ js. All (IsJudged (g.P.IndexProtocol.index c.args.protocol.now)) js.items) (λ js same. subst (λ (ks : List Judged). All (IsJudged (g.P.IndexProtocol.index c.args.protocol.now)) ks) (sym same) c.requires) c.copy_of-in-Err.ensures
