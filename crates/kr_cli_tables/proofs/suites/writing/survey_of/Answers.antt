use Rattle.std.proofs.Common.{◌≡◌, subst, true, false, Some, None}
use Rattle.kr_kinds.specs.Kinds.{IndexProtocol, Gone, Leaves, leaves_ghosts}
use Rattle.kr_stepping.proofs.EitherRuns.{is_gone, is_leaving}
use Rattle.kr_cli_tables.specs.Suite.{IsSurveyOf}
use Rattle.kr_cli_tables.proofs.suites.writing.survey_of.Goals as goal

pub returns-then-leaves_ghosts : goal.returns-then-leaves_ghosts
returns-then-leaves_ghosts g c =
    let x = g.P.IndexProtocol.index c.args.protocol.now in
    let plain : leaves_ghosts x ≡ true = (let a = c.leaves_ghosts.ensures in let b = c.if-leaves_ghosts.true in cc) in
    let kind : Leaves (g.P.GhostProtocol.ghosts c.args.protocol.now) ≡ x = is_leaving x _ _ (g.met.P.IndexProtocol.has_tables c.args.protocol.now) plain in
    subst (λ (y : IndexProtocol). IsSurveyOf y None) kind tt

pub returns : goal.returns
returns g c =
    let x = g.P.IndexProtocol.index c.args.protocol.now in
    let plain : leaves_ghosts x ≡ false = (let a = c.leaves_ghosts.ensures in let b = c.if-leaves_ghosts.false in cc) in
    let kind : Gone (g.P.Protocol.table c.args.protocol.now) ≡ x = is_gone x _ _ (g.met.P.IndexProtocol.has_tables c.args.protocol.now) plain in
    subst (λ (y : IndexProtocol). IsSurveyOf y (Some c.in_ok-survey.survey)) kind c.in_ok-survey.ensures
