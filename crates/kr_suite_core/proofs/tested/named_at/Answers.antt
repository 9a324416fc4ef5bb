use Rattle.std.proofs.Common.{◌≡◌, ◌<◌, subst, length, get_or, arith}
use Rattle.std.specs.List.{Contains}
use Rattle.std.proofs.lemmas.Grind.{common_steps}
use Rattle.kr_change.specs.declared.change.Change.{Change}
use Rattle.kr_change.specs.GhostEvery.{index_changes_of}
use Rattle.kr_suite_core.proofs.tested.named_at.Goals as goal

pub returns-then-branch : goal.returns-then-branch
returns-then-branch g c =
    let within : c.args.number < length c.args.others.now = grind (arith, common_steps) in
    let here : get_or c.args.others.now c.args.number c.in-Some.change ≡ c.in-Some.change = grind (arith, common_steps) in
    record {
      change = subst (λ (d : Change). Contains (index_changes_of (g.P.IndexProtocol.index c.args.protocol.now)) d) here (c.requires c.args.number c.in-Some.change within);
      tells = c.in_ok-is_told_apart.ensures c.if-branch.true;
    }
