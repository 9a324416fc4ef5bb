use Rattle.std.proofs.Common.{ℕ, ◌≡◌, ◌≤◌, List, true, false, get_or, set, ap, sym, subst, rules, arith}
use Rattle.std.specs.Prelude.{Contains}
use Rattle.std.proofs.lemmas.List.Elements.{Contains-push}
use Rattle.kr_relax_core.specs.declared.twins.Twin.{Twin}
use Rattle.kr_relax_core.specs.Met.{mode_then}
use Rattle.kr_relax_core.specs.Twins.{twin_of}
use Rattle.kr_kinds.specs.Kinds.{table_of}
use Rattle.kr_relax_core.proofs.OfKind.{few_modes}
use Rattle.kr_relax_core.proofs.Growing.{grown_by, twins_then}
use Rattle.kr_relax_core.proofs.twins.Twins.add.Goals as goal

pub returns-in_ok-push-clause-grows : goal.returns-in_ok-push-clause-grows
returns-in_ok-push-clause-grows g c =
    let p = g.P.IndexProtocol.index c.args.base.now in
    let q = g.Q.IndexProtocol.index c.args.other.now in
    let few : (table_of p).count ≤ 15 = few_modes p _ _ (g.met.P.IndexProtocol.has_tables c.args.base.now) (g.met.P.GhostProtocol.tables c.args.base.now) (g.met.P.Protocol.lawful c.args.base.now) in
    let one : c.mode_then-mode.result ≤ (table_of p).count = c.mode_then-mode.ensures.in_range in
    let two : c.mode_then-twin.result ≤ (table_of q).count = c.mode_then-twin.ensures.in_range in
    let same : (table_of q).count ≡ (table_of p).count = c.requires.same in
    let number = c.twin_number-number.ensures in
    let unseens = c.args.self.now.unseen.items in
    grown_by p q c.args.self.now _ c.mode_then-mode.result c.mode_then-twin.result c.requires.well
    (twins_then p q c.args.request c.args.own c.args.next c.mode_then-mode.result c.mode_then-twin.result c.requires.is_met c.requires.own_twin c.requires.next_twin c.mode_then-mode.ensures.mode c.mode_then-twin.ensures.mode one two same)
    (omega (arith, few, one)) (omega (arith, few, two, same))
    (subst (λ (n : ℕ). get_or unseens n true ≡ true) number.value (search (rules, c.index.ensures, c.if-index.true)))
    c.in_ok-push.ensures.items
    (ap (λ (n : ℕ). set unseens n false) number.value)

pub returns-in_ok-push-clause-leads : goal.returns-in_ok-push-clause-leads
returns-in_ok-push-clause-leads g c =
    let p = g.P.IndexProtocol.index c.args.base.now in
    let q = g.Q.IndexProtocol.index c.args.other.now in
    let x = c.args.request in
    let new = c.push.new.self.items in
    let mode = c.mode_then-mode.result in
    let twin = c.mode_then-twin.result in
    let there : Contains new (twin_of mode twin) = subst (λ (l : List Twin). Contains l (twin_of mode twin)) (sym c.in_ok-push.ensures.items) (Contains-push c.args.self.now.twins.items (twin_of mode twin)) in
    subst (λ (m : ℕ). Contains new (twin_of m (mode_then q x.place c.args.own c.args.next))) c.mode_then-mode.ensures.mode
    (subst (λ (t : ℕ). Contains new (twin_of mode t)) c.mode_then-twin.ensures.mode there)
