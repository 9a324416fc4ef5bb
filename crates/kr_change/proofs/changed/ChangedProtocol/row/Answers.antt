use Rattle.std.proofs.Common.{◌≡◌, ◌*◌, ◌%◌, ◌^◌, ◌≤◌, ◌<◌, sym, subst, true, false, arith, ℕ, Bool}
use Rattle.std.specs.Int.{bit_not, w16}
use Rattle.std.specs.Int.RustNames.{bit_and, bit_or}
use Rattle.kr_model.proofs.Tested.{and_second}
use Rattle.kr_protocol.specs.Rows.{IsRow}
use Rattle.kr_change.specs.declared.change.Change.{Change}
use Rattle.kr_change.specs.declared.change.Change.TheVariants.{Compatible}
use Rattle.kr_change.specs.Changes.{changed, is_change, is_mode}
use Rattle.kr_change.specs.GhostChanges.{is_index_change}
use Rattle.kr_change.proofs.GhostLawful.{allowed_of, pair_fine}
use Rattle.kr_change.proofs.Lawful.{mode_by_test}
use Rattle.kr_change.proofs.Rows.{row_apart, row_beside}
use Rattle.kr_change.proofs.changed.ChangedProtocol.row.Goals as goal
use Rattle.kr_change.proofs.changed.ChangedProtocol.row.Goals.{else-requested-one-via-then-requested-one+else-is_compatible, else-requested-one-via-else-requested-one}

-- the row of the request of a pair that is compatible from now on
pub returns-then-is_compatible : goal.returns-then-is_compatible
returns-then-is_compatible g c =
    let p = g.P.Protocol.table c.args.self.now.base.now in
    let one = c.in-Compatible.one in
    let held = c.in-Compatible.held in
    let b = c.in-Compatible.is_compatible in
    let row : ℕ = bit_and c.row-row.result (bit_not w16 (1 * 2 ^ held % 2 ^ 16)) in
    let base = c.args.self.now.base.now in
    let i = g.P.IndexProtocol.index base in
    let ghosts = g.P.GhostProtocol.ghosts base in
    let same = g.met.P.GhostProtocol.tables base in
    let is : is_index_change i (Compatible one held b) ≡ true = subst (λ (h : Change). is_index_change i h ≡ true) c.in-Compatible.is c.args.self.now.allowed in
    let allowed : is_change p (Compatible one held b) ≡ true = pair_fine p ghosts one held b same (allowed_of i p ghosts (g.met.P.IndexProtocol.has_tables base) same (Compatible one held b) is) in
    let mode : is_mode p held ≡ true = and_second (is_mode p one) (is_mode p held) allowed in
    let low : held ≤ p.count = (mode_by_test p held mode).in_range in
    let few : p.count ≤ 15 = c.args.self.now.lawful.few in
    let small : held < 16 = omega arith in
    let beside : IsRow (changed p (Compatible c.args.requested held true)) c.args.requested row = row_beside p c.args.requested held c.row-row.result small few c.row-row.ensures in
    let of_one : IsRow (changed p (Compatible one held true)) c.args.requested row = subst (λ (q : ℕ). IsRow (changed p (Compatible q held true)) c.args.requested row) c.if-requested-one.true beside in
    let of_b : IsRow (changed p (Compatible one held b)) c.args.requested row = subst (λ (x : Bool). IsRow (changed p (Compatible one held x)) c.args.requested row) (sym c.if-is_compatible.true) of_one in
    subst (λ (h : Change). IsRow (changed p h) c.args.requested row) (sym c.in-Compatible.is) of_b

-- the row of the request of a pair that isn't any more
pub returns-then-requested-one-2 : goal.returns-then-requested-one-2
returns-then-requested-one-2 g c =
    let p = g.P.Protocol.table c.args.self.now.base.now in
    let one = c.in-Compatible.one in
    let held = c.in-Compatible.held in
    let b = c.in-Compatible.is_compatible in
    let row : ℕ = bit_or c.row-row.result (1 * 2 ^ held % 2 ^ 16) in
    let base = c.args.self.now.base.now in
    let i = g.P.IndexProtocol.index base in
    let ghosts = g.P.GhostProtocol.ghosts base in
    let same = g.met.P.GhostProtocol.tables base in
    let is : is_index_change i (Compatible one held b) ≡ true = subst (λ (h : Change). is_index_change i h ≡ true) c.in-Compatible.is c.args.self.now.allowed in
    let allowed : is_change p (Compatible one held b) ≡ true = pair_fine p ghosts one held b same (allowed_of i p ghosts (g.met.P.IndexProtocol.has_tables base) same (Compatible one held b) is) in
    let mode : is_mode p held ≡ true = and_second (is_mode p one) (is_mode p held) allowed in
    let low : held ≤ p.count = (mode_by_test p held mode).in_range in
    let few : p.count ≤ 15 = c.args.self.now.lawful.few in
    let small : held < 16 = omega arith in
    let apart : b ≡ false = elim c.else-requested-one.branch [
      | else-requested-one-via-then-requested-one+else-is_compatible w ↦ w.if-is_compatible.false
      | else-requested-one-via-else-requested-one w ↦ absurd (w.if-requested-one.false c.if-requested-one-2.true)
    ] in
    let set : IsRow (changed p (Compatible c.args.requested held false)) c.args.requested row = row_apart p c.args.requested held c.row-row.result mode small c.row-row.ensures in
    let of_one : IsRow (changed p (Compatible one held false)) c.args.requested row = subst (λ (q : ℕ). IsRow (changed p (Compatible q held false)) c.args.requested row) c.if-requested-one-2.true set in
    let of_b : IsRow (changed p (Compatible one held b)) c.args.requested row = subst (λ (x : Bool). IsRow (changed p (Compatible one held x)) c.args.requested row) (sym apart) of_one in
    subst (λ (h : Change). IsRow (changed p h) c.args.requested row) (sym c.in-Compatible.is) of_b
