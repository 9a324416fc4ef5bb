use Rattle.std.proofs.Common.{◌≡◌, true, false, ap, sym, subst}
use Rattle.kr_kinds.specs.Kinds.{IsSafeIndex}
use Rattle.kr_change.specs.GhostChanges.{changed_index, is_index_change}
use Rattle.kr_relax_core.specs.Twins.{Differs, HasTwins}
use Rattle.kr_relax_core.proofs.Judging.{same_table, blocks_more, lets_nothing_more, unsafe_with, relaxes}
use Rattle.kr_relax_core.proofs.outcome.outcome_of.Goals as goal

pub differs-requires-clause-twins : goal.differs-requires-clause-twins
differs-requires-clause-twins g c =
    let p = g.P.IndexProtocol.index c.args.protocol.now in
    let made = c.in-Some.changed in
    let q = changed_index (g.P.IndexProtocol.index made.base.now) made.change in
    subst (HasTwins p q) (sym c.deref.ensures.value) c.in_ok-twins.ensures

pub width-width-requires-clause-twins : goal.width-width-requires-clause-twins
width-width-requires-clause-twins g c =
    let p = g.P.IndexProtocol.index c.args.protocol.now in
    let made = c.in-Some.changed in
    let q = changed_index (g.P.IndexProtocol.index made.base.now) made.change in
    subst (HasTwins p q) (sym c.deref-2.ensures.value) c.in_ok-twins.ensures

-- it blocks what was granted
pub returns-then-differs : goal.returns-then-differs
returns-then-differs g c =
    let p = g.P.IndexProtocol.index c.args.protocol.now in
    let made = c.in-Some.changed in
    let q = changed_index (g.P.IndexProtocol.index made.base.now) made.change in
    let same : q ≡ changed_index p c.args.change = same_table p (g.P.IndexProtocol.index made.base.now) c.args.change made.change (ap (λ x. g.P.IndexProtocol.index x) c.in-Some.ensures.base) c.in-Some.ensures.change in
    let change : is_index_change p c.args.change ≡ true = sym c.in-Some.ensures.exactly in
    blocks_more p q c.args.change same change (c.differs.ensures.0 c.if-differs.true)

-- it grants nothing more
pub returns-then-width-eq0 : goal.returns-then-width-eq0
returns-then-width-eq0 g c =
    let p = g.P.IndexProtocol.index c.args.protocol.now in
    let made = c.in-Some.changed in
    let q = changed_index (g.P.IndexProtocol.index made.base.now) made.change in
    let same : q ≡ changed_index p c.args.change = same_table p (g.P.IndexProtocol.index made.base.now) c.args.change made.change (ap (λ x. g.P.IndexProtocol.index x) c.in-Some.ensures.base) c.in-Some.ensures.change in
    let change : is_index_change p c.args.change ≡ true = sym c.in-Some.ensures.exactly in
    let weaker : Differs p q false → ⊥ = (λ d. let a = c.differs.ensures.1 d in let b = c.if-differs.false in cc) in
    lets_nothing_more p q c.args.change c.width-width.result same change weaker c.width-width.ensures c.if-width-eq0.true

-- it grants all that was granted, and more, and is safe
pub returns : goal.returns
returns g c =
    let p = g.P.IndexProtocol.index c.args.protocol.now in
    let made = c.in-Some.changed in
    let q = changed_index (g.P.IndexProtocol.index made.base.now) made.change in
    let same : q ≡ changed_index p c.args.change = same_table p (g.P.IndexProtocol.index made.base.now) c.args.change made.change (ap (λ x. g.P.IndexProtocol.index x) c.in-Some.ensures.base) c.in-Some.ensures.change in
    let change : is_index_change p c.args.change ≡ true = sym c.in-Some.ensures.exactly in
    let weaker : Differs p q false → ⊥ = (λ d. let a = c.differs.ensures.1 d in let b = c.if-differs.false in cc) in
    let safe : IsSafeIndex q = c.in_ok-safe.ensures.0 c.if-not-safe.false in
    relaxes p q c.args.change c.width-width.result same change weaker c.width-width.ensures c.if-width-eq0.false safe

-- it isn't safe
pub returns-then-not-safe : goal.returns-then-not-safe
returns-then-not-safe g c =
    let p = g.P.IndexProtocol.index c.args.protocol.now in
    let made = c.in-Some.changed in
    let q = changed_index (g.P.IndexProtocol.index made.base.now) made.change in
    let same : q ≡ changed_index p c.args.change = same_table p (g.P.IndexProtocol.index made.base.now) c.args.change made.change (ap (λ x. g.P.IndexProtocol.index x) c.in-Some.ensures.base) c.in-Some.ensures.change in
    let change : is_index_change p c.args.change ≡ true = sym c.in-Some.ensures.exactly in
    let weaker : Differs p q false → ⊥ = (λ d. let a = c.differs.ensures.1 d in let b = c.if-differs.false in cc) in
    let unsafe : IsSafeIndex q → ⊥ = (λ s. let a = c.in_ok-safe.ensures.1 s in let b = c.if-not-safe.true in cc) in
    unsafe_with p q c.args.change c.width-width.result same change weaker c.width-width.ensures c.if-width-eq0.false unsafe
