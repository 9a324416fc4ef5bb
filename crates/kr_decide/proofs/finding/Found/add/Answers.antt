use Rattle.std.proofs.Common.{ℕ, ◌≡◌, ◌<◌, ◌≤◌, ◌∙◌, List, Bool, true, false, set, get_or, ap, refl, sym, subst, arith}
use Rattle.std.proofs.lemmas.List.{get_or_default}
use Rattle.kr_decide.specs.declared.pair.Pair.{Pair}
use Rattle.kr_decide.specs.Findings.{Has}
use Rattle.kr_decide.proofs.Growing.{grown, grows_none, has_end}
use Rattle.kr_decide.proofs.finding.Found.add.Goals as goal

within_few : {n count : ℕ} → count ≤ 15 → n ≤ count → n ≤ 15
within_few few low = omega (arith, few, low)

below_size : {n m : ℕ} → m ≡ 147456 → n < 147456 → n < m
below_size size low = omega (arith, size, low)

pub returns-in_ok-push-clause-grows : goal.returns-in_ok-push-clause-grows
returns-in_ok-push-clause-grows g c =
    let laws = g.met.P.Protocol.lawful c.args.protocol.now in
    let number = c.pair_number-number.ensures in
    let unseens = c.args.self.now.unseen.items in
    grown (g.P.Protocol.table c.args.protocol.now) c.args.self.now _ c.args.pair laws.few c.requires.found c.requires.way c.requires.own c.requires.other
    (subst (λ (n : ℕ). n < 147456) number.value number.below)
    (subst (λ (n : ℕ). get_or unseens n true ≡ true) number.value (subst (λ (b : Bool). get_or unseens c.pair_number-number.result b ≡ b) c.if-index.true (sym c.index.ensures)))
    c.in_ok-push.ensures.items
    (ap (λ (n : ℕ). set unseens n false) number.value)
    refl

pub returns-in_ok-push-clause-has : goal.returns-in_ok-push-clause-has
returns-in_ok-push-clause-has g c = subst (λ (l : List Pair). Has l c.args.pair.own c.args.pair.other) (sym c.in_ok-push.ensures.items) (has_end c.args.self.now.pairs.items c.args.pair)

pub returns-else-index-clause-grows : goal.returns-else-index-clause-grows
returns-else-index-clause-grows g c = grows_none (g.P.Protocol.table c.args.protocol.now) c.args.self.now c.requires.found

pub pair_number-number-requires : goal.pair_number-number-requires
pair_number-number-requires g c =
    let laws = g.met.P.Protocol.lawful c.args.protocol.now in
    record { own = within_few laws.few c.requires.own; other = within_few laws.few c.requires.other }

pub index-requires : goal.index-requires
index-requires g c = let found = c.requires.found in omega (arith, found.size, c.pair_number-number.ensures.below)

pub index_mut-requires : goal.index_mut-requires
index_mut-requires g c = let found = c.requires.found in omega (arith, found.size, c.pair_number-number.ensures.below)

pub returns-else-index-clause-has : goal.returns-else-index-clause-has
returns-else-index-clause-has g c =
    let laws = g.met.P.Protocol.lawful c.args.protocol.now in
    let number = c.pair_number-number.ensures in
    let found = c.requires.found in
    found.seen c.args.pair.own c.args.pair.other (within_few laws.few c.requires.own) (within_few laws.few c.requires.other)
    (subst (λ (n : ℕ). get_or c.args.self.now.unseen.items n true ≡ false) number.value (get_or_default c.args.self.now.unseen.items c.pair_number-number.result true false (below_size found.size number.below) ∙ subst (λ (b : Bool). get_or c.args.self.now.unseen.items c.pair_number-number.result b ≡ b) c.if-index.false (sym c.index.ensures)))
