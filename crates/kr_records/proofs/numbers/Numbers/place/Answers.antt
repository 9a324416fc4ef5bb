use Rattle.std.proofs.Common.{◌≡◌, ℕ, List, Option, Some, None, is_some, true, ap, ◌∙◌, sym, subst, refl, Bor}
use Rattle.std.specs.Option.{IsSome, option_copied}
use Rattle.kr_records.specs.declared.numbers.Number.{Number}
use Rattle.kr_records.specs.Numbers.{begun_by, was_begun, IsPlace}
use Rattle.kr_records.proofs.Begun.{found_begun, is_place}
use Rattle.kr_records.proofs.numbers.Numbers.place.Goals as goal

copied : (o : Option (Bor ℕ)) → is_some (option_copied o) ≡ true → IsSome o
copied (Some x) is = refl
copied None is = absurd (cc)

pub unwrap-requires : goal.unwrap-requires
unwrap-requires c =
    let ns = c.self.inside.list.items in
    let begun : was_begun (begun_by ns) c.args.txn ≡ true = ap (λ (v : List Number). was_begun (begun_by v) c.args.txn) c.self.view_is ∙ c.requires in
    let there = ap is_some c.get.ensures.value ∙ found_begun c.self.inside.places ns c.args.txn c.self.invariant ∙ begun in
    copied c.get.result there

pub returns : goal.returns
returns c =
    let ns = c.self.inside.list.items in
    let at = sym c.get.ensures.value ∙ ap option_copied c.unwrap.ensures in
    subst (λ (v : List Number). IsPlace v c.args.txn c.unwrap.result.now) c.self.view_is (is_place c.self.inside.places ns c.args.txn c.unwrap.result.now c.self.invariant at)
