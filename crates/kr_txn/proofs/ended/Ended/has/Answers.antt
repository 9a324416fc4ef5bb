use Rattle.std.specs.List.{list_any}
use Rattle.std.specs.Prelude.{ℕ, Bool, ◌==◌, ◌||◌}
use Rattle.std.proofs.Common.{sym, ◌∙◌, ap}
use Rattle.kr_txn.specs.EndedNumbers.{EndedNumbers}
use Rattle.kr_txn.proofs.Unions.{any-union}
use Rattle.kr_txn.proofs.ended.Ended.has.Goals as goal

pub returns-then-is_in : goal.returns-then-is_in
returns-then-is_in c =
    let xs = c.self.inside.recent.items in
    let ys = c.self.inside.settled.items in
    let among : ℕ → Bool = λ u. u == c.args.txn in
    c.if-is_in.true
    ∙ sym (ap (λ b. b || list_any among ys) (ap (list_any among) (sym c.deref.ensures.value) ∙ sym c.is_in.ensures ∙ c.if-is_in.true))
    ∙ sym (any-union among xs ys)
    ∙ ap (λ (v : EndedNumbers). list_any among v.numbers) c.self.view_is

pub returns-else-is_in : goal.returns-else-is_in
returns-else-is_in c =
    let xs = c.self.inside.recent.items in
    let ys = c.self.inside.settled.items in
    let among : ℕ → Bool = λ u. u == c.args.txn in
    c.is_in-else-is_in.ensures ∙ ap (list_any among) c.deref-else-is_in.ensures.value
    ∙ sym (ap (λ b. b || list_any among ys) (ap (list_any among) (sym c.deref.ensures.value) ∙ sym c.is_in.ensures ∙ c.if-is_in.false))
    ∙ sym (any-union among xs ys)
    ∙ ap (λ (v : EndedNumbers). list_any among v.numbers) c.self.view_is
