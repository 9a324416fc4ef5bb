use Rattle.std.proofs.Common.{◌≡◌, ◌++◌, length, take, drop, ◌∙◌, ap, arith}
use Rattle.std.proofs.lemmas.Grind.{common_steps}
use Rattle.std.proofs.lemmas.List.{take_at}
use Rattle.kr_txn.specs.EndedNumbers.{union}
use Rattle.kr_txn.proofs.Lists.{if_ok}
use Rattle.kr_txn.proofs.Unions.{ended-merged, written_over}
use Rattle.kr_txn.proofs.ended.settle.Goals as goal

pub returns-clause-ended : goal.returns-clause-ended
returns-clause-ended c =
    let ys = c.args.settled.now.items in
    let xs = c.args.recent.now.items in
    let both = c.extend_from_slice.new.self.items in
    let many = c.extend_from_slice.new.self.len in
    let first = c.len-first.result in
    let zs = c.merge.new.places in
    let ok = c.extend_from_slice.ensures.succeeds (omega (arith, c.as_slice.ensures.len, c.requires.room)) in
    let whole : both ≡ ys ++ xs = if_ok c.extend_from_slice.result both (ys ++ c.as_slice.result.now) ys ok c.extend_from_slice.ensures.items ∙ ap (λ l. ys ++ l) c.as_slice.ensures.value in
    let front : take first c.as_mut_slice.result.now ≡ ys = ap (take first) (c.as_mut_slice.ensures.value ∙ whole) ∙ take_at ys xs first (omega arith) in
    let merged : zs ≡ union xs ys = c.merge.ensures ∙ ap (λ l. union l (take first c.as_mut_slice.result.now)) c.as_slice-2.ensures.value ∙ ap (union xs) front in
    let same : length zs ≡ length both = c.merge.auto.places ∙ ap length c.as_mut_slice.ensures.value in
    let over : take many (zs ++ drop (length zs) both) ≡ zs = written_over zs both many same (omega arith) in
    ended-merged (take many (zs ++ drop (length zs) both)) ys xs c.clear.new.self.items c.requires.ended (over ∙ merged) c.clear.ensures.items

pub returns-clause-numbers : goal.returns-clause-numbers
returns-clause-numbers c = grind (arith, common_steps)

pub returns-clause-len : goal.returns-clause-len
returns-clause-len c = grind (arith, common_steps)

pub returns-clause-place : goal.returns-clause-place
returns-clause-place c = grind (arith, common_steps)

pub returns-clause-capacity : goal.returns-clause-capacity
returns-clause-capacity c = grind (arith, common_steps)
