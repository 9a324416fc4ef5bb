use Rattle.std.proofs.Common.{◌≡◌, subst, map, string_bytes}
use Rattle.std.specs.Prelude.{IfOk}
use Rattle.kr_table.specs.Reading.{asked_each}
use Rattle.kr_table.proofs.making.each_at.Goals as goal

pub returns : goal.returns
returns c = subst (λ d. IfOk c.asked_each.result (λ v. v.items ≡ asked_each (map string_bytes c.args.modes.now) d)) c.clauses_of.ensures c.asked_each.ensures
