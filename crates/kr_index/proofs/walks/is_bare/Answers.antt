use Rattle.std.proofs.Common.{◌+◌, ◌<◌, ◌≤◌, arith, sym, ap, subst, get_or, length, false}
use Rattle.std.proofs.lemmas.List.{get_or_default}
use Rattle.std.proofs.lemmas.Bool.Decides.{nat_tests}
use Rattle.kr_index.specs.declared.stretches.Stretch.{Stretch}
use Rattle.kr_index.specs.Slots.{pairs_of}
use Rattle.kr_index.proofs.SlotLaws.{pairs_are_map, t_of}
use Rattle.kr_index.proofs.SkipLaws.{bare_at_end, bare_below}
use Rattle.kr_index.proofs.walks.is_bare.Goals as goal

pub returns-in-End : goal.returns-in-End
returns-in-End c _ =
    let z : Stretch = record { from = 0; is_bare = false; slots = 0; present = 0 } in
    let ss = c.args.stretches.now in
    bare_at_end ss (pairs_of c.args.slots.now.entries) c.args.place (get_or ss c.args.place z).from (λ d. ap (λ (x : Stretch). x.from) (get_or_default ss c.args.place z d c.requires.place)) z (sym c.in-End.ensures)

pub returns-else-place-stretches : goal.returns-else-place-stretches
returns-else-place-stretches c is =
    let z : Stretch = record { from = 0; is_bare = false; slots = 0; present = 0 } in
    let ss = c.args.stretches.now in
    let next : c.args.place + 1 < length ss = omega (arith, c.requires.place) in
    let far : (get_or ss (c.args.place + 1) z).from ≤ c.in-Key.key = grind (arith, nat_tests) in
    bare_below ss (pairs_of c.args.slots.now.entries) c.args.place (get_or ss c.args.place z).from (λ d. ap (λ (x : Stretch). x.from) (get_or_default ss c.args.place z d c.requires.place)) z (t_of _ (pairs_are_map c.args.slots.now.entries c.requires.in_order)) c.in-Key.key (sym c.in-Key.ensures) next (λ d. subst (λ (x : Stretch). x.from ≤ c.in-Key.key) (get_or_default ss (c.args.place + 1) z d next) far)
