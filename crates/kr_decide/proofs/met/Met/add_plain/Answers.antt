use Rattle.std.proofs.Common.{arith}
use Rattle.kr_model.specs.declared.Row.TheVariants as row
use Rattle.kr_model.specs.declared.Side.TheVariants.{Current, Next}
use Rattle.kr_model.specs.Safe.{free, start}
use Rattle.kr_decide.proofs.Marked.{adds_on, at_on, plain_marks}
use Rattle.kr_decide.proofs.met.Met.add_plain.Goals as goal

pub add_request-requires : goal.add_request-requires
add_request-requires g c = record { sound = c.requires.sound; own = c.requires.own; other = c.requires.other; next = omega arith; beside = c.requires.beside; alone = start }

pub add_request-requires-2 : goal.add_request-requires-2
add_request-requires-2 g c = record { sound = c.add_request.ensures.adds.sound; own = c.requires.own; other = c.requires.other; next = omega arith; beside = c.requires.beside; alone = start }

pub add_request-requires-3 : goal.add_request-requires-3
add_request-requires-3 g c = record { sound = c.add_request-2.ensures.adds.sound; own = c.requires.own; other = c.requires.other; next = omega arith; beside = c.requires.beside; alone = start }

pub add_request-requires-4 : goal.add_request-requires-4
add_request-requires-4 g c = record { sound = c.add_request-3.ensures.adds.sound; own = c.requires.own; other = c.requires.other; next = omega arith; beside = c.requires.beside; alone = start }

pub add_request-requires-5 : goal.add_request-requires-5
add_request-requires-5 g c = record { sound = c.add_request-4.ensures.adds.sound; own = c.requires.own; other = c.requires.other; next = omega arith; beside = c.requires.beside; alone = start }

pub add_request-requires-6 : goal.add_request-requires-6
add_request-requires-6 g c = record { sound = c.add_request-5.ensures.adds.sound; own = c.requires.own; other = c.requires.other; next = omega arith; beside = c.requires.beside; alone = start }

pub add_request-requires-7 : goal.add_request-requires-7
add_request-requires-7 g c = record { sound = c.add_request-6.ensures.adds.sound; own = c.requires.own; other = c.requires.other; next = omega arith; beside = c.requires.beside; alone = start }

pub returns-clause-adds : goal.returns-clause-adds
returns-clause-adds g c =
    let p = g.P.Protocol.table c.args.protocol.now in
    let by-2 = adds_on p _ _ _ c.add_request.ensures.adds c.add_request-2.ensures.adds in
    let by-3 = adds_on p _ _ _ by-2 c.add_request-3.ensures.adds in
    let by-4 = adds_on p _ _ _ by-3 c.add_request-4.ensures.adds in
    let by-5 = adds_on p _ _ _ by-4 c.add_request-5.ensures.adds in
    let by-6 = adds_on p _ _ _ by-5 c.add_request-6.ensures.adds in
    adds_on p _ _ _ by-6 c.add_request-7.ensures.adds

pub returns-clause-marks : goal.returns-clause-marks
returns-clause-marks g c =
    let p = g.P.Protocol.table c.args.protocol.now in
    let x = c.args.own in
    let y = c.args.other in
    let after-6 = c.add_request-7.ensures.adds in
    let after-5 = adds_on p _ _ _ c.add_request-6.ensures.adds after-6 in
    let after-4 = adds_on p _ _ _ c.add_request-5.ensures.adds after-5 in
    let after-3 = adds_on p _ _ _ c.add_request-4.ensures.adds after-4 in
    let after-2 = adds_on p _ _ _ c.add_request-3.ensures.adds after-3 in
    let after-1 = adds_on p _ _ _ c.add_request-2.ensures.adds after-2 in
    plain_marks p _ x y
    (at_on p _ _ row.FetchHit Current x y free after-1 c.add_request.ensures.marks)
    (at_on p _ _ row.FetchMiss Next x y free after-2 c.add_request-2.ensures.marks)
    (at_on p _ _ row.ScanKey Current x y free after-3 c.add_request-3.ensures.marks)
    (at_on p _ _ row.ScanStop Next x y free after-4 c.add_request-4.ensures.marks)
    (at_on p _ _ row.Insert Next x y free after-5 c.add_request-5.ensures.marks)
    (at_on p _ _ row.Delete Next x y free after-6 c.add_request-6.ensures.marks)
    c.add_request-7.ensures.marks
