use Rattle.std.proofs.Common.{Some, ap, sym, ◌∙◌, option_map, option_copied}
use Rattle.kr_model.specs.Map.{at}
use Rattle.kr_model.specs.Step.{name_to_look}
use Rattle.kr_model.specs.declared.Step.{Step}
use Rattle.kr_txn.specs.Standings.{scan_of}
use Rattle.kr_touch.specs.Parts.{op_of_touch}
use Rattle.kr_touch.specs.Attempts.{attempt_of, look_of}
use Rattle.kr_touch.proofs.sights.sight_of.Goals as goal

pub returns-in-Scan-clause-attempt : goal.returns-in-Scan-clause-attempt
returns-in-Scan-clause-attempt g c =
    let m = g.I.Ordered.map c.args.index.now in
    ap (λ x. attempt_of m (option_map scan_of (option_copied c.args.scan)) (op_of_touch x)) c.in-Scan.is
    ∙ ap (λ (a : Step). Some a) (sym (c.of_look.ensures.attempt m (at m c.in-Scan.lo) c.first_pair.ensures))

pub returns-in-Scan-clause-sight : goal.returns-in-Scan-clause-sight
returns-in-Scan-clause-sight g c =
    let m = g.I.Ordered.map c.args.index.now in
    c.of_look.ensures.sight m (at m c.in-Scan.lo) c.first_pair.ensures

pub returns-in-Some-clause-attempt : goal.returns-in-Some-clause-attempt
returns-in-Some-clause-attempt g c =
    let m = g.I.Ordered.map c.args.index.now in
    ap (λ x. attempt_of m (option_map scan_of (option_copied c.args.scan)) (op_of_touch x)) c.in-Go.is
    ∙ ap (λ o. look_of m (option_map scan_of (option_copied o))) c.in-Some.is
    ∙ ap (λ (a : Step). Some a) (sym (c.of_look-in-Some.ensures.attempt m (name_to_look m (scan_of c.in-Some.scan.now)) c.next_pair.ensures))

pub returns-in-Some-clause-sight : goal.returns-in-Some-clause-sight
returns-in-Some-clause-sight g c =
    let m = g.I.Ordered.map c.args.index.now in
    c.of_look-in-Some.ensures.sight m (name_to_look m (scan_of c.in-Some.scan.now)) c.next_pair.ensures
