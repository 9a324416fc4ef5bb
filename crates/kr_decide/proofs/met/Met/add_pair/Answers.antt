use Rattle.std.proofs.Common.{length}
use Rattle.kr_model.specs.declared.Row.TheVariants as row
use Rattle.kr_decide.proofs.Marked.{nexts_on, done_on}
use Rattle.kr_decide.proofs.met.Met.add_pair.Goals as goal

pub add_once-requires-clause-done : goal.add_once-requires-clause-done
add_once-requires-clause-done g c = done_on (g.P.Protocol.table c.args.protocol.now) _ _ c.args.found.now.nexts.items c.args.done.now.items c.add_nexts.ensures.adds c.requires.done

pub returns-clause-marks : goal.returns-clause-marks
returns-clause-marks g c =
    let p = g.P.Protocol.table c.args.protocol.now in
    let nexts = c.args.found.now.nexts.items in
    record {
      most = c.add_once.ensures.marks;
      inserts = nexts_on p _ _ nexts (length nexts) row.Insert c.args.pair.own c.args.pair.other c.add_once.ensures.adds c.add_nexts.ensures.marks;
    }

pub add_nexts-requires : goal.add_nexts-requires
add_nexts-requires g c = record { sound = c.requires.sound; going = c.requires.going; own = c.requires.own; other = c.requires.other; beside = c.requires.beside }

pub add_once-requires-clause-sound : goal.add_once-requires-clause-sound
add_once-requires-clause-sound g c = let adds = c.add_nexts.ensures.adds in adds.sound

pub add_once-requires-clause-going : goal.add_once-requires-clause-going
add_once-requires-clause-going g c = c.requires.going

pub add_once-requires-clause-own : goal.add_once-requires-clause-own
add_once-requires-clause-own g c = c.requires.own

pub add_once-requires-clause-other : goal.add_once-requires-clause-other
add_once-requires-clause-other g c = c.requires.other

pub add_once-requires-clause-beside : goal.add_once-requires-clause-beside
add_once-requires-clause-beside g c = c.requires.beside
