use Rattle.std.proofs.Common.{◌+◌, ℕ, List, Bor, map, take, rules, refl}
use Rattle.std.proofs.lemmas.List.{map_more}
use Rattle.kr_cli_tasks.proofs.GhostJudged.{none_judged, judged_more, first_none}
use Rattle.kr_cli_tasks.proofs.ghost_runs.judged.Goals as goal

pub loop-word-init : goal.loop-word-init
loop-word-init g c = record {
  judged = rw c.new-text.ensures.bytes (none_judged (g.F.Files.may_give c.args.files.now) (g.P.GhostProtocol.ghosts c.args.protocol.now));
  safe = λ safe. refl;
}

-- The words before this one name scripts, and it names none.
pub returns-in_err-is_serial-clause-fault : goal.returns-in_err-is_serial-clause-fault
returns-in_err-is_serial-clause-fault g c =
    let ends = first_none (g.F.Files.may_give c.args.files.now) (λ w. w.now) c.args.words.now c.loop-word.word-index _ c.loop-word.invariant.judged.scripts _ c.loop-word-test.true c.loop-word.invariant.judged.names c.in_err-is_serial.ensures.fault in
    search rules

pub loop-word-preserved : goal.loop-word-preserved
loop-word-preserved g c =
    let words = c.args.words.now in
    let i = c.loop-word.word-index in
    let f = λ (w : Bor (List ℕ)). w.now in
    record {
      judged = judged_more (g.F.Files.may_give c.args.files.now) (g.P.GhostProtocol.ghosts c.args.protocol.now) (map f (take i words)) (map f (take (i + 1) words)) _ _ _ c.loop-word.are_serial c.in_ok-is_serial.is_serial (map_more f words i _ c.loop-word-test.true) c.loop-word.invariant.judged c.in_ok-is_serial.ensures.line;
      safe = λ safe. rw (c.loop-word.invariant.safe safe, c.in_ok-is_serial.ensures.safe safe) refl;
    }
