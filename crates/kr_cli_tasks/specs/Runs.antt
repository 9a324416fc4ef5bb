-- What is written of a script's run.
use Rattle.std.specs.Prelude.{ℕ, List, ◌++◌, [], ◌∷◌, map}
use Rattle.kr_model.specs.Protocol.{Protocol}
use Rattle.kr_model.specs.State.{start}
use Rattle.kr_model.specs.Run.{Trace, run, replies_of, programs}
use Rattle.kr_model.specs.Serial.{AreSerial}
use Rattle.kr_judge.specs.Verdicts.{verdict_of_run}
use Rattle.kr_script.specs.Script.{Script}
use Rattle.kr_report.specs.Report.{run_text}

-- The run of a script under a protocol.
abbrev pub run_of : Protocol → Script → Trace
run_of p s = run p (start s.opening) s.steps

-- The report of a script's run under a protocol whose modes have these names, with that run's verdict.
abbrev pub report_text : Protocol → List (List ℕ) → Script → List ℕ
report_text p names s =
    let r = run_of p s in
    run_text names r.state.map r.state.locks (replies_of r.history) (map (λ a. a.0) r.state.active) (verdict_of_run p s.opening s.steps)

-- The same with a line feed.
abbrev pub report_line : Protocol → List (List ℕ) → Script → List ℕ
report_line p names s = report_text p names s ++ 10 ∷ []

-- The transactions that commit in a script's run under a protocol are serializable.
abbrev pub IsSerialScript : Protocol → Script → Type 0
IsSerialScript p s = AreSerial s.opening (programs (run_of p s).history)
