-- Whether the answers of a part are serializable, in a sentence.
use Rattle.std.specs.Prelude.{ℕ, List, ◌++◌, codes, decimal}
use Rattle.kr_model.specs.declared.Reply.{Reply}
use Rattle.kr_explain_text.specs.Spoken.{reply_words, txns_words}
use Rattle.kr_trace_lines.specs.declared.observed.Observed.{Observed}
use Rattle.kr_trace_lines.specs.declared.verdict.TraceVerdict.{TraceVerdict}
use Rattle.kr_trace_lines.specs.declared.verdict.TraceVerdict.TheVariants as verdict
use Rattle.kr_trace_text.specs.Answered.{observed_words}

-- An answer, and the serial one.
abbrev pub answers_words : Observed → Reply → List ℕ
answers_words given serial =
    codes " was answered " ++ (observed_words given ++ (codes "; run serially it is answered " ++ (reply_words serial ++ codes ".")))

-- The first answer that isn't the serial one.
abbrev pub wrong_words : ℕ → ℕ → Observed → Reply → List ℕ
wrong_words t n given serial =
    codes "Not serializable in commit order: operation " ++ (decimal n ++ (codes " of T" ++ (decimal t ++ answers_words given serial)))

-- The verdict on a part.
abbrev pub verdict_words : TraceVerdict → List ℕ
verdict_words verdict.Serial = codes "Serializable in commit order."
verdict_words (verdict.SerialInOrder txns) = codes "Serializable in the order " ++ (txns_words txns ++ codes ".")
verdict_words (verdict.NotSerial t n given serial) = wrong_words t n given serial
verdict_words verdict.Unknown = codes "Not serializable in commit order, and not tried in all others: they are too many."
