-- What an explanation says of the entries of a table.
use Rattle.std.specs.Prelude.{ℕ, Bool, false, not, List, []}
use Rattle.kr_decide.specs.Survey.{is_tested, is_asked}
use Rattle.kr_explain_core.specs.declared.explanation.Explained.{Explained}
use Rattle.kr_explain_core.specs.declared.explanation.Explanation.{Explanation}
use Rattle.kr_explain_core.specs.declared.explanation.Explanation.TheVariants as told

-- The causes of an explanation: none where all cases hold.
abbrev pub causes_of : Explanation → List Explained
causes_of (told.Accepted cases) = []
causes_of (told.Safe f) = f.causes.items
causes_of (told.Rejected f) = f.causes.items

-- By the survey no request that is tested in mode c comes beside another transaction's lock in mode h: a survey is made only where cases fail.
abbrev pub is_apart : Explanation → ℕ → ℕ → Bool
is_apart (told.Accepted cases) c h = false
is_apart (told.Safe f) c h = not (is_tested f.survey c h)
is_apart (told.Rejected f) c h = not (is_tested f.survey c h)

-- By the survey no transaction that holds mode h on a name comes to request mode q there.
abbrev pub is_unasked : Explanation → ℕ → ℕ → Bool
is_unasked (told.Accepted cases) h q = false
is_unasked (told.Safe f) h q = not (is_asked f.survey h q)
is_unasked (told.Rejected f) h q = not (is_asked f.survey h q)
