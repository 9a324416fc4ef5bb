-- What is said of a whole table.
use Rattle.std.specs.Prelude.{ℕ, Bool, true, false, List, ◌++◌, ◌==◌, if◌then◌else◌, codes, decimal}

-- How many causes there are, as a sentence: up to nine in words.
abbrev pub causes_words : ℕ → List ℕ
causes_words n =
    if n == 1 then codes "One cause." else
    if n == 2 then codes "Two causes." else
    if n == 3 then codes "Three causes." else
    if n == 4 then codes "Four causes." else
    if n == 5 then codes "Five causes." else
    if n == 6 then codes "Six causes." else
    if n == 7 then codes "Seven causes." else
    if n == 8 then codes "Eight causes." else
    if n == 9 then codes "Nine causes." else
    decimal n ++ codes " causes."

-- The words that the text of an accepted table begins with.
abbrev pub accepted_words : ℕ → List ℕ
accepted_words cases = codes "accepted: all " ++ (decimal cases ++ codes " cases hold. Every run under this table is serializable in commit order.")

-- The words that the text of a table begins with that isn't safe, where a run is known that goes wrong, or where none is.
abbrev pub rejected_words : Bool → ℕ → ℕ → List ℕ
rejected_words true failed cases = codes "rejected: " ++ (decimal failed ++ (codes " of " ++ (decimal cases ++ codes " cases fail. ")))
rejected_words false failed cases = codes "not known to be safe: " ++ (decimal failed ++ (codes " of " ++ (decimal cases ++ codes " cases fail. ")))

-- The commands that run the schedule of a cause, of the table that a word names, behind an empty line.
abbrev pub command_words : List ℕ → List ℕ
command_words word =
    codes "\n\nTo replay the schedule of cause N:\n    kr explain " ++ (word ++ (codes " --script N >schedule.json\n    kr run " ++ (word ++ codes " schedule.json")))
