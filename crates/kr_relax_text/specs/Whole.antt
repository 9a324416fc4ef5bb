-- The text of the relaxations of a table.
use Rattle.std.specs.Prelude.{ℕ, ◌+◌, List, [], ◌∷◌, ◌++◌, Option, Some, None, codes, decimal}
use Rattle.kr_model.specs.Protocol.{Protocol}
use Rattle.kr_script.specs.Line.{line_text}
use Rattle.kr_change.specs.declared.change.Change.{Change}
use Rattle.kr_change.specs.ChangeNames.{change_words}
use Rattle.kr_change.specs.Edits.{edit_words}
use Rattle.kr_relax_text.specs.Steps.{last_words}
use Rattle.kr_relax_text.specs.declared.scripts.Relaxation.{Relaxation}
use Rattle.kr_relax_text.specs.declared.scripts.Shown.{Shown}

-- What a script shows, and the script as a line of JSON; or that there is none.
abbrev pub shown_words : Option Shown → List ℕ
shown_words None = codes "; no script is known"
shown_words (Some s) = codes ", among them " ++ (last_words s.events.items ++ (codes "\n   " ++ line_text (record { opening = s.opening.items; steps = s.events.items })))

-- How many requests it grants that are blocked, and a script.
unfoldable pub gain_words : Relaxation → List ℕ
gain_words r = codes "more granted: " ++ (decimal r.relaxed.width ++ shown_words r.script)

-- The name of a change, and the edit that makes it.
unfoldable pub named_edit : Protocol → List (List ℕ) → Change → List ℕ
named_edit p names c = change_words p names c ++ (codes "\n   " ++ edit_words p names c)

-- The relaxation of this number: its name, the edit that makes it, what it grants more, and a script.
unfoldable pub relaxation_text : Protocol → List (List ℕ) → ℕ → Relaxation → List ℕ
relaxation_text p names n r = decimal n ++ (codes ". " ++ (named_edit p names r.relaxed.change ++ (codes "\n   " ++ (gain_words r ++ codes "\n"))))

-- Relaxations, numbered from n.
abbrev pub text_from : Protocol → List (List ℕ) → ℕ → List Relaxation → List ℕ
text_from p names n [] = []
text_from p names n (r ∷ rs) = relaxation_text p names n r ++ text_from p names (n + 1) rs

-- The relaxations, numbered from 1, or that there are none.
abbrev pub relaxed_text : Protocol → List (List ℕ) → List Relaxation → List ℕ
relaxed_text p names [] = codes "tight: no single entry can be relaxed\n"
relaxed_text p names (r ∷ rs) = text_from p names 1 (r ∷ rs)
