-- The rules of a table, as they stand in its page.
use Rattle.std.specs.Prelude.{ℕ, Bool, false, ◌==◌, ◌+◌, List, [], ◌∷◌, ◌++◌, Option, Some, None, length, nat_lt, codes, filter, flat_map, if◌then◌else◌}
use Rattle.kr_model.specs.declared.Row.{Row}
use Rattle.kr_model.specs.declared.Row.TheVariants as row
use Rattle.kr_model.specs.declared.Side.{Side}
use Rattle.kr_model.specs.declared.Side.TheVariants.{Current, Next}
use Rattle.kr_model.specs.declared.Span.{Span}
use Rattle.kr_model.specs.declared.Span.TheVariants.{Instant, Commit}
use Rattle.kr_model.specs.ModeNames.{name_of}
use Rattle.kr_model.specs.Protocol.{Protocol}
use Rattle.kr_model.specs.Covers.{modes_or_none}
use Rattle.kr_view_scenes.specs.Escape.{escaped}
use Rattle.kr_explain_text.specs.Lists.{modes_listed}
use Rattle.kr_model.specs.Words.{row_word}
use Rattle.kr_explain_core.specs.declared.explanation.Explained.{Explained}
use Rattle.kr_view_table.specs.declared.badges.Entry.TheVariants as entry
use Rattle.kr_view_table.specs.declared.rules.TheConstants.{RULES}
use Rattle.kr_change.specs.Every.{is_same_request}
use Rattle.kr_view_table.specs.Badges.{badges}

-- The rows of a table: that of an update only where p offers updates.
abbrev pub offered : Protocol → List Row
offered p = if p.updates then row.FetchHit ∷ row.FetchMiss ∷ row.ScanKey ∷ row.ScanStop ∷ row.Insert ∷ row.Delete ∷ row.Update ∷ [] else row.FetchHit ∷ row.FetchMiss ∷ row.ScanKey ∷ row.ScanStop ∷ row.Insert ∷ row.Delete ∷ []

-- What an operation does that has a row.
abbrev pub meaning : Row → List ℕ
meaning row.FetchHit = codes "fetch of a present key"
meaning row.FetchMiss = codes "fetch of an absent key"
meaning row.ScanKey = codes "scan, at a key in its range"
meaning row.ScanStop = codes "scan, past its range"
meaning row.Insert = codes "insert of an absent key"
meaning row.Delete = codes "delete of a present key"
meaning row.Update = codes "update of a present key"

-- A request: its mode, and how long the lock is held.
abbrev pub request_words : List (List ℕ) → Option (ℕ × Span) → List ℕ
request_words names None = codes "no lock"
request_words names (Some (m, Instant)) = codes "<b>" ++ (escaped (name_of names m) ++ codes "</b> at an instant")
request_words names (Some (m, Commit)) = codes "<b>" ++ (escaped (name_of names m) ++ codes "</b> to commit")

-- The own modes on the next name that lead to a request, no lock among them.
abbrev pub owns_of : Protocol → Row → Side → Option (ℕ × Span) → List ℕ
owns_of p r s asked = filter (λ o. is_same_request (p.ask r s o) asked) (modes_or_none p)

-- The condition on the own mode; none where all own modes lead to the request.
abbrev pub where_words : Protocol → List (List ℕ) → List ℕ → List ℕ
where_words p names owns = if nat_lt p.count (length owns) then [] else codes " where the own mode on the next key is " ++ escaped (modes_listed names false owns)

-- A clause: a request, its condition, and badges.
abbrev pub clause_words : Protocol → List (List ℕ) → Option (ℕ × Span) → List ℕ → List ℕ → List ℕ
clause_words p names asked owns badges = codes "<p>" ++ (request_words names asked ++ (where_words p names owns ++ (badges ++ codes "</p>")))

-- A number is the first of a list.
abbrev pub is_first : ℕ → List ℕ → Bool
is_first o [] = false
is_first o (x ∷ xs) = x == o

-- The clause of the request that an own mode leads to, at the first of those that do.
abbrev pub clause_at : Protocol → List (List ℕ) → List Explained → Row → Side → ℕ → List ℕ
clause_at p names causes r s o =
    if is_first o (owns_of p r s (p.ask r s o))
    then clause_words p names (p.ask r s o) (owns_of p r s (p.ask r s o)) (badges (entry.Request r s (p.ask r s o)) 1 causes)
    else []

-- What a row requests at a side: a clause for each request.
abbrev pub side_cell : Protocol → List (List ℕ) → List Explained → Row → Side → List ℕ
side_cell p names causes r s = flat_map (clause_at p names causes r s) (modes_or_none p)

-- The row of an operation.
abbrev pub rule_row : Protocol → List (List ℕ) → List Explained → Row → List ℕ
rule_row p names causes r =
    codes "<tr class=\"rule\"><th scope=\"row\">" ++ (row_word r ++ (codes "<small>" ++ (meaning r ++ (codes "</small></th><td>"
    ++ (side_cell p names causes r Current ++ (codes "</td><td>" ++ (side_cell p names causes r Next ++ codes "</td></tr>\n")))))))

-- The rules: a row for each operation.
abbrev pub rules_words : Protocol → List (List ℕ) → List Explained → List ℕ
rules_words p names causes = RULES.now ++ (flat_map (rule_row p names causes) (offered p) ++ codes "</tbody></table></div>\n")
