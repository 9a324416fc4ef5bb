-- Which causes blame an entry of a table, and the badges that say so.
use Rattle.std.specs.Prelude.{ℕ, Bool, false, ◌==◌, ◌&&◌, ◌+◌, List, [], ◌∷◌, ◌++◌, codes, decimal, if◌then◌else◌}
use Rattle.kr_change.specs.Changes.{is_same_place}
use Rattle.kr_change.specs.Every.{is_same_request}
use Rattle.kr_explain_causes.specs.declared.blame.Blame.{Blame}
use Rattle.kr_explain_causes.specs.declared.blame.Blame.TheVariants as blame
use Rattle.kr_explain_core.specs.declared.explanation.Explained.{Explained}
use Rattle.kr_view_table.specs.declared.badges.Entry.{Entry}
use Rattle.kr_view_table.specs.declared.badges.Entry.TheVariants as entry

-- An entry is to blame. A place is to blame for each request there.
abbrev pub blames : Blame → Entry → Bool
blames (blame.Pair requested held) (entry.Pair q h) = (requested == q) && (held == h)
blames (blame.Conversion held requested) (entry.Conversion h q) = (held == h) && (requested == q)
blames (blame.Place row side) (entry.Request r s asked) = is_same_place row side r s
blames (blame.Request row side asked) (entry.Request r s request) = is_same_place row side r s && is_same_request asked request
blames _ _ = false

-- The badge of the cause of a number: the number, as a link to the cause.
abbrev pub badge : ℕ → List ℕ
badge n = codes "<a href=\"#s" ++ (decimal n ++ (codes "\">" ++ (decimal n ++ codes "</a>")))

-- The badge of the cause of a number at an entry that it blames.
abbrev pub badge_at : Entry → ℕ → Blame → List ℕ
badge_at e n b = if blames b e then badge n else []

-- The badges at an entry of the causes that blame it, in their order. Their numbers are from n on.
abbrev pub badges : Entry → ℕ → List Explained → List ℕ
badges e n [] = []
badges e n (x ∷ xs) = badge_at e n x.cause.blame ++ badges e (n + 1) xs
