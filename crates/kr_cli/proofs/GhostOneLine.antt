-- A line that says why a word names no table, with ghosts or without, has no line feed.
use Rattle.std.specs.Prelude.{◌≡◌, ℕ, List, [], ◌∷◌, Option}
use Rattle.std.proofs.Common.{inl, inr, subst, sym}
use Rattle.kr_cli.specs.Lines.{HasNoLineFeed, told_line}
use Rattle.kr_cli.proofs.OneLine.{told_has_no_line_feed}
use Rattle.kr_cli.specs.NamedTables.{TellsNone}
use Rattle.kr_cli.specs.GhostScripts.{TellsNoGhostScript, TellsFirstGhost}

told_none : (word what line : List ℕ) → line ≡ told_line word what → HasNoLineFeed line
told_none word what line is = subst HasNoLineFeed (sym is) (told_has_no_line_feed word what)

pub none_in_none : (may_give : List ℕ → Option (List ℕ) → Type 0) (word line : List ℕ) → TellsNone may_give word line → HasNoLineFeed line
none_in_none may_give word line (inl (none, is)) = told_none word _ line is
none_in_none may_give word line (inr (bytes, (had, inl (three, (f, (is_fault, is)))))) = told_none word _ line is
none_in_none may_give word line (inr (bytes, (had, inr (other, (f, (is_fault, is)))))) = told_none word _ line is

-- so has one that says why a word names no script that may have purges, or why the first of several names none
pub none_in_no_ghost_script : (may_give : List ℕ → Option (List ℕ) → Type 0) (word line : List ℕ) → TellsNoGhostScript may_give word line → HasNoLineFeed line
none_in_no_ghost_script may_give word line (inl (none, is)) = told_none word _ line is
none_in_no_ghost_script may_give word line (inr (bytes, (had, (f, (is_fault, is))))) = told_none word _ line is

pub none_in_first_ghost : (may_give : List ℕ → Option (List ℕ) → Type 0) (words : List (List ℕ)) (line : List ℕ) → TellsFirstGhost may_give words line → HasNoLineFeed line
none_in_first_ghost may_give [] line tells = absurd tells
none_in_first_ghost may_give (w ∷ ws) line (inl tells) = none_in_no_ghost_script may_give w line tells
none_in_first_ghost may_give (w ∷ ws) line (inr (names, tells)) = none_in_first_ghost may_give ws line tells
