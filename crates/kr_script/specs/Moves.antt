-- What a step of a script is that may have purges: the move that a value reads as.
use Rattle.std.specs.Prelude.{ℕ, ◌==◌, ◌&&◌, codes, List, true, bytes_eq, if◌then◌else◌, Option, Some, None, option_map, option_and_then}
use Rattle.serde_json.specs.Data.{Data}
use Rattle.kr_script.specs.Json.{length_of, number_at, word_at}
use Rattle.kr_script.specs.Steps.{event_of}
use Rattle.kr_ghost.specs.declared.moves.Move.{Move}
use Rattle.kr_ghost.specs.declared.moves.Move.TheVariants.{Attempt, Purge}

-- The key of a purge with this word and so many elements.
abbrev pub purge_by : Data → ℕ → List ℕ → Option ℕ
purge_by d len word = if len == 2 && bytes_eq word (codes "purge") then number_at 1 d else None

-- The key of a purge: an array of the word and a key, without a transaction.
abbrev pub purge_of : Data → Option ℕ
purge_of d = option_and_then (λ len. option_and_then (purge_by d len) (word_at 0 d)) (length_of d)

-- The purge of this key, where there is one, and else the step.
abbrev pub purge_or : Option ℕ → Option Move → Option Move
purge_or None m = m
purge_or (Some k) m = Some (Purge k)

-- The move of a step in a script of this format: the step of a transaction, with updates and backs in formats 2 and 3; or a purge, in format 3 alone.
abbrev pub move_of : ℕ → Data → Option Move
move_of format d =
    if format == 3 then purge_or (purge_of d) (option_map Attempt (event_of true d))
    else option_map Attempt (event_of (format == 2) d)
