-- What is told at an ending: its line, and the usage behind words that aren't understood.
use Rattle.std.specs.Prelude.{◌≡◌, ℕ, List, Option}
use Rattle.std.specs.Io.KnownBytes.{Appends}
use Rattle.kr_sink.specs.Puts.{AppendsFront}
use Rattle.kr_sink.proofs.Grows.{appends_more, front_of_more, front_behind}
use Rattle.kr_cli.specs.declared.endings.Ending.{Ending}
use Rattle.kr_cli.specs.declared.endings.Ending.TheVariants.{NotUnderstood, Memory, Place, Output, Told}
use Rattle.kr_cli.specs.Endings.{ending_line, ending_text}

-- a prefix of the line is one of the whole
pub line_in_front : (a b : Option (List ℕ)) (usage : List ℕ) (e : Ending) → AppendsFront a b (ending_line e) → AppendsFront a b (ending_text usage e)
line_in_front a b usage NotUnderstood h = front_of_more a b (ending_line NotUnderstood) usage h
line_in_front a b usage Memory h = h
line_in_front a b usage Place h = h
line_in_front a b usage Output h = h
line_in_front a b usage (Told line) h = h

-- behind words that aren't understood the usage follows
pub usage_behind : (a b d : Option (List ℕ)) (usage : List ℕ) (e : Ending) → e ≡ NotUnderstood → Appends a b (ending_line e) → Appends b d usage → Appends a d (ending_text usage e)
usage_behind a b d usage NotUnderstood same h k = appends_more a b d (ending_line NotUnderstood) usage h k
usage_behind a b d usage Memory same h k = absurd (cc)
usage_behind a b d usage Place same h k = absurd (cc)
usage_behind a b d usage Output same h k = absurd (cc)
usage_behind a b d usage (Told line) same h k = absurd (cc)

-- or a prefix of it
pub usage_in_front : (a b d : Option (List ℕ)) (usage : List ℕ) (e : Ending) → e ≡ NotUnderstood → Appends a b (ending_line e) → AppendsFront b d usage → AppendsFront a d (ending_text usage e)
usage_in_front a b d usage NotUnderstood same h k = front_behind a b d (ending_line NotUnderstood) usage h k
usage_in_front a b d usage Memory same h k = absurd (cc)
usage_in_front a b d usage Place same h k = absurd (cc)
usage_in_front a b d usage Output same h k = absurd (cc)
usage_in_front a b d usage (Told line) same h k = absurd (cc)
