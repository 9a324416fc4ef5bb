-- Members that stand twice in a JSON text.
use Rattle.std.specs.Prelude.{ℕ, List, IfSome}
use Rattle.json.specs.Json.{document}
use Rattle.json.specs.Strict.{HasUniqueKeys}

-- No object of the JSON value that the bytes are, if they are one, has two members of one name.
abbrev pub HasNoMemberTwice : List ℕ → Type 0
HasNoMemberTwice bytes = IfSome (document bytes) HasUniqueKeys
