-- What may be had for a word that names a file. What files may give is a relation of words to bytes, or to none.
use Rattle.std.specs.Prelude.{◌≡◌, ◌⊎◌, ◌↔◌, ℕ, List, Option, Some, None, take}
use Rattle.std.specs.declared.io.ErrorKind.{ErrorKind}
use Rattle.std.specs.declared.io.ErrorKind.TheVariants as kind
use Rattle.kr_cli.specs.declared.files.FileFault.{FileFault}
use Rattle.kr_cli.specs.declared.files.FileFault.TheVariants.{Missing, Denied, Directory, Memory}
use Rattle.kr_cli.specs.Words.{IsNoFile}

-- What is told of an error of this kind: whether the file is missing, may not be read, is a directory, or memory ran out.
abbrev pub IsFaultOf : ErrorKind → FileFault → Type 0
IsFaultOf k f = ((f ≡ Missing) ↔ (k ≡ kind.NotFound)) × (((f ≡ Denied) ↔ (k ≡ kind.PermissionDenied)) × (((f ≡ Directory) ↔ (k ≡ kind.IsADirectory)) × ((f ≡ Memory) ↔ (k ≡ kind.OutOfMemory))))

-- These bytes may be read of the file that a word names: the whole of it, or its first `most` where it has more.
abbrev pub MayBeRead : ℕ → (List ℕ → Option (List ℕ) → Type 0) → List ℕ → List ℕ → Type 0
MayBeRead most may_give word bytes = (file : List ℕ) × (may_give word (Some file) × (bytes ≡ take most file))

-- These bytes, or none, may be had for a word: none for a word that begins with `@`.
abbrev pub MayBeHad : ℕ → (List ℕ → Option (List ℕ) → Type 0) → List ℕ → Option (List ℕ) → Type 0
MayBeHad most may_give word (Some bytes) = (IsNoFile word → ⊥) × MayBeRead most may_give word bytes
MayBeHad most may_give word None = IsNoFile word ⊎ may_give word None

-- These bytes, or none, may be had for the word of a table: one more than the longest table has shows that a file is too long.
abbrev pub MayBeTable : (List ℕ → Option (List ℕ) → Type 0) → List ℕ → Option (List ℕ) → Type 0
MayBeTable may_give word had = MayBeHad 65537 may_give word had

-- These bytes, or none, may be had for the word of a script.
abbrev pub MayBeScript : (List ℕ → Option (List ℕ) → Type 0) → List ℕ → Option (List ℕ) → Type 0
MayBeScript may_give word had = MayBeHad 16777217 may_give word had
