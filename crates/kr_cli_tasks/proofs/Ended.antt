-- Why scripts aren't judged.
use Rattle.std.proofs.Common.{◌≡◌, ◌<◌, ℕ, zero, suc, List, [], ◌∷◌, ◌++◌, Option, Some, None, length, map, get_or, string_bytes, subst, ap, inl, inr, arith, length-append}
use Rattle.std.proofs.lemmas.List.{length-map}
use Rattle.kr_script.specs.declared.faults.ScriptFault.{ScriptFault}
use Rattle.kr_script.specs.Faults.{Fault, fault_of}
use Rattle.kr_cli.specs.declared.endings.Ending.{Ending}
use Rattle.kr_cli.specs.declared.endings.Ending.TheVariants.{NotUnderstood, Memory, Place, Output, Told}
use Rattle.kr_cli.specs.Endings.{MemoryOrTold}
use Rattle.kr_cli.specs.Files.{MayBeScript}
use Rattle.kr_cli.specs.Lines.{told_line, unreadable_line, script_fault_text}
use Rattle.kr_batch.specs.Names.{IsFirst, HasFault}
use Rattle.kr_cli_tasks.specs.Endings.{Unreported}
use Rattle.kr_cli_tasks.specs.Judges.{TellsFirst}

-- the word at a place is the one that stands behind as many
word_at : {N : Type 0} (bytes_of : N → List ℕ) (words : List N) (before rest : List (List ℕ)) (word : List ℕ) (place : ℕ) (other : N) → map bytes_of words ≡ before ++ word ∷ rest → length before ≡ place → bytes_of (get_or words place other) ≡ word
word_at bytes_of [] [] rest word place other split long = absurd (cc)
word_at bytes_of [] (b ∷ before) rest word place other split long = absurd (cc)
word_at bytes_of (w ∷ words) [] rest word zero other split long = cc
word_at bytes_of (w ∷ words) [] rest word (suc place) other split long = absurd (omega (arith, long))
word_at bytes_of (w ∷ words) (b ∷ before) rest word zero other split long = absurd (omega (arith, long))
word_at bytes_of (w ∷ words) (b ∷ before) rest word (suc place) other split long =
    let behind : map bytes_of words ≡ before ++ word ∷ rest = cc in
    word_at bytes_of words before rest word place other behind (omega (arith, long))

-- the file that the first names can't be read
pub first_unreadable : {N : Type 0} (may_give : List ℕ → Option (List ℕ) → Type 0) (bytes_of : N → List ℕ) (words : List N) (place : ℕ) (other : N) (e : Ending) → IsFirst (MayBeScript may_give) (map bytes_of words) place (λ word. MayBeScript may_give word None) → MemoryOrTold e (λ line. line ≡ unreadable_line (bytes_of (get_or words place other))) → Unreported (TellsFirst may_give (map bytes_of words)) e
first_unreadable may_give bytes_of words place other NotUnderstood first told = absurd told
first_unreadable may_give bytes_of words place other Memory first told = tt
first_unreadable may_give bytes_of words place other Place first told = absurd told
first_unreadable may_give bytes_of words place other Output first told = absurd told
first_unreadable may_give bytes_of words place other (Told line) (before, word, rest, ss, split, long, are, none) told =
    let P : List ℕ → Type 0 = λ w. string_bytes line ≡ unreadable_line w in
    let same : bytes_of (get_or words place other) ≡ word = word_at bytes_of words before rest word place other split long in
    (place, (before, word, rest, ss, split, long, are, inl (none, subst P same told)))

-- the bytes that may be had for the first are no script
pub first_faulty : {N : Type 0} (may_give : List ℕ → Option (List ℕ) → Type 0) (bytes_of : N → List ℕ) (words : List N) (place : ℕ) (other : N) (f : ScriptFault) (e : Ending) → (x : Fault) × ((fault_of f ≡ Some x) × IsFirst (MayBeScript may_give) (map bytes_of words) place (HasFault (MayBeScript may_give) x)) → MemoryOrTold e (λ line. line ≡ told_line (bytes_of (get_or words place other)) (script_fault_text f)) → Unreported (TellsFirst may_give (map bytes_of words)) e
first_faulty may_give bytes_of words place other f NotUnderstood first told = absurd told
first_faulty may_give bytes_of words place other f Memory first told = tt
first_faulty may_give bytes_of words place other f Place first told = absurd told
first_faulty may_give bytes_of words place other f Output first told = absurd told
first_faulty may_give bytes_of words place other f (Told line) (x, (is_x, (before, word, rest, ss, split, long, are, (bytes, (had, reads))))) told =
    let P : List ℕ → Type 0 = λ w. string_bytes line ≡ told_line w (script_fault_text f) in
    let same : bytes_of (get_or words place other) ≡ word = word_at bytes_of words before rest word place other split long in
    (place, (before, word, rest, ss, split, long, are, inr (bytes, (had, (f, ((x, (is_x, reads)), subst P same told))))))

-- that name is one of the words
pub faulty_within : {N : Type 0} (may_give : List ℕ → Option (List ℕ) → Type 0) (bytes_of : N → List ℕ) (words : List N) (place : ℕ) (f : ScriptFault) → (x : Fault) × ((fault_of f ≡ Some x) × IsFirst (MayBeScript may_give) (map bytes_of words) place (HasFault (MayBeScript may_give) x)) → place < length words
faulty_within may_give bytes_of words place f (x, (is_x, (before, word, rest, ss, split, long, are, has))) =
    omega (arith, ap length split, length-append before (word ∷ rest), length-map words bytes_of, long)
