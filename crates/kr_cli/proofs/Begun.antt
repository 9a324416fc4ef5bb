-- A file of which only the beginning is read has the fault that the whole has: it is too long.
use Rattle.std.proofs.Common.{◌≡◌, ◌+◌, ◌≤◌, ℕ, List, Bool, true, false, nat_lt, length, take, Option, Err, refl, ap, sym, arith}
use Rattle.std.specs.Prelude.{if◌then◌else◌}
use Rattle.std.proofs.lemmas.List.{take_all, length-take-le}
use Rattle.std.proofs.lemmas.Bool.Decides.{nat_tests}
use Rattle.kr_table.specs.Reading as table
use Rattle.kr_table.specs.Faults as table_fault
use Rattle.kr_script.specs.Reading as script
use Rattle.kr_script.specs.Faults as script_fault
use Rattle.kr_cli.specs.Files.{MayBeRead}

-- what is told of bytes, of which there may be so many
abbrev pub at_most : {A : Type 0} → ℕ → A → (List ℕ → A) → List ℕ → A
at_most most long of bytes = if nat_lt most (length bytes) then long else of bytes

by_length : {A : Type 0} (most : ℕ) (long : A) (of : List ℕ → A) (file : List ℕ) (b : Bool) → nat_lt most (length file) ≡ b → at_most most long of (take (most + 1) file) ≡ at_most most long of file
by_length most long of file true e =
    let more : most + 1 ≤ length file = grind (arith, nat_tests) in
    let whole : nat_lt most (length (take (most + 1) file)) ≡ true = rw (length-take-le (most + 1) file more) (grind (arith, nat_tests)) in
    rw (e) (rw (whole) refl)
by_length most long of file false e =
    let few : length file ≤ most + 1 = grind (arith, nat_tests) in
    ap (λ bytes. at_most most long of bytes) (take_all (most + 1) file few)

pub begun : {A : Type 0} (most : ℕ) (long : A) (of : List ℕ → A) (file : List ℕ) → at_most most long of (take (most + 1) file) ≡ at_most most long of file
begun most long of file = by_length most long of file (nat_lt most (length file)) refl

-- a script's file reads as what is read of it
pub script_begun : (file : List ℕ) → script.reading (take 16777217 file) ≡ script.reading file
script_begun file = begun 16777216 (Err script_fault.too_long) (λ bytes. script.reading_of (script.document bytes)) file

-- and a table's file does
pub table_begun : (file : List ℕ) → table.reading (take 65537 file) ≡ table.reading file
table_begun file = begun 65536 (Err table_fault.too_long) (λ bytes. table.reading_of (table.document bytes)) file

-- what is read of a file that may give anything is no more than is wanted
pub all_read : (most : ℕ) (word bytes : List ℕ) → length bytes ≤ most → MayBeRead most (λ (w : List ℕ) (o : Option (List ℕ)). Unit {0}) word bytes
all_read most word bytes h = (bytes, (tt, sym (take_all most bytes h)))
