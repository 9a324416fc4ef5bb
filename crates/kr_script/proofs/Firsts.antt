-- The first of some faults, and bytes that are no document.
use Rattle.std.proofs.Common.{◌≡◌, ℕ, ◌<◌, List, [], ◌∷◌, ◌++◌, length, Option, Some, None, Err, true, false, refl, arith}
use Rattle.std.specs.Prelude.{IsUtf8, IfSome, if◌then◌else◌}
use Rattle.std.specs.Str.{is_utf8}
use Rattle.std.proofs.lemmas.Str.{IsUtf8-from_is_utf8}
use Rattle.serde_json.specs.Data.{Data}
use Rattle.serde_json.specs.Read.{read}
use Rattle.serde_json.proofs.OnLiterals.{serde_json_on_literals}
use Rattle.kr_model.specs.Firsts.{first}
use Rattle.kr_script.specs.Faults.{Fault, Tells, fault_of, not_json}
use Rattle.kr_script.specs.Reading.{Gives, unless_faulty, reading_of, document}
use Rattle.kr_script.specs.Script.{Script}
use Rattle.kr_script.specs.declared.faults.ScriptFault.{ScriptFault}

-- the first of some faults stays the first where more follow
pub first_append : (fs gs : List Fault) (f : Fault) → first fs ≡ Some f → first (fs ++ gs) ≡ Some f
first_append [] gs f h = cc
first_append (g ∷ fs) gs f h = h

-- bytes that are refused as JSON, or aren't text, are no document
pub no_document : (bytes : List ℕ) → (IsUtf8 bytes → read bytes ≡ None) → reading_of (document bytes) ≡ Err not_json
no_document bytes h =
    elim (is_utf8 bytes) as (λ b. is_utf8 bytes ≡ b → reading_of (if b then read bytes else None) ≡ Err not_json) [
      | true ↦ λ e. rw (h (IsUtf8-from_is_utf8 bytes e))
      | false ↦ λ e. refl
    ] refl

nothing_read : read [] ≡ None
unfolding serde_json_on_literals
nothing_read = refl

-- where a document was read, there were bytes
pub some_read : (bytes : List ℕ) (d : Data) → read bytes ≡ Some d → 0 < length bytes
some_read [] d h = let n = nothing_read in cc
some_read (b ∷ bs) d h = omega arith

tells_within : (o : Option Fault) (fs gs : List Fault) (s : Script) → IfSome o (λ f. first fs ≡ Some f) → IfSome o (λ f. unless_faulty (first (fs ++ gs)) s ≡ Err f)
tells_within None fs gs s h = tt
tells_within (Some f) fs gs s h = rw (first_append fs gs f h)

-- what tells the first of some faults gives the reading of a document that has these and more
pub tells_more : (e : ScriptFault) (fs gs : List Fault) (s : Script) → Tells e fs → Gives (Err e) (unless_faulty (first (fs ++ gs)) s)
tells_more e fs gs s h = tells_within (fault_of e) fs gs s h
