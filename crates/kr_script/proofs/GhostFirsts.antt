-- What the first fault of a document gives, and bytes that are no document.
use Rattle.std.proofs.Common.{◌≡◌, ℕ, List, ◌++◌, Option, Some, None, Err, true, false, refl}
use Rattle.std.specs.Prelude.{IsUtf8, IfSome, if◌then◌else◌}
use Rattle.std.specs.Str.{is_utf8}
use Rattle.std.proofs.lemmas.Str.{IsUtf8-from_is_utf8}
use Rattle.serde_json.specs.Read.{read}
use Rattle.kr_model.specs.Firsts.{first}
use Rattle.kr_script.specs.Faults.{Fault, Tells, fault_of, not_json}
use Rattle.kr_script.specs.Reading.{document}
use Rattle.kr_script.specs.declared.faults.ScriptFault.{ScriptFault}
use Rattle.kr_script.proofs.Firsts.{first_append}
use Rattle.kr_script.specs.GhostReading.{Gives, unless_faulty, reading_of}
use Rattle.kr_script.specs.GhostScript.{GhostScript}

-- bytes that are refused as JSON, or aren't text, are no document
pub no_document : (bytes : List ℕ) → (IsUtf8 bytes → read bytes ≡ None) → reading_of (document bytes) ≡ Err not_json
no_document bytes h =
    elim (is_utf8 bytes) as (λ b. is_utf8 bytes ≡ b → reading_of (if b then read bytes else None) ≡ Err not_json) [
      | true ↦ λ e. rw (h (IsUtf8-from_is_utf8 bytes e))
      | false ↦ λ e. refl
    ] refl

tells_within : (o : Option Fault) (fs gs : List Fault) (s : GhostScript) → IfSome o (λ f. first fs ≡ Some f) → IfSome o (λ f. unless_faulty (first (fs ++ gs)) s ≡ Err f)
tells_within None fs gs s h = tt
tells_within (Some f) fs gs s h = rw (first_append fs gs f h)

-- what tells the first of some faults gives the reading of a document that has these and more
pub tells_more : (e : ScriptFault) (fs gs : List Fault) (s : GhostScript) → Tells e fs → Gives (Err e) (unless_faulty (first (fs ++ gs)) s)
tells_more e fs gs s h = tells_within (fault_of e) fs gs s h
