-- Values that are no object, and bytes that are no value.
use Rattle.std.proofs.Common.{◌≡◌, ◌≢◌, ℕ, codes, ne_eqb, option_and_then, nat_lt, List, [], ◌∷◌, Some, None, Err, true, false, refl}
use Rattle.std.specs.Prelude.{IsUtf8, if◌then◌else◌}
use Rattle.std.specs.Str.{is_utf8}
use Rattle.std.proofs.lemmas.Str.{IsUtf8-from_is_utf8}
use Rattle.serde_json.specs.Data.{Data, null, boolean, number, string, array, object, Items, Members}
use Rattle.serde_json.specs.Events.{items_len, members_len}
use Rattle.serde_json.specs.Find.{get, as_object}
use Rattle.serde_json.specs.Read.{read}
use Rattle.kr_model.specs.Firsts.{first}
use Rattle.kr_script.specs.declared.faults.ScriptFault.{ScriptFault}
use Rattle.kr_script.specs.declared.faults.ScriptFault.TheVariants as told_as
use Rattle.kr_script.specs.Faults.{Tells, opening_faults}
use Rattle.kr_script.specs.Json.{list_in}
use Rattle.kr_script.specs.Reading.{document}
use Rattle.kr_trace_lines.specs.declared.faults.LineFault.{LineFault}
use Rattle.kr_trace_lines.specs.declared.faults.LineFault.TheVariants as fault
use Rattle.kr_trace_lines.specs.Reading.{fault_of_opening, is_empty, line_read, order_in, pairs_faults}
use Rattle.kr_trace_lines.specs.Replies.{each_of, txn_of}

-- What is no object has no member.
pub no_member : (k : List ℕ) (d : Data) → as_object d ≡ None → get k d ≡ None
no_member k null h = refl
no_member k (boolean b) h = refl
no_member k (number n) h = refl
no_member k (string s) h = refl
no_member k (array ds) h = refl
no_member k (object ms) h = cc

-- An order is read where its object has one member, and else none is.
pub order_many : (d : Data) (ms : Members) (n : ℕ) → as_object d ≡ Some ms → members_len ms ≡ n → n ≢ 1 → order_in d ≡ None
order_many d ms n o len ne = rw (o, len, ne_eqb n 1 ne) refl

pub order_one : (d : Data) (ms : Members) (n : ℕ) → as_object d ≡ Some ms → members_len ms ≡ n → n ≡ 1 → order_in d ≡ option_and_then (each_of txn_of) (list_in (codes "order") d)
order_one d ms n o len one = rw (o, len, one) refl

not_empty : {A : Type 0} (fs : List A) (f : A) → first fs ≡ Some f → is_empty fs ≡ false
not_empty [] f h = cc
not_empty (g ∷ fs) f h = refl

-- What is told of an opening with a fault.
pub opening_told : (e : ScriptFault) (f : LineFault) (ds : Items) → nat_lt (items_len ds) 100001 ≡ true → Tells e (opening_faults 0 None ds) → f ≡ fault_of_opening e → f ≢ fault.Memory
    → first (pairs_faults ds) ≡ Some f
opening_told told_as.Memory f ds few h is ne = absurd (ne is)
opening_told _ f ds few h is ne = rw (few, is, not_empty _ _ h) refl

-- Bytes that are refused as JSON, or aren't text, are no value.
pub no_value : (bytes : List ℕ) → (IsUtf8 bytes → read bytes ≡ None) → line_read (document bytes) ≡ Err fault.NotJson
no_value bytes h =
    elim (is_utf8 bytes) as (λ b. is_utf8 bytes ≡ b → line_read (if b then read bytes else None) ≡ Err fault.NotJson) [
      | true ↦ λ e. rw (h (IsUtf8-from_is_utf8 bytes e)) refl
      | false ↦ λ e. refl
    ] refl
