use Rattle.std.proofs.Common.{◌≡◌, ◌∙◌, ap, ◌++◌, ◌∷◌, [], ℕ, List, decimal, string_bytes}
use Rattle.serde_json.specs.Data.{string}
use Rattle.serde_json.specs.Written.{compact_text}
use Rattle.kr_model.specs.ModeNames.{name_of}
use Rattle.kr_script.specs.Replies.{name_data}
use Rattle.kr_trace_lines.proofs.Texts.{last_write, laid_by_three, laid_by_five}
use Rattle.kr_trace_lines.proofs.deviation_writing.write_held.Goals as goal

pub returns : goal.returns
returns g c =
    let old : List ℕ = string_bytes c.args.out.now in
    let opened : List ℕ = string_bytes c.push_str.new.self in
    let named : List ℕ = string_bytes c.write_name.new.out in
    let parted : List ℕ = string_bytes c.push_str-2.new.self in
    let numbered : List ℕ = string_bytes c.write_number.new.out in
    let parted_again : List ℕ = string_bytes c.push_str-3.new.self in
    let moded : List ℕ = string_bytes c.write_mode.new.out in
    let new : List ℕ = string_bytes c.push_str-4.new.self in
    let name : List ℕ = compact_text (name_data c.args.conflict.name) in
    let holder : List ℕ = decimal c.args.conflict.holder in
    let mode : List ℕ = compact_text (string (name_of (g.P.Protocol.names c.args.protocol.now) c.args.conflict.held)) in
    last_write c.push_str-4.result new (moded ++ 44 ∷ []) moded (new ≡ old ++ 91 ∷ (name ++ 44 ∷ (holder ++ 44 ∷ (mode ++ 44 ∷ [])))) c.push_str-4.ensures.bytes
    (λ f. laid_by_three old opened named new (91 ∷ []) name (44 ∷ (holder ++ 44 ∷ (mode ++ 44 ∷ []))) c.in_ok-push_str.ensures.bytes c.in_ok-write_name.ensures
    (laid_by_five named parted numbered parted_again moded new (44 ∷ []) holder (44 ∷ []) mode (44 ∷ [])
    c.in_ok-push_str-2.ensures.bytes (c.in_ok-write_number.ensures ∙ ap (λ n. parted ++ decimal n) c.from.ensures) c.in_ok-push_str-3.ensures.bytes c.in_ok-write_mode.ensures f))
