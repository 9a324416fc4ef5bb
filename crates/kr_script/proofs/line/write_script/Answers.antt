use Rattle.std.proofs.Common.{◌++◌, ap, ◌∙◌, codes, decimal, string_bytes}
use Rattle.std.proofs.lemmas.Str.{IsUtf8-string_bytes}
use Rattle.serde_json.specs.Written.{compact_text}
use Rattle.serde_json.proofs.OnLiterals.{serde_json_on_literals}
use Rattle.kr_script.specs.Line.{format_number, needs_two, steps_data}
use Rattle.kr_script.specs.Pairs.{pairs_data}
use Rattle.kr_script.proofs.LineReads.{laid_by_seven, line_reads}
use Rattle.kr_script.proofs.line.write_script.Goals as goal

pub returns-clause-text : goal.returns-clause-text
unfolding serde_json_on_literals
returns-clause-text c =
    laid_by_seven
    (string_bytes c.push_str.new.self)
    (string_bytes c.write_number.new.out)
    (string_bytes c.push_str-2.new.self)
    (string_bytes c.write_pairs.new.out)
    (string_bytes c.push_str-3.new.self)
    (string_bytes c.write_steps.new.out)
    (string_bytes c.push_str-4.new.self)
    (codes "{\"format\":")
    (decimal (format_number (needs_two c.args.steps.now)))
    (codes ",\"opening\":")
    (compact_text (pairs_data c.args.opening.now))
    (codes ",\"steps\":")
    (compact_text (steps_data c.args.steps.now))
    (codes "}")
    (c.in_ok-push_str.ensures.bytes ∙ ap (λ l. l ++ codes "{\"format\":") c.new-out.ensures.bytes)
    (c.in_ok-write_number.ensures ∙ ap (λ n. string_bytes c.push_str.new.self ++ decimal n) (c.number_of_format.ensures ∙ ap format_number c.needs_two.ensures))
    c.in_ok-push_str-2.ensures.bytes
    c.in_ok-write_pairs.ensures
    c.in_ok-push_str-3.ensures.bytes
    c.in_ok-write_steps.ensures
    c.in_ok-push_str-4.ensures.bytes

pub returns-clause-reads : goal.returns-clause-reads
returns-clause-reads c =
    line_reads c.args.opening.now c.args.steps.now (string_bytes c.push_str-4.new.self) c.lemma_pairs_fit.ensures c.lemma_steps_fit.ensures (IsUtf8-string_bytes c.push_str-4.new.self) (returns-clause-text c)
