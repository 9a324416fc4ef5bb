use Rattle.std.proofs.Common.{◌≡◌, ◌++◌, drop, map, string_bytes}
use Rattle.serde_json.specs.View.{items_of}
use Rattle.serde_json.specs.Written.{items_text, compact_text}
use Rattle.kr_report.specs.Report.{replies_data, reply_data}
use Rattle.kr_report.proofs.replies.write_replies.Given as goal

-- what is written, then the text of the rest, is the whole
abbrev pub invariant-loop-reply : goal.invariant-loop-reply
invariant-loop-reply l = string_bytes l.out ++ items_text l.later (items_of (map reply_data (drop l.reply-index l.replies))) ≡ string_bytes l.fn.out ++ compact_text (replies_data l.replies)
