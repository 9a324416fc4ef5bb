-- What a step and a purge through a handle come to, for C.
use Rattle.std.specs.Prelude.{◌≡◌, ◌==◌, ℕ, Bool, Option, None, Some, Result, if◌then◌else◌}
use Rattle.std.specs.declared.alloc.AllocError.{AllocError}
use Rattle.kr_model.specs.declared.Op.{Op}
use Rattle.kr_embed.specs.Handles.{IsStepped, IsPurged}
use Rattle.kr_embed.specs.Numbers.{IsOperation}
use Rattle.kr_embed.specs.Session.{Seen}
use Rattle.kr_embed.specs.declared.numbers.PlainReply.{PlainReply}
use Rattle.kr_c.specs.Codes.{ok, no_memory, closed}
use Rattle.kr_c.specs.Out.{IsPurgeTold}

-- The code of a reply: refused memory has a code of its own.
abbrev pub reply_code : PlainReply → ℕ
reply_code r = if r.refusal == 6 then no_memory else ok

-- The code and the reply of a step that was told, or of a closed session, which changes no reply.
abbrev pub IsReplied : Option PlainReply → ℕ → PlainReply → PlainReply → Type 0
IsReplied None code old new = (code ≡ closed) × (new ≡ old)
IsReplied (Some told) code old new = (code ≡ reply_code told) × (new ≡ told)

-- The session was given an operation of this kind with these operands, and its step was done and told.
abbrev pub Steps : Option Seen → ℕ → ℕ → ℕ → ℕ → ℕ → PlainReply → PlainReply → Option Seen → Type 0
Steps session txn kind first second code old new after =
    (o : Op) × (IsOperation kind first second o × ((told : Option PlainReply) × (IsStepped session txn o told after × IsReplied told code old new)))

-- The session was asked to purge this key, and it is told what came of it.
abbrev pub Purges : Option Seen → ℕ → ℕ → ℕ → ℕ → Option Seen → Type 0
Purges session key code old new after = (told : Option (Result Bool AllocError)) × (IsPurged session key told after × IsPurgeTold told code old new)
