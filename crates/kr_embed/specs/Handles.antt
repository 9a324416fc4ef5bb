-- What a call through a handle does to its session, and what it tells.
use Rattle.std.specs.Prelude.{◌≡◌, ◌↔◌, ℕ, List, Bool, IfOk, IsTrue, Option, Some, None, Result, Ok, Err, String, Vec, codes, string_bytes}
use Rattle.std.specs.Global.{Global}
use Rattle.std.specs.declared.alloc.AllocError.{AllocError}
use Rattle.kr_model.specs.declared.Op.{Op}
use Rattle.kr_model.specs.Serial.{AreSerial}
use Rattle.kr_report.specs.Report.{verdict_text}
use Rattle.kr_embed.specs.Numbers.{plain}
use Rattle.kr_embed.specs.Session.{Seen, IsNext, may_purge_in, purge_may_lack, verdict_so_far, with_purged}
use Rattle.kr_embed.specs.declared.numbers.PlainReply.{PlainReply}

-- The handle's session has done its next step, and the reply is told; a closed one stays closed, and nothing is.
abbrev pub IsStepped : Option Seen → ℕ → Op → Option PlainReply → Option Seen → Type 0
IsStepped old txn op None new = (old ≡ None) × (new ≡ None)
IsStepped old txn op (Some told) new = (s t : Seen) × ((old ≡ Some s) × ((new ≡ Some t) × (IsNext s txn op t × (told ≡ plain t.last))))

-- The handle's session has purged a key, or left it, and it is told which; or memory ran out, and the session stays. A closed one stays closed, and nothing is told.
abbrev pub IsPurged : Option Seen → ℕ → Option (Result Bool AllocError) → Option Seen → Type 0
IsPurged old key None new = (old ≡ None) × (new ≡ None)
IsPurged old key (Some (Ok told)) new = (s : Seen) × ((old ≡ Some s) × ((told ≡ may_purge_in s key) × (new ≡ Some (with_purged s key))))
IsPurged old key (Some (Err e)) new = (s : Seen) × ((old ≡ Some s) × (IsTrue (purge_may_lack s key) × (new ≡ Some s)))

-- What is read of a session: this list, or memory ran out; of a closed handle nothing.
abbrev pub IsRead : {A : Type 0} → Option Seen → (Seen → List A) → Option (Result (Vec A Global) AllocError) → Type 0
IsRead old list None = old ≡ None
IsRead old list (Some told) = (s : Seen) × ((old ≡ Some s) × IfOk told (λ v. v.items ≡ list s))

-- What is told of a session's verdict: whether what has committed so far is serializable, with the report, or memory ran out; of a closed handle nothing.
abbrev pub IsJudged : Option Seen → Option (Result (Bool × String Global) AllocError) → Type 0
IsJudged old None = old ≡ None
IsJudged old (Some told) = (s : Seen) × ((old ≡ Some s) × IfOk told (λ v.
    (IsTrue v.0 ↔ AreSerial s.opening s.log.committed) × (string_bytes v.1 ≡ verdict_text (codes "session") (verdict_so_far s))))
