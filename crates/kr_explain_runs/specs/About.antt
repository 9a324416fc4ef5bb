-- Whether a failed case is about a state: a transaction that comes to the state has the modes of the case there, and can take the step that the case is about.
use Rattle.std.specs.Prelude.{ℕ, ◌==◌, ◌&&◌, ◌||◌, nat_le, Bool, true, false, not, Option, Some}
use Rattle.kr_model.specs.declared.Cover.{Cover}
use Rattle.kr_model.specs.declared.Cover.TheVariants.{ReadKey, ReadGap, InsertedKey, DeletedGap, UpdatedKey}
use Rattle.kr_model.specs.declared.FailedCase.{FailedCase}
use Rattle.kr_model.specs.declared.Origin.{Origin}
use Rattle.kr_model.specs.declared.Origin.TheVariants as origin
use Rattle.kr_model.specs.declared.Row.{Row}
use Rattle.kr_model.specs.declared.Row.TheVariants as row
use Rattle.kr_model.specs.declared.Rule.{Rule}
use Rattle.kr_model.specs.declared.Rule.TheVariants as rule
use Rattle.kr_model.specs.declared.Side.{Side}
use Rattle.kr_model.specs.declared.Side.TheVariants.{Current, Next}
use Rattle.kr_model.specs.declared.Span.{Span}
use Rattle.kr_model.specs.declared.Span.TheVariants.{Commit}
use Rattle.kr_model.specs.Protocol.{Protocol}
use Rattle.kr_explain_runs.specs.declared.deed.Deed.{Deed}
use Rattle.kr_explain_runs.specs.declared.deed.Deed.TheVariants as deed
use Rattle.kr_explain_runs.specs.declared.state.State.{State}

-- Whether something was done at a key.
abbrev pub is_some_deed : Deed → Bool
is_some_deed deed.Nothing = false
is_some_deed _ = true

abbrev pub is_deleted : Deed → Bool
is_deleted deed.Deleted = true
is_deleted _ = false

abbrev pub is_inserted : Deed → Bool
is_inserted deed.Inserted = true
is_inserted _ = false

abbrev pub is_updated : Deed → Bool
is_updated deed.Updated = true
is_updated _ = false

-- Whether the holder did that which its lock on A, or the lock on the name above P where P is gone, has to protect.
abbrev pub has_cover : Cover → State → Bool
has_cover ReadKey s = is_some_deed s.did_a
has_cover ReadGap s = not s.p && is_some_deed s.did_p
has_cover InsertedKey s = is_inserted s.did_a
has_cover DeletedGap s = not s.p && is_deleted s.did_p
has_cover UpdatedKey s = is_updated s.did_a

-- Whether what is requested is this mode until commit.
abbrev pub is_for_commit : ℕ → Option (ℕ × Span) → Bool
is_for_commit mode (Some (asked, Commit)) = asked == mode
is_for_commit mode _ = false

-- Whether a row asks on A for this mode until commit, where it goes by the own mode o.
abbrev pub asks : Protocol → ℕ → ℕ → Row → Side → Bool
asks p mode o r side = is_for_commit mode (p.ask r side o)

-- Whether B can be put in right below A.
abbrev pub can_put : State → Bool
can_put s = not s.p && not s.b

-- Whether P, or else K, can be deleted right below A.
abbrev pub can_take : State → Bool
can_take s = s.p || (not s.b && s.k)

-- Whether some step that can be taken asks on A for this mode until commit.
abbrev pub is_asked_for : Protocol → ℕ → State → Bool
is_asked_for p mode s =
    asks p mode 0 row.FetchHit Current
    || (asks p mode 0 row.FetchMiss Next
    || (asks p mode 0 row.ScanKey Current
    || (asks p mode 0 row.ScanStop Next
    || ((asks p mode s.on_a row.Insert Next && can_put s)
    || ((asks p mode s.on_a row.Delete Next && can_take s)
    || asks p mode 0 row.Update Current)))))

-- Whether the step of a rule can be taken where A stands.
abbrev pub can_step : Rule → State → Bool
can_step rule.FetchHit s = true
can_step rule.FetchMiss s = not s.p
can_step rule.ScanKey s = not s.p
can_step rule.ScanStop s = not s.p
can_step rule.Delete s = s.p && not (is_inserted s.did_p)
can_step rule.Update s = true
can_step _ s = false

-- Whether A is gone, and the holder has these modes on Y and on A.
abbrev pub is_below : ℕ → ℕ → State → Bool
is_below on_y on_a s = not s.a && (s.on_y == on_y) && (s.on_a == on_a)

-- Whether the holder has a mode on A that has the cover, and some step asks there for the other one.
abbrev pub is_converted : Protocol → Cover → ℕ → ℕ → State → Bool
is_converted p c held asked s = s.a && (s.on_a == held) && nat_le held p.count && has_cover c s && is_asked_for p asked s

-- Whether an insert of A is one that a case of the rule is about: a split only where the holder has the cover of the gap.
abbrev pub may_insert : Rule → Cover → State → Bool
may_insert rule.Insert c s = true
may_insert rule.Split c s = has_cover c s
may_insert _ c s = false

-- Whether a case of this rule, cover and modes is about the state.
abbrev pub is_at : Protocol → Rule → Cover → Origin → State → Bool
is_at p r c (origin.Own own) s = s.a && (s.on_a == own) && can_step r s
is_at p r c (origin.Conversion held asked) s = is_converted p c held asked s
is_at p r c (origin.Insert own_next own) s = is_below own_next own s && may_insert r c s

-- Whether the case is about the state.
abbrev pub is_about : Protocol → FailedCase → State → Bool
is_about p c s = is_at p c.case c.cover c.from s
