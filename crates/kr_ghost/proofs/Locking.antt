-- What an attempt requests: modes, so that its locks are locks; and names, so that it locks nothing that is no name.
use Rattle.std.specs.Prelude.{◌≡◌, ℕ, ◌≤◌, true, false, Option, Some, None, refl, unwrap_or}
use Rattle.std.proofs.Common.{sym, ◌∙◌, ap, arith, ◌≢◌, true≢false}
use Rattle.kr_model.specs.declared.Name.{Name}
use Rattle.kr_model.specs.declared.Name.TheVariants.{Key}
use Rattle.kr_model.specs.declared.Row.{Row}
use Rattle.kr_model.specs.declared.Row.TheVariants as row
use Rattle.kr_model.specs.declared.Side.{Side}
use Rattle.kr_model.specs.declared.Side.TheVariants.{Current, Next}
use Rattle.kr_model.specs.declared.Span.{Span}
use Rattle.kr_model.specs.Locks.{Locks, kept}
use Rattle.kr_model.specs.Map.{Map, IsMap, at}
use Rattle.kr_model.proofs.Requests.{request_at, AskModes, AreLocks, kept_locks}
use Rattle.kr_theorem.proofs.gaps.Gaps.{has, at-key}
use Rattle.kr_ghost.specs.declared.vain.Vain.{Vain}
use Rattle.kr_ghost.specs.declared.vain.Vain.TheVariants as vain
use Rattle.kr_ghost.specs.Protocol.{GhostProtocol, AsksMode, IsLawfulGhost}
use Rattle.kr_ghost.specs.Step as step
use Rattle.kr_ghost.specs.Step.{on, as_fetch, missed}
use Rattle.kr_ghost.specs.Safe.{Ask, FetchHit, FetchMiss, ScanName, ScanStop, Insert, Delete, Update, Revive, InsertHit, DeleteMiss, UpdateMiss, ReviveNext, InsertHitNext, asked}
use Rattle.kr_ghost.proofs.Names.{key_is}

module _ (p : GhostProtocol) (laws : IsLawfulGhost p) where
  -- Each request is of a mode.
  pub row_mode : (r : Row) (side : Side) (o : ℕ) → o ≤ p.table.count → AsksMode p.table (p.table.ask r side o)
  row_mode r side o io q span is = let l = laws.table in l.ask-mode r side o q span io is

  fetch_mode : (v : Vain) → AsksMode p.table (as_fetch p v)
  fetch_mode vain.InsertHit = row_mode row.FetchHit Current 0 (omega arith)
  fetch_mode vain.DeleteMiss = row_mode row.FetchMiss Next 0 (omega arith)
  fetch_mode vain.UpdateMiss = row_mode row.FetchMiss Next 0 (omega arith)

  pub vain_mode : (v : Vain) → AsksMode p.table (step.vain p v)
  vain_mode v = by (p.vain v) refl
    where
      by : (asked : Option (Option (ℕ × Span))) → p.vain v ≡ asked → AsksMode p.table (unwrap_or asked (as_fetch p v))
      by None is = fetch_mode v
      by (Some asked) is = laws.vain v asked is

  pub missed_mode : (r : Row) → AsksMode p.table (missed p r)
  missed_mode row.Delete = vain_mode vain.DeleteMiss
  missed_mode row.Update = vain_mode vain.UpdateMiss
  missed_mode row.FetchHit = fetch_mode vain.DeleteMiss
  missed_mode row.FetchMiss = fetch_mode vain.DeleteMiss
  missed_mode row.ScanKey = fetch_mode vain.DeleteMiss
  missed_mode row.ScanStop = fetch_mode vain.DeleteMiss
  missed_mode row.Insert = fetch_mode vain.DeleteMiss

  pub ask_mode : (a : Ask) (o : ℕ) → o ≤ p.table.count → AsksMode p.table (asked p a o)
  ask_mode FetchHit o io = row_mode row.FetchHit Current 0 (omega arith)
  ask_mode FetchMiss o io = row_mode row.FetchMiss Next 0 (omega arith)
  ask_mode ScanName o io = row_mode row.ScanKey Current 0 (omega arith)
  ask_mode ScanStop o io = row_mode row.ScanStop Next 0 (omega arith)
  ask_mode Insert o io = row_mode row.Insert Next o io
  ask_mode Delete o io = row_mode row.Delete Current 0 (omega arith)
  ask_mode Update o io = row_mode row.Update Current 0 (omega arith)
  ask_mode Revive o io = laws.revive
  ask_mode InsertHit o io = vain_mode vain.InsertHit
  ask_mode DeleteMiss o io = vain_mode vain.DeleteMiss
  ask_mode UpdateMiss o io = vain_mode vain.UpdateMiss
  ask_mode ReviveNext o io = laws.revive_next
  ask_mode InsertHitNext o io = laws.insert_hit_next

  pub asks_one : (n : Name) (request : Option (ℕ × Span)) → AsksMode p.table request → AskModes p.table (request_at (Some n) request)
  asks_one n None mode = tt
  asks_one n (Some (q, span)) mode = (mode q span refl, tt)

  -- So the locks after one request are locks.
  pub one_locks : (h : Locks) → AreLocks p.table h → (t : ℕ) (n : Name) (request : Option (ℕ × Span)) → AsksMode p.table request → AreLocks p.table (kept p.table h t (on n request))
  one_locks h k t n request mode = kept_locks p.table laws.table h t (request_at (Some n) request) (asks_one n request mode) k

-- What is no name is neither a name nor the next name of a point.
pub not_key : (e : Map) (k y : ℕ) → has e k ≡ true → has e y ≡ false → Key y ≢ Key k
not_key e k y there none is = true≢false (sym there ∙ sym (ap (has e) (key_is y k is)) ∙ none)

pub not_at : (e : Map) → IsMap e → (k y : ℕ) → has e y ≡ false → Key y ≢ at e k
not_at e he k y none is = let w = at-key e k y he (sym is) in true≢false (sym w.1 ∙ none)
