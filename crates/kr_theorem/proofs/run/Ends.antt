-- A commit, an abort and a change undone keep what is known of the run.
use Rattle.std.specs.Prelude.{◌≡◌, ◌≤◌, ℕ, true, false, ◌==◌, ◌||◌, List, [], ◌∷◌, ◌++◌, None, refl, length}
use Rattle.kr_model.specs.declared.Op.TheVariants as op
use Rattle.kr_model.specs.declared.Reply.TheVariants as reply
use Rattle.kr_model.specs.declared.Refusal.TheVariants as refusal
use Rattle.kr_model.specs.Protocol.{Protocol, IsLawful}
use Rattle.kr_model.specs.Safe.{IsSafe}
use Rattle.kr_model.specs.declared.Name.{Name}
use Rattle.kr_model.specs.Map.{Map, Changes, restore, restore_all}
use Rattle.kr_model.specs.Locks.{release}
use Rattle.kr_model.specs.State.{State, has_ended, standing}
use Rattle.kr_model.specs.Step.{ended_with, one_taken_back}
use Rattle.kr_model.specs.Run.{Entry, Answered}
use Rattle.kr_model.specs.Serial.{AreAnswered, map_left}
use Rattle.kr_model.proofs.Actives.{tied, untied, any_add_once, or_true}
use Rattle.kr_theorem.proofs.run.Actives.{true_not_false}
use Rattle.kr_model.proofs.LogReads.{silent_other, silent_by}
use Rattle.kr_model.proofs.SerialLaws.{answered_append, map_left-append}
use Rattle.kr_theorem.proofs.step.Parts.{blank, rolling_with, with_part}
use Rattle.kr_theorem.proofs.step.Invariant.{Invariant}
use Rattle.kr_theorem.proofs.step.EndKeeps.{commit_keeps, abort_keeps, back_keeps}
use Rattle.kr_theorem.proofs.run.Reading.{entry, ReadsAs, reads_silent, committed_append, committed_none}
use Rattle.kr_theorem.proofs.run.Programs.{joined, joined_push, txns_push, Fixed, fixed_more, fixed_push}
use Rattle.std.proofs.Common.{sym, ◌∙◌, ap, subst, ◌≢◌, inl, inr, ⊎_elim}
use Rattle.kr_model.proofs.UndoLaws.{IsMap-restore_all}
use Rattle.kr_theorem.proofs.gaps.Moves.{undone_inserted}
use Rattle.kr_theorem.proofs.step.Parts.{moved_or_not}
use Rattle.kr_theorem.proofs.step.Invariant.{kept}
use Rattle.kr_theorem.proofs.safe.Shape.{code, shape, in_count}
use Rattle.kr_theorem.proofs.safe.Holding.{Holds, modes, without_holds, without_other}
use Rattle.kr_theorem.proofs.safe.Sim.{Sim}
use Rattle.kr_theorem.proofs.run.Known.{Known, KnownAfter, stays, goes, ends}
use Rattle.kr_theorem.proofs.safe.Leaving.{left_sim, back_sim}

module _ (p : Protocol) (laws : IsLawful p) (safe : IsSafe p) (opening : Map) (h : List Entry) (s : State) (g : Known p opening h s) (t : ℕ) (live_t : has_ended s t ≡ false) where
  apart : (u : ℕ) → has_ended s u ≡ true → u ≢ t
  apart u over same = true_not_false (sym over ∙ ap (has_ended s) same ∙ live_t)

  stay_ended : (m : Map) (u : ℕ) → has_ended s u ≡ true → has_ended (ended_with s t m) u ≡ true
  stay_ended m u e = any_add_once (λ v. v == u) t s.ended ∙ or_true (t == u) (has_ended s u) e

  has_now_ended : (m : Map) → has_ended (ended_with s t m) t ≡ true
  has_now_ended m = any_add_once (λ v. v == t) t s.ended ∙ ap (λ b. b || has_ended s t) (tied t)

  abbrev left : Holds
  left = without_holds g.hold t

  range : (u : ℕ) (name : Name) → modes left u name ≤ shape.count
  range u name = in_count (left u name).key (left u name).gap

  others : (u : ℕ) → u ≢ t → (name : Name) → modes left u name ≡ modes g.hold u name
  others u ne name = ap (λ z. code z.key z.gap) (without_other g.hold t u name ne)

  pub commits : (g.part t).rolling ≡ false → (g.part t).scan ≡ None → KnownAfter p opening h t op.Commit (reply.Committed, ended_with s t s.map)
  commits unrolled quiet =
      let e = entry t op.Commit reply.Committed in
      let s' : State = ended_with s t s.map in
      let done : List Answered = (g.part t).program in
      let c : Map = map_left opening (joined g.done) in
      let k = commit_keeps shape s.map (modes g.hold) g.part c g.inv t (modes left) range others unrolled in
      let reads : ReadsAs t h done None = subst (λ z. ReadsAs t h done z) quiet (g.reads t live_t unrolled) in
      let fixed : Fixed g.done (h ++ e ∷ []) s' = fixed_more g.done h s s' e (λ u eu. (stay_ended s.map u eu, silent_other u e.0 reply.Committed (untied t u (λ d. apart u eu (sym d))))) g.fixed in
      ends p opening h s s.map t op.Commit reply.Committed g (g.done ++ (t, done) ∷ []) left live_t
      (subst (λ z. AreAnswered opening z) (sym (joined_push g.done (t, done))) (answered_append opening (joined g.done) done g.answered k.0))
      (subst (λ z. Invariant shape s.map (modes left) (with_part g.part t blank) z) (sym (ap (map_left opening) (joined_push g.done (t, done)) ∙ map_left-append opening (joined g.done) done)) k.1)
      (left_sim p laws safe s.map s.locks g.part g.hold (map_left opening (joined g.done)) g.inv g.sim t s.map (let i = g.inv in i.is_map) (λ y. inl refl) (λ y there gone. absurd (true_not_false (sym there ∙ gone))))
      (fixed_push g.done (h ++ e ∷ []) s' (t, done) (has_now_ended s.map) (reads_silent t h e done None (silent_by t e.0 reply.Committed refl refl) reads) fixed)
      (txns_push g.done (t, done) ∙ ap (λ z. z ++ t ∷ []) g.order ∙ sym (committed_append h (e ∷ [])))

  pub aborts : KnownAfter p opening h t op.Abort (reply.Aborted, ended_with s t (restore_all s.map (standing s t).changes))
  aborts =
      let e = entry t op.Abort reply.Aborted in
      let m : Map = restore_all s.map (standing s t).changes in
      let same = g.stands t live_t in
      let ended = abort_keeps shape s.map (modes g.hold) g.part (map_left opening (joined g.done)) g.inv t (modes left) range others in
      ends p opening h s m t op.Abort reply.Aborted g g.done left live_t g.answered
      (subst (λ z. Invariant shape (restore_all s.map z) (modes left) (with_part g.part t blank) (map_left opening (joined g.done))) (sym same.changes) ended)
      (subst (λ z. Sim p (restore_all s.map z) (release s.locks t) (with_part g.part t blank) left) (sym same.changes)
      (left_sim p laws safe s.map s.locks g.part g.hold (map_left opening (joined g.done)) g.inv g.sim t (restore_all s.map (g.part t).changes) (let i = g.inv in IsMap-restore_all s.map (g.part t).changes i.is_map) (λ y. let i = g.inv in ⊎_elim (λ moved. inr moved) (λ out. inl (kept shape s.map (modes g.hold) g.part i.owned t y out)) (moved_or_not (g.part t).moved y))
      (λ y there gone. undone_inserted s.map (g.part t).changes y there gone)))
      (fixed_more g.done h s (ended_with s t m) e (λ u eu. (stay_ended m u eu, silent_other u e.0 reply.Aborted (untied t u (λ d. apart u eu (sym d))))) g.fixed)
      (g.order ∙ sym (committed_none h e refl))

  -- A change undone.
  pub backs : (changes : Changes) → (standing s t).changes ≡ changes → KnownAfter p opening h t op.Back (one_taken_back s t changes)
  backs [] e = stays p opening h s t op.Back (reply.Refused refusal.NothingLeft) g refl refl
  backs (x ∷ cs) e =
      let same = g.stands t live_t in
      let is : (g.part t).changes ≡ x ∷ cs = sym same.changes ∙ e in
      goes p opening h s (restore s.map x.0 x.1) s.locks (record { scan = None; changes = cs; rolling = true }) t op.Back (reply.Undone (length cs)) g (rolling_with (restore s.map x.0 x.1) cs) g.hold live_t refl
      (back_keeps shape s.map (modes g.hold) g.part (map_left opening (joined g.done)) g.inv t x cs is)
      (back_sim p laws safe s.map s.locks g.part g.hold (map_left opening (joined g.done)) g.inv g.sim t x cs is)
      (λ live. absurd (true_not_false live))
      (record { scan = tt; changes = refl; rolling = refl })
