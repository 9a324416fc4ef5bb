-- A commit, an abort and a change undone keep what is known of the run.
use Rattle.std.specs.Prelude.{◌≡◌, ℕ, true, false, not, cond, List, [], ◌∷◌, ◌++◌, None, refl, length, unwrap_or}
use Rattle.std.specs.FinMap.{find}
use Rattle.std.proofs.Common.{sym, ◌∙◌, ap, subst, ◌≢◌, inl, inr, true≢false}
use Rattle.kr_model.specs.declared.Name.{Name}
use Rattle.kr_model.specs.declared.Name.TheVariants.{Key}
use Rattle.kr_model.specs.declared.Op.TheVariants as op
use Rattle.kr_model.specs.declared.Reply.TheVariants as reply
use Rattle.kr_model.specs.declared.Refusal.TheVariants as refusal
use Rattle.kr_model.specs.Map.{Map, IsMap, Changes, restore, restore_all}
use Rattle.kr_model.specs.Locks.{Locks, holder_cmp, own, release}
use Rattle.kr_model.specs.State.{has_ended, standing}
use Rattle.kr_model.specs.Step.{ended_with}
use Rattle.kr_model.specs.Run.{Entry, Answered}
use Rattle.kr_model.specs.Serial.{AreAnswered, map_left}
use Rattle.kr_model.proofs.Actives.{tied}
use Rattle.kr_model.proofs.LockLaws.{find-release, own-release_other}
use Rattle.kr_model.proofs.LogReads.{silent_by}
use Rattle.kr_model.proofs.SerialLaws.{answered_append, map_left-append}
use Rattle.kr_model.proofs.UndoLaws.{IsMap-restore, IsMap-restore_all}
use Rattle.kr_theorem.proofs.gaps.Gaps.{has}
use Rattle.kr_theorem.proofs.gaps.Undo.{ChangedIn}
use Rattle.kr_theorem.proofs.run.Programs.{joined, joined_push, txns_push, fixed_push}
use Rattle.kr_theorem.proofs.run.Reading.{entry, ReadsAs, reads_silent, committed_append, committed_none}
use Rattle.kr_theorem.proofs.step.Parts.{Part, blank, rolling_with, rolling_touched, Changed, with_part, with_same}
use Rattle.kr_ghost.specs.Protocol.{GhostProtocol}
use Rattle.kr_ghost.specs.State.{GhostState, named, ghosts_with, ghosts_restored}
use Rattle.kr_ghost.specs.Step.{performed, one_taken_back}
use Rattle.kr_ghost.proofs.Names.{IsMap-named, written_names, restored_names}
use Rattle.kr_ghost.proofs.Guarded.{Guarded, end_step, back_step}
use Rattle.kr_ghost.proofs.Invariant.{Invariant, commit_keeps, abort_keeps, back_keeps}
use Rattle.kr_ghost.specs.declared.cases.Cover.TheVariants.{ChangedKey}
use Rattle.kr_ghost.proofs.Holding.{Holds, Protects, olds, Fits, some_olds, fits_some}
use Rattle.kr_ghost.proofs.Sim.{Sim}
use Rattle.kr_ghost.proofs.Left.{commit_sim, leave_sim, back_sim, undo_all, replaced}
use Rattle.kr_ghost.proofs.Told as told
use Rattle.kr_ghost.proofs.Known.{Known, KnownAfter, stays, goes, ends, names_map, guards}

pub own_released : (h : Locks) (t : ℕ) (n : Name) → own (release h t) t n ≡ 0
own_released h t n = ap (λ o. unwrap_or o 0) (find-release h t (n, t) ∙ ap (λ b. cond (not b) (find holder_cmp (n, t) h) None) (tied t))

module _ (p : GhostProtocol) (opening : Map) (h : List Entry) (s : GhostState) (g : Known p opening h s) (t : ℕ) (live : has_ended s.state t ≡ false) where
  abbrev c : Map
  c = map_left opening (joined g.done)

  abbrev m : Map
  m = s.state.map

  abbrev e : Map
  e = named s.state.map s.ghosts

  abbrev left : Locks
  left = release s.state.locks t

  he : IsMap e
  he = names_map p opening h s g

  unlocked : (n : Name) → own left t n ≡ 0
  unlocked n = own_released s.state.locks t n

  other_locks : (u : ℕ) → u ≢ t → (n : Name) → own left u n ≡ own s.state.locks u n
  other_locks u ne n = own-release_other s.state.locks t u n ne

  -- Where no name comes or goes, the end of t keeps what the lock states guard.
  ended : (n : Map) (ghosts : List ℕ) → IsMap n → ((y : ℕ) → has (named n ghosts) y ≡ has e y) → (hold : Holds)
      → ((u : ℕ) → u ≢ t → (x : Name) → hold u x ≡ g.hold u x) → Guarded (named n ghosts) hold (with_part g.part t blank)
  ended n ghosts hn same hold others = end_step e (named n ghosts) he (IsMap-named n ghosts hn) same g.hold hold g.part t blank (guards p opening h s g) others refl

  -- A commit.
  pub commits : (g.part t).rolling ≡ false → (g.part t).scan ≡ None → KnownAfter p opening h t op.Commit (performed p s t op.Commit)
  commits unrolled quiet =
      let i = g.inv in
      let w = g.told in
      let x = entry t op.Commit reply.Committed in
      let done : List Answered = (g.part t).program in
      let w2 = commit_sim p m e s.state.locks g.part g.hold g.sim t left unlocked other_locks unrolled in
      let k = commit_keeps m e g.hold g.part c i t e w2.hold unrolled (ended m s.ghosts i.is_map (λ y. refl) w2.hold w2.others) in
      let reads : ReadsAs t h done None = subst (λ z. ReadsAs t h done z) quiet (w.reads t live unrolled) in
      ends p opening h s g t op.Commit reply.Committed m s.ghosts (g.done ++ (t, done) ∷ []) w2.hold live
      (subst (λ z. AreAnswered opening z) (sym (joined_push g.done (t, done))) (answered_append opening (joined g.done) done g.answered k.0))
      (subst (λ z. Invariant m e w2.hold (with_part g.part t blank) z) (sym (ap (map_left opening) (joined_push g.done (t, done)) ∙ map_left-append opening (joined g.done) done)) k.1)
      w2.sim
      (fixed_push g.done (h ++ x ∷ []) (ended_with s.state t m) (t, done) (told.has_now_ended h s.state g.part g.done g.told t op.Commit reply.Committed live m)
      (reads_silent t h x done None (silent_by t x.0 reply.Committed refl refl) reads)
      (told.fixed_on h s.state g.part g.done g.told t op.Commit reply.Committed live m))
      (txns_push g.done (t, done) ∙ ap (λ z. z ++ t ∷ []) w.order ∙ sym (committed_append h (x ∷ [])))

  -- An abort: all that t changed is undone.
  pub aborts : KnownAfter p opening h t op.Abort (performed p s t op.Abort)
  aborts =
      let i = g.inv in
      let w = g.told in
      let g0 = guards p opening h s g in
      let x = entry t op.Abort reply.Aborted in
      let st = w.stands t live in
      let cs : Changes = (standing s.state t).changes in
      let n : Map = restore_all m cs in
      let gs : List ℕ = ghosts_restored s.ghosts cs in
      let names : (y : ℕ) → has (named n gs) y ≡ has e y = restored_names m s.ghosts cs (λ y changed. g0.named t y (subst (λ l. ChangedIn l y) st.changes changed)) in
      let all = undo_all p cs m s.ghosts s.state.locks g.part g.hold t g.sim (sym st.changes) (λ y changed. g0.named t y (subst (λ l. ChangedIn l y) st.changes changed)) in
      let w1 = all.2 in
      let w2 = leave_sim p n (named n gs) s.state.locks (with_part g.part t all.0) w1.hold w1.sim t (named n gs) left (λ y none. none) unlocked other_locks
      (ap (λ (x : Part). x.changes) (with_same g.part t all.0) ∙ all.1) in
      let others : (u : ℕ) → u ≢ t → (x : Name) → w2.hold u x ≡ g.hold u x = λ u ne x. w2.others u ne x ∙ w1.others u ne x in
      ends p opening h s g t op.Abort reply.Aborted n gs g.done w2.hold live g.answered
      (subst (λ z. Invariant (restore_all m z) (named n gs) w2.hold (with_part g.part t blank) c) (sym st.changes)
      (abort_keeps m e g.hold g.part c i t (named n gs) w2.hold (ended n gs (IsMap-restore_all m cs i.is_map) names w2.hold others)))
      (replaced p n (named n gs) left g.part w2.hold t all.0 blank w2.sim)
      (told.fixed_on h s.state g.part g.done g.told t op.Abort reply.Aborted live n)
      (w.order ∙ sym (committed_none h x refl))

  -- A change undone.
  pub backs : (changes : Changes) → (standing s.state t).changes ≡ changes → KnownAfter p opening h t op.Back (one_taken_back s t changes)
  backs [] is = stays p opening h s g t op.Back (reply.Refused refusal.NothingLeft) refl refl
  backs (x ∷ cs) is =
      let i = g.inv in
      let w = g.told in
      let g0 = guards p opening h s g in
      let st = w.stands t live in
      let mine : (g.part t).changes ≡ x ∷ cs = sym st.changes ∙ is in
      let n : Map = restore m x.0 x.1 in
      let gs : List ℕ = ghosts_with s.ghosts x.0 x.1 in
      let q : Part = rolling_with n cs in
      let was : (y : ℕ) → ChangedIn (x ∷ cs) y → Changed (g.part t) y = λ y changed. subst (λ l. ChangedIn l y) (sym mine) changed in
      let names : (y : ℕ) → has (named n gs) y ≡ has e y = written_names m s.ghosts x.0 x.1 (g0.named t x.0 (was x.0 (inl refl))) in
      let w2 = back_sim p m s.ghosts s.state.locks g.part g.hold t x cs g.sim mine (g0.named t x.0 (was x.0 (inl refl))) in
      let fit = w2.sim in
      goes p opening h s g t op.Back (reply.Undone (length cs)) n gs s.state.locks (record { scan = None; changes = cs; rolling = true }) q w2.hold live refl
      (back_keeps m e g.hold g.part c i t (named n gs) w2.hold x cs mine
      (back_step e (named n gs) he (IsMap-named n gs (IsMap-restore m x.0 x.1 i.is_map)) names g.hold w2.hold g.part t q (guards p opening h s g) w2.others
      (λ y touch. rolling_touched n cs y touch) (λ y changed. was y (inr changed)) (λ y changed. still_changed w2.hold fit q y changed)))
      w2.sim
      g.locks
      (λ unrolled. absurd (true≢false unrolled))
      (record { scan = tt; changes = refl; rolling = refl })
    where
      still_changed : (hold : Holds) → Sim p (restore m x.0 x.1) (named (restore m x.0 x.1) (ghosts_with s.ghosts x.0 x.1)) s.state.locks (with_part g.part t (rolling_with (restore m x.0 x.1) cs)) hold
          → (q : Part) → (y : ℕ) → ChangedIn cs y → Protects ChangedKey (hold t (Key y))
      still_changed hold fit q y changed =
          let z = some_olds cs y changed in
          fits_some z.0 z.1 (hold t (Key y)).key (subst (λ os. Fits os (hold t (Key y)).key)
          (ap (λ (x : Part). olds x.changes y) (with_same g.part t (rolling_with (restore m x.0 x.1) cs)) ∙ z.2) (fit.fits t (Key y)))
