-- A lawful protocol of which all cases hold is safe: whatever a lock state has to protect, its mode serves.
use Rattle.std.specs.Prelude.{◌≡◌, ℕ, ◌≤◌, Bool, true, false, ◌||◌, if◌then◌else◌, Option, Some, None, refl, ◌⊎◌}
use Rattle.std.proofs.Common.{sym, ◌∙◌, ap, subst, inl, inr, ⊎_elim, arith, true≢false}
use Rattle.std.proofs.lemmas.Bool.{cases_eq}
use Rattle.kr_model.specs.declared.Row.TheVariants as row
use Rattle.kr_model.specs.declared.Side.TheVariants.{Current}
use Rattle.kr_model.specs.declared.Span.{Span}
use Rattle.kr_model.specs.declared.Span.TheVariants.{Instant, Commit}
use Rattle.kr_model.specs.Protocol.{IsMode}
use Rattle.kr_model.specs.Covers.{mode_after}
use Rattle.kr_model.proofs.Keep.{kept_mode}
use Rattle.kr_ghost.specs.Protocol.{GhostProtocol, AsksMode, IsLawfulGhost, Purges, Inherit, IsLawfulPurge}
use Rattle.kr_ghost.specs.Run.{GhostRunsAreSerial}
use Rattle.kr_ghost.specs.declared.cases.Cover.{Cover}
use Rattle.kr_ghost.specs.declared.cases.Cover.TheVariants.{ReadKey, ReadGap, ChangedKey}
use Rattle.kr_ghost.specs.Covers.{serves, IsCoveredGhost}
use Rattle.kr_ghost.specs.Safe.{KeyUse, Free, Read, Inserted, Updated, Deleted, Several, Hold, free, is_changed, is_read, Ask, FetchHit, FetchMiss, ScanName, ScanStop, Insert, Delete, Update, Revive, InsertHit, DeleteMiss, UpdateMiss, ReviveNext, InsertHitNext, asked, keeps_out, MayAsk, is_blocked, and_read, after, on_new_key, rolled, Undone, insert, update, delete, to_insert, to_update, to_delete, to_several, Quiet, commit, leave, roll, undo, inherits, Beside, start, turn, ask, quiet, third_asks, third_undoes, new, purge, IsSafeGhost}
use Rattle.kr_ghost.proofs.Serving.{Serves, Covered, Inherits, covered, weaken as serves_read, no_delete, no_revive, no_update, no_insert, no_fetch, no_scan, no_insert_hit}
use Rattle.kr_ghost.proofs.Grants.{open_none}
use Rattle.kr_ghost.proofs.Holding.{Protects, changed_read}
use Rattle.kr_ghost.proofs.Locking.{row_mode, ask_mode}
use Rattle.kr_ghost.proofs.Purged.{inheriting}
use Rattle.kr_ghost.proofs.Runs.{safe_runs_are_serial}

-- A lock state whose mode serves what it has to protect.
record Good (p : GhostProtocol) (x : Hold) : Type 0 where
  within : x.mode ≤ p.table.count
  serving : (c : Cover) → Protects c x → Serves p c x.mode

module _ (p : GhostProtocol) (laws : IsLawfulGhost p) (cov : Covered p) where
  -- No lock serves nothing.
  reads_none : Serves p ReadKey 0 → ⊥
  reads_none s = true≢false (sym (no_delete p 0 0 (omega arith) s) ∙ open_none p.table laws.table 0 (omega arith) (asked p Delete 0) (ask_mode p laws Delete 0 (omega arith)))

  serves_none : (c : Cover) → Serves p c 0 → ⊥
  serves_none ReadKey s = reads_none s
  serves_none ReadGap s = true≢false (sym (no_insert p 0 0 (omega arith) s) ∙ open_none p.table laws.table 0 (omega arith) (asked p Insert 0) (ask_mode p laws Insert 0 (omega arith)))
  serves_none ChangedKey s = reads_none (serves_read p 0 s)

  serving_mode : (c : Cover) (o : ℕ) → o ≤ p.table.count → Serves p c o → IsMode p.table o
  serving_mode c o io s = ⊎_elim (λ is. absurd (serves_none c (subst (λ z. Serves p c z) is s))) (λ ne. record { some = omega (arith, ne); in_range = io }) (cases_eq o 0)

  -- A conversion to any mode, or to none, keeps what is served, and stays within the modes.
  converted : (c : Cover) (o q : ℕ) → o ≤ p.table.count → q ≤ p.table.count → Serves p c o → Serves p c (p.table.convert o q)
  converted c o q io iq s =
      let w = laws.table in ⊎_elim
      (λ none. subst (λ z. Serves p c z) (sym (ap (λ z. p.table.convert o z) none ∙ w.convert-none_asked o io)) s)
      (λ some. cov.convert c o q (serving_mode c o io s) (record { some = omega (arith, some); in_range = iq }) s)
      (cases_eq q 0)

  converted_within : (o q : ℕ) → o ≤ p.table.count → q ≤ p.table.count → p.table.convert o q ≤ p.table.count
  converted_within o q io iq =
      let w = laws.table in ⊎_elim
      (λ none. subst (λ z. z ≤ p.table.count) (sym (ap (λ z. p.table.convert o z) none ∙ w.convert-none_asked o io)) io)
      (λ some. let m = kept_mode p.table o q laws.table io (omega (arith, some)) iq in m.in_range)
      (cases_eq q 0)

  -- So does a request.
  after_keeps : (c : Cover) (o : ℕ) (request : Option (ℕ × Span)) → o ≤ p.table.count → AsksMode p.table request → Serves p c o → Serves p c (mode_after p.table o request)
  after_keeps c o None io mode s = s
  after_keeps c o (Some (q, Instant)) io mode s = s
  after_keeps c o (Some (q, Commit)) io mode s = cov.convert c o q (serving_mode c o io s) (mode q Commit refl) s

  after_within : (o : ℕ) (request : Option (ℕ × Span)) → o ≤ p.table.count → AsksMode p.table request → mode_after p.table o request ≤ p.table.count
  after_within o None io mode = io
  after_within o (Some (q, Instant)) io mode = io
  after_within o (Some (q, Commit)) io mode = let i = mode q Commit refl in let m = kept_mode p.table o q laws.table io i.some i.in_range in m.in_range

  -- Each kind of move --

  good_free : Good p free
  good_free = record { within = omega arith; serving = λ c h. absurd (nothing c h) }
    where
      nothing : (c : Cover) → Protects c free → ⊥
      nothing ReadKey h = cc
      nothing ReadGap h = cc
      nothing ChangedKey h = cc

  read_back : (k : KeyUse) → is_changed (and_read k) ≡ true → is_changed k ≡ true
  read_back Free h = absurd (cc)
  read_back Read h = h
  read_back Inserted h = h
  read_back Updated h = h
  read_back Deleted h = h
  read_back Several h = h

  -- What is protected after a request was protected before, or the request's case says that it is served.
  from_case : (a : Ask) (b : Bool) (x : Hold) → x.mode ≤ p.table.count → MayAsk p b x a → (c : Cover) → Protects c (after p b x a)
      → (Protects c x) ⊎ Serves p c (mode_after p.table x.mode (asked p a x.mode))
  from_case FetchHit b x io may ReadKey h = inr (cov.hit x.mode io)
  from_case FetchHit b x io may ReadGap h = inl h
  from_case FetchHit b x io may ChangedKey h = inl (read_back x.key h)
  from_case FetchMiss b x io may ReadKey h = inl h
  from_case FetchMiss b x io may ReadGap h = inr (cov.miss x.mode io)
  from_case FetchMiss b x io may ChangedKey h = inl h
  from_case ScanName b x io may ReadKey h = inr (cov.look_key x.mode io)
  from_case ScanName b x io may ReadGap h = inr (cov.look_gap x.mode io)
  from_case ScanName b x io may ChangedKey h = inl (read_back x.key h)
  from_case ScanStop b x io may ReadKey h = inl h
  from_case ScanStop b x io may ReadGap h = inr (cov.stop x.mode io)
  from_case ScanStop b x io may ChangedKey h = inl h
  from_case Insert b x io may ReadKey h = inl h
  from_case Insert b x io may ReadGap h = inl h
  from_case Insert b x io may ChangedKey h = inl h
  from_case Delete b x io may ReadKey h = inr (serves_read p (mode_after p.table x.mode (asked p Delete x.mode)) (cov.delete x.mode io))
  from_case Delete b x io may ReadGap h = inl h
  from_case Delete b x io may ChangedKey h = inr (cov.delete x.mode io)
  from_case Update b x io may ReadKey h = inr (serves_read p (mode_after p.table x.mode (asked p Update x.mode)) (cov.update may.1 x.mode io))
  from_case Update b x io may ReadGap h = inl h
  from_case Update b x io may ChangedKey h = inr (cov.update may.1 x.mode io)
  from_case Revive b x io may ReadKey h = inr (serves_read p (mode_after p.table x.mode (asked p Revive x.mode)) (cov.revive x.mode io))
  from_case Revive b x io may ReadGap h = inl h
  from_case Revive b x io may ChangedKey h = inr (cov.revive x.mode io)
  from_case InsertHit b x io may ReadKey h = inr (cov.insert_hit x.mode io)
  from_case InsertHit b x io may ReadGap h = inl h
  from_case InsertHit b x io may ChangedKey h = inl (read_back x.key h)
  from_case DeleteMiss b x io may ReadKey h = inl h
  from_case DeleteMiss b x io may ReadGap h = inr (cov.delete_miss x.mode io)
  from_case DeleteMiss b x io may ChangedKey h = inl h
  from_case UpdateMiss b x io may ReadKey h = inl h
  from_case UpdateMiss b x io may ReadGap h = inr (cov.update_miss may.1 x.mode io)
  from_case UpdateMiss b x io may ChangedKey h = inl h
  from_case ReviveNext b x io may ReadKey h = inl h
  from_case ReviveNext b x io may ReadGap h = inl h
  from_case ReviveNext b x io may ChangedKey h = inl h
  from_case InsertHitNext b x io may ReadKey h = inl h
  from_case InsertHitNext b x io may ReadGap h = inl h
  from_case InsertHitNext b x io may ChangedKey h = inl h

  good_after : (a : Ask) (b : Bool) (x : Hold) → MayAsk p b x a → Good p x → Good p (after p b x a)
  good_after a b x may g =
      let mode = ask_mode p laws a x.mode g.within in
      record {
        within = after_within x.mode (asked p a x.mode) g.within mode;
        serving = λ c h. ⊎_elim (λ old. after_keeps c x.mode (asked p a x.mode) g.within mode (g.serving c old)) (λ served. served) (from_case a b x g.within may c h);
      }

  rolled_was : (c : Cover) (x : Hold) → Protects c (rolled x) → Protects c x
  rolled_was ReadGap x h = absurd (true≢false (sym h))
  rolled_was ReadKey x h = by x.key h
    where
      by : (k : KeyUse) → is_read (if is_changed k then k else Free) ≡ true → is_read k ≡ true
      by Free h = h
      by Read h = refl
      by Inserted h = refl
      by Updated h = refl
      by Deleted h = refl
      by Several h = refl
  rolled_was ChangedKey x h = by x.key h
    where
      by : (k : KeyUse) → is_changed (if is_changed k then k else Free) ≡ true → is_changed k ≡ true
      by Free h = h
      by Read h = h
      by Inserted h = refl
      by Updated h = refl
      by Deleted h = refl
      by Several h = refl

  was_changed : (k : KeyUse) (b : Bool) (r : KeyUse) → Undone k b r → is_changed k ≡ true
  was_changed Free b r u = elim u [ ]
  was_changed Read b r u = elim u [ ]
  was_changed Inserted b r insert = refl
  was_changed Updated b r update = refl
  was_changed Deleted b r delete = refl
  was_changed Several b r to_insert = refl
  was_changed Several b r to_update = refl
  was_changed Several b r to_delete = refl
  was_changed Several b r (to_several c) = refl

  good_quiet : (b : Bool) (x : Hold) (c : Bool) (y : Hold) → Quiet b x c y → Good p x → Good p y
  good_quiet b x c y (commit d z unrolled) g = good_free
  good_quiet b x c y (leave d z unchanged) g = good_free
  good_quiet b x c y (roll d z unrolled) g = record { within = g.within; serving = λ d h. g.serving d (rolled_was d x h) }
  good_quiet b x c y (undo d z e k rolls u) g =
      let served : Serves p ChangedKey x.mode = g.serving ChangedKey (was_changed x.key e k u) in
      record { within = g.within; serving = λ d h. key_served x.mode k served d h }
    where
      key_served : (m : ℕ) (k : KeyUse) → Serves p ChangedKey m → (d : Cover) → Protects d (record { mode = m; key = k; gap = false; rolling = true }) → Serves p d m
      key_served m k s ReadKey h = serves_read p m s
      key_served m k s ReadGap h = absurd (true≢false (sym h))
      key_served m k s ChangedKey h = s

  good_new : (x : Hold) → Good p x → Good p (on_new_key p x)
  good_new x g = record {
    within = after_within 0 (p.table.ask row.Insert Current x.mode) (omega arith) (row_mode p laws row.Insert Current x.mode g.within);
    serving = λ c h. new_served c h;
  }
    where
      new_served : (c : Cover) → Protects c (on_new_key p x) → Serves p c (mode_after p.table 0 (p.table.ask row.Insert Current x.mode))
      new_served ReadKey h = serves_read p (mode_after p.table 0 (p.table.ask row.Insert Current x.mode)) (cov.insert x.mode g.within)
      new_served ReadGap h = cov.split x.mode g.within (g.serving ReadGap h)
      new_served ChangedKey h = cov.insert x.mode g.within

  -- What is inherited --

  module _ (heir : ℕ → ℕ) (fit : IsLawfulPurge p.table (Inherit heir)) (inh : Inherits p (Inherit heir)) (x y : Hold) (gx : Good p x) (gy : Good p y) where
    either_serves : (c : Cover) → (serves p ReadKey y.mode ≡ true) ⊎ (serves p ReadGap y.mode ≡ true) → (serves p ReadKey y.mode || serves p ReadGap y.mode) ≡ true
    either_serves c (inl s) = ap (λ b. b || serves p ReadGap y.mode) s
    either_serves c (inr s) = by (serves p ReadKey y.mode) s
      where
        by : (b : Bool) → serves p ReadGap y.mode ≡ true → (b || serves p ReadGap y.mode) ≡ true
        by true s = refl
        by false s = s

    from_ghost : (c : Cover) → Protects c y → Serves p c y.mode → (serves p ReadKey y.mode || serves p ReadGap y.mode) ≡ true → Serves p ReadGap (p.table.convert x.mode (heir y.mode))
    from_ghost c h s either = inh y.mode x.mode (serving_mode c y.mode gy.within s) gx.within either

    or_cases : (a b : Bool) → (a || b) ≡ true → (a ≡ true) ⊎ (b ≡ true)
    or_cases true b h = inl refl
    or_cases false b h = inr h

    gap_served : (x.gap || (y.gap || is_read y.key)) ≡ true → Serves p ReadGap (p.table.convert x.mode (heir y.mode))
    gap_served h = ⊎_elim
        (λ mine. converted ReadGap x.mode (heir y.mode) gx.within (fit.1 y.mode gy.within) (gx.serving ReadGap mine))
        (λ theirs. ⊎_elim
        (λ gap. let s = gy.serving ReadGap gap in from_ghost ReadGap gap s (either_serves ReadGap (inr s)))
        (λ key. let s = gy.serving ReadKey key in from_ghost ReadKey key s (either_serves ReadKey (inl s)))
        (or_cases y.gap (is_read y.key) theirs))
        (or_cases x.gap (y.gap || is_read y.key) h)

    made : Good p (inheriting p heir x y)
    made = record {
      within = converted_within x.mode (heir y.mode) gx.within (fit.1 y.mode gy.within);
      serving = λ c h. by c h;
    }
      where
        by : (c : Cover) → Protects c (inheriting p heir x y) → Serves p c (p.table.convert x.mode (heir y.mode))
        by ReadKey h = converted ReadKey x.mode (heir y.mode) gx.within (fit.1 y.mode gy.within) (gx.serving ReadKey h)
        by ReadGap h = gap_served h
        by ChangedKey h = converted ChangedKey x.mode (heir y.mode) gx.within (fit.1 y.mode gy.within) (gx.serving ChangedKey h)

    good_inherits : Good p (inherits p heir x y)
    good_inherits = by y.rolling
      where
        by : (b : Bool) → Good p (if b then x else inheriting p heir x y)
        by true = gx
        by false = made

  heir_laws : (x : Purges) → p.purges ≡ x → IsLawfulPurge p.table x × Inherits p x
  heir_laws x is = subst (λ z. IsLawfulPurge p.table z × Inherits p z) is (laws.purges, cov.inherits)

  -- Both of two that can be on one name are good.
  both_good : (b : Bool) (x y : Hold) → Beside p b x y → Good p x × Good p y
  both_good b x y (start c) = (good_free, good_free)
  both_good b x y (turn c v w s) = let g = both_good c v w s in (g.1, g.0)
  both_good b x y (ask a c v w s may granted) = let g = both_good c v w s in (good_after a c v may g.0, g.1)
  both_good b x y (quiet c v w d u s silent) = let g = both_good c v w s in (good_quiet c v d u silent g.0, g.1)
  both_good b x y (third_asks a c v w u s su sw may fu fw) = both_good c v w s
  both_good b x y (third_undoes c v w u d r s su sw silent) = both_good c v w s
  both_good b x y (new c v s unrolled) = let g = both_good c v free s in (good_new v g.0, good_free)
  both_good b x y (purge heir c v u z w is s t a d e f) =
      let g = both_good c v u s in
      let k = both_good false z w t in
      let l = heir_laws (Inherit heir) is in
      (good_inherits heir l.0 l.1 v z g.0 k.0, good_inherits heir l.0 l.1 u w g.1 k.1)

  or_left : (a : Bool) → (a || false) ≡ true → a ≡ true
  or_left true h = refl
  or_left false h = absurd (true≢false (sym h))

  if_either : (b : Bool) (k : KeyUse) → (if b then is_read k else is_changed k) ≡ true → is_read k ≡ true
  if_either true k h = h
  if_either false k h = changed_read k h

  -- So each one's lock blocks what it has to keep out.
  blocks : (a : Ask) (b : Bool) (x y : Hold) → Good p x → Good p y → MayAsk p b x a → keeps_out b y a ≡ true → is_blocked p x y a ≡ true
  blocks FetchHit b x y gx gy may h = no_fetch p y.mode x.mode gx.within (gy.serving ChangedKey (or_left (is_changed y.key) h))
  blocks FetchMiss b x y gx gy may h = absurd (true≢false (sym h))
  blocks ScanName b x y gx gy may h = no_scan p y.mode x.mode gx.within (gy.serving ChangedKey (or_left (is_changed y.key) h))
  blocks ScanStop b x y gx gy may h = absurd (true≢false (sym h))
  blocks Insert b x y gx gy may h = no_insert p y.mode x.mode gx.within (gy.serving ReadGap h)
  blocks Delete b x y gx gy may h = no_delete p y.mode x.mode gx.within (gy.serving ReadKey (if_either b y.key (or_left (if b then is_read y.key else is_changed y.key) h)))
  blocks Update b x y gx gy may h = no_update p y.mode x.mode gx.within may.1 (gy.serving ReadKey (if_either b y.key (or_left (if b then is_read y.key else is_changed y.key) h)))
  blocks Revive b x y gx gy may h =
      no_revive p y.mode x.mode gx.within (gy.serving ReadKey (ap (λ c. if c then is_changed y.key else is_read y.key) (sym may.1) ∙ or_left (if b then is_changed y.key else is_read y.key) h))
  blocks InsertHit b x y gx gy may h = no_insert_hit p y.mode x.mode gx.within (gy.serving ChangedKey (or_left (is_changed y.key) h))
  blocks DeleteMiss b x y gx gy may h = absurd (true≢false (sym h))
  blocks UpdateMiss b x y gx gy may h = absurd (true≢false (sym h))
  blocks ReviveNext b x y gx gy may h = absurd (true≢false (sym h))
  blocks InsertHitNext b x y gx gy may h = absurd (true≢false (sym h))

-- A lawful protocol of which all cases hold is safe.
pub covered_is_safe : (p : GhostProtocol) → IsLawfulGhost p → IsCoveredGhost p → IsSafeGhost p
covered_is_safe p laws cov a b x y s may keeps =
    let c = covered p cov in
    let g = both_good p laws c b x y s in
    blocks p laws c a b x y g.0 g.1 may keeps

-- So every run under it is serializable in commit order.
pub covered_runs_are_serial : (p : GhostProtocol) → IsLawfulGhost p → IsCoveredGhost p → GhostRunsAreSerial p
covered_runs_are_serial p laws cov = safe_runs_are_serial p laws (covered_is_safe p laws cov)
