-- Each rule is needed: a table that fails its cases alone, and a run under it that isn't serializable.
use Rattle.std.specs.Prelude.{◌≡◌, ℕ, zero, suc, ◌≤◌, Bool, true, false, List, [], ◌∷◌, Option, Some, None, All, map, refl, ◌==◌, if◌then◌else◌, unwrap_or}
use Rattle.std.specs.List.{AllByRecursion}
use Rattle.std.proofs.Math.ListN.{replicate}
use Rattle.std.proofs.lemmas.List.Elements.{All-from_recursion}
use Rattle.std.proofs.Common.{ap, subst, arith}
use Rattle.kr_model.specs.declared.Row.{Row}
use Rattle.kr_model.specs.declared.Row.TheVariants as row
use Rattle.kr_model.specs.declared.Side.{Side}
use Rattle.kr_model.specs.declared.Side.TheVariants.{Current, Next}
use Rattle.kr_model.specs.declared.Span.{Span}
use Rattle.kr_model.specs.declared.Span.TheVariants.{Instant}
use Rattle.kr_model.specs.declared.Op.TheVariants as op
use Rattle.kr_model.specs.declared.Reply.TheVariants as reply
use Rattle.kr_model.specs.Protocol.{Protocol, IsLawful}
use Rattle.kr_model.specs.Matrices.{stands_in, convert_by, for_commit, at_once}
use Rattle.kr_model.specs.Kvl.{kvl, IS, IX, S, SIX, X}
use Rattle.kr_model.specs.Run.{programs}
use Rattle.kr_model.specs.Difference.{Difference, first_difference}
use Rattle.kr_model.proofs.Tested.{lawful_by_test}
use Rattle.kr_ghost.specs.declared.vain.Vain.{Vain}
use Rattle.kr_ghost.specs.declared.vain.Vain.TheVariants as vain
use Rattle.kr_ghost.specs.Protocol.{GhostProtocol, AsksMode, IsLawfulGhost, Inherit}
use Rattle.kr_ghost.specs.State.{opened}
use Rattle.kr_ghost.specs.declared.moves.Move.{Move}
use Rattle.kr_ghost.specs.declared.moves.Move.TheVariants.{Purge}
use Rattle.kr_ghost.specs.Run.{run}
use Rattle.kr_ghost.specs.declared.cases.Rule.{Rule}
use Rattle.kr_ghost.specs.declared.cases.Rule.TheVariants.{Conversion, FetchHit, FetchMiss, ScanName, ScanStop, Insert, Split, Delete, Update, Revive, Heir, InsertHit, DeleteMiss, UpdateMiss}
use Rattle.kr_ghost.specs.declared.cases.FailedCase.{FailedCase}
use Rattle.kr_ghost.specs.Covers.{failed_cases}
use Rattle.kr_ghost.specs.Needed.{IsNeeded}
use Rattle.kr_ghost.specs.Worked.{three, by, after_delete, dropped}
use Rattle.kr_ghost.proofs.Bundled.{requested_is, mode_is, asks_nothing, no_rows}
use Rattle.kr_ghost.proofs.Wrong.{then_commit, differ, wrong}

-- From the rules of all failed cases, one after another.
each_of : (fs : List FailedCase) (r : Rule) (n : ℕ) → map (λ f. f.case) fs ≡ replicate n r → AllByRecursion (λ f. f.case ≡ r) fs
each_of [] r n h = tt
each_of (f ∷ fs) r zero h = absurd (cc)
each_of (f ∷ fs) r (suc n) h = (first f.case (map (λ f. f.case) fs) h, each_of fs r n (rest f.case (map (λ f. f.case) fs) h))
  where
    first : (a : Rule) (others : List Rule) → a ∷ others ≡ r ∷ replicate n r → a ≡ r
    first a others e = cc

    rest : (a : Rule) (others : List Rule) → a ∷ others ≡ r ∷ replicate n r → others ≡ replicate n r
    rest a others e = cc

only : (p : GhostProtocol) (r : Rule) (n : ℕ) → map (λ f. f.case) (failed_cases p) ≡ replicate n r → All (λ f. f.case ≡ r) (failed_cases p)
only p r n h = All-from_recursion (λ f. f.case ≡ r) (failed_cases p) (each_of (failed_cases p) r n h)

-- Key-value locking with ghosts, whose locks the next name inherits as S.
abbrev shared_heir : ℕ → ℕ
shared_heir m = if m == 0 then 0 else S

shared_within : (h : ℕ) → h ≤ 5 → shared_heir h ≤ 5
shared_within h le = one (h == 0)
  where
    one : (b : Bool) → (if b then 0 else 3) ≤ 5
    one true = omega arith
    one false = omega arith

abbrev key_ask : Row → Side → ℕ → Option (ℕ × Span)
key_ask row.FetchHit Current own = for_commit S
key_ask row.FetchMiss Next own = for_commit S
key_ask row.ScanKey Current own = for_commit S
key_ask row.ScanStop Next own = for_commit S
key_ask row.Insert Current own = if stands_in (S ∷ SIX ∷ X ∷ []) own then for_commit X else for_commit IX
key_ask row.Insert Next own = at_once IX
key_ask row.Delete Current own = for_commit X
key_ask row.Update Current own = for_commit X
key_ask row.FetchHit Next own = None
key_ask row.FetchMiss Current own = None
key_ask row.ScanKey Next own = None
key_ask row.ScanStop Current own = None
key_ask row.Delete Next own = None
key_ask row.Update Next own = None

abbrev table_asking : (Row → Side → ℕ → Option (ℕ × Span)) → Protocol
table_asking ask = record kvl { ask = ask; updates = true }

abbrev asking : (Row → Side → ℕ → Option (ℕ × Span)) → GhostProtocol
asking ask = record { table = table_asking ask; revive = for_commit X; revive_next = None; vain = λ v. None; insert_hit_next = None; purges = Inherit shared_heir }

-- A table of which no case but n of the rule fails, and a run of it with a difference.
needed : (p : GhostProtocol) (r : Rule) (n : ℕ) (moves : List Move) (d : Difference) → IsLawfulGhost p → map (λ f. f.case) (failed_cases p) ≡ replicate n r
    → first_difference three (programs (run p (opened three) moves).history) ≡ Some d → IsNeeded r
needed p r n moves d laws all differs = (p, laws, only p r n all, wrong p moves d differs)

-- Whatever it asks, where it asks for modes.
asking_lawful : (ask : Row → Side → ℕ → Option (ℕ × Span)) → IsLawful (table_asking ask) → IsLawfulGhost (asking ask)
asking_lawful ask laws = record {
  table = laws;
  revive = mode_is (table_asking ask) X (record { some = omega arith; in_range = omega arith });
  revive_next = asks_nothing (table_asking ask);
  vain = no_rows (table_asking ask);
  insert_hit_next = asks_nothing (table_asking ask);
  purges = (refl, shared_within);
}

-- S and IX convert to IX, and an insert keeps its IX on the next name. Transaction 1 finds no 17 and inserts 15, so its S on 20 becomes IX, and another inserts 17.
abbrev keeps_next_ask : Row → Side → ℕ → Option (ℕ × Span)
keeps_next_ask row.Insert Next own = for_commit IX
keeps_next_ask r s own = key_ask r s own

abbrev forgets_shared_table : Protocol
forgets_shared_table = record (table_asking keeps_next_ask) {
  convert = convert_by ((IS ∷ IX ∷ S ∷ SIX ∷ X ∷ []) ∷ (IX ∷ IX ∷ SIX ∷ SIX ∷ X ∷ []) ∷ (S ∷ IX ∷ S ∷ SIX ∷ X ∷ []) ∷ (SIX ∷ SIX ∷ SIX ∷ SIX ∷ X ∷ []) ∷ (X ∷ X ∷ X ∷ X ∷ X ∷ []) ∷ []);
}

abbrev forgets_shared : GhostProtocol
forgets_shared = record { table = forgets_shared_table; revive = for_commit X; revive_next = None; vain = λ v. None; insert_hit_next = None; purges = Inherit shared_heir }

conversion_needed : IsNeeded Conversion
conversion_needed = needed forgets_shared Conversion 1 (by 1 (op.Fetch 17) ∷ by 1 (op.Insert 15 5) ∷ by 2 (op.Insert 17 7) ∷ then_commit (2 ∷ 1 ∷ [])) (differ 1 1 reply.None (reply.Found 7))
    (record {
      table = lawful_by_test forgets_shared_table refl;
      revive = mode_is forgets_shared_table X (record { some = omega arith; in_range = omega arith });
      revive_next = asks_nothing forgets_shared_table;
      vain = no_rows forgets_shared_table;
      insert_hit_next = asks_nothing forgets_shared_table;
      purges = (refl, shared_within);
    }) refl refl

-- A fetch that finds its key doesn't keep its lock: the key is deleted by one who commits first.
abbrev hit_ask : Row → Side → ℕ → Option (ℕ × Span)
hit_ask row.FetchHit Current own = at_once S
hit_ask r s own = key_ask r s own

fetch_hit_needed : IsNeeded FetchHit
fetch_hit_needed =
    needed (asking hit_ask) FetchHit 1 (by 1 (op.Fetch 20) ∷ by 2 (op.Delete 20) ∷ then_commit (2 ∷ 1 ∷ [])) (differ 1 1 (reply.Found 2) reply.None)
    (asking_lawful hit_ask (lawful_by_test (table_asking hit_ask) refl)) refl refl

-- One that finds no name doesn't: the key is inserted by one who commits first.
abbrev miss_ask : Row → Side → ℕ → Option (ℕ × Span)
miss_ask row.FetchMiss Next own = at_once S
miss_ask r s own = key_ask r s own

fetch_miss_needed : IsNeeded FetchMiss
fetch_miss_needed =
    needed (asking miss_ask) FetchMiss 3 (by 1 (op.Fetch 15) ∷ by 2 (op.Insert 15 7) ∷ then_commit (2 ∷ 1 ∷ [])) (differ 1 1 reply.None (reply.Found 7))
    (asking_lawful miss_ask (lawful_by_test (table_asking miss_ask) refl)) refl refl

-- A scan doesn't keep its lock on a name that it looks at: the key is deleted by one who commits first.
abbrev look_ask : Row → Side → ℕ → Option (ℕ × Span)
look_ask row.ScanKey Current own = at_once S
look_ask r s own = key_ask r s own

scan_name_needed : IsNeeded ScanName
scan_name_needed =
    needed (asking look_ask) ScanName 4 (by 1 (op.Scan 10 20) ∷ by 2 (op.Delete 10) ∷ by 2 op.Commit ∷ by 1 op.Go ∷ by 1 op.Commit ∷ [])
    (differ 1 1 (reply.Rows ((10, 1) ∷ (20, 2) ∷ [])) (reply.Rows ((20, 2) ∷ [])))
    (asking_lawful look_ask (lawful_by_test (table_asking look_ask) refl)) refl refl

-- Nor on the name at which it stops: a key in its range is inserted by one who commits first.
abbrev stop_ask : Row → Side → ℕ → Option (ℕ × Span)
stop_ask row.ScanStop Next own = at_once S
stop_ask r s own = key_ask r s own

scan_stop_needed : IsNeeded ScanStop
scan_stop_needed =
    needed (asking stop_ask) ScanStop 3 (by 1 (op.Scan 12 17) ∷ by 2 (op.Insert 15 7) ∷ then_commit (2 ∷ 1 ∷ []))
    (differ 1 1 (reply.Rows []) (reply.Rows ((15, 7) ∷ []))) (asking_lawful stop_ask (lawful_by_test (table_asking stop_ask) refl)) refl refl

-- An insert takes IS on its key: another finds it before the commit.
abbrev insert_ask : Row → Side → ℕ → Option (ℕ × Span)
insert_ask row.Insert Current own = if stands_in (S ∷ SIX ∷ X ∷ []) own then for_commit X else for_commit IS
insert_ask r s own = key_ask r s own

insert_needed : IsNeeded Insert
insert_needed =
    needed (asking insert_ask) Insert 3 (by 1 (op.Insert 15 5) ∷ by 2 (op.Fetch 15) ∷ then_commit (2 ∷ 1 ∷ [])) (differ 2 1 (reply.Found 5) reply.None)
    (asking_lawful insert_ask (lawful_by_test (table_asking insert_ask) refl)) refl refl

-- It takes IX whatever is held on the next name. Transaction 1 finds no 12 and inserts 15, so 12 hangs on 15, and another inserts 12.
abbrev split_ask : Row → Side → ℕ → Option (ℕ × Span)
split_ask row.Insert Current own = for_commit IX
split_ask r s own = key_ask r s own

split_needed : IsNeeded Split
split_needed =
    needed (asking split_ask) Split 3 (by 1 (op.Fetch 12) ∷ by 1 (op.Insert 15 5) ∷ by 2 (op.Insert 12 7) ∷ then_commit (2 ∷ 1 ∷ []))
    (differ 1 1 reply.None (reply.Found 7)) (asking_lawful split_ask (lawful_by_test (table_asking split_ask) refl)) refl refl

-- A delete doesn't keep its lock: another doesn't find the key before the commit.
abbrev delete_ask : Row → Side → ℕ → Option (ℕ × Span)
delete_ask row.Delete Current own = at_once X
delete_ask r s own = key_ask r s own

delete_needed : IsNeeded Delete
delete_needed =
    needed (asking delete_ask) Delete 3 (by 1 (op.Delete 20) ∷ by 2 (op.Fetch 20) ∷ then_commit (2 ∷ 1 ∷ [])) (differ 2 1 reply.None (reply.Found 2))
    (asking_lawful delete_ask (lawful_by_test (table_asking delete_ask) refl)) refl refl

-- Nor does an update: another finds the new value before the commit.
abbrev update_ask : Row → Side → ℕ → Option (ℕ × Span)
update_ask row.Update Current own = at_once X
update_ask r s own = key_ask r s own

update_needed : IsNeeded Update
update_needed =
    needed (asking update_ask) Update 3 (by 1 (op.Update 20 9) ∷ by 2 (op.Fetch 20) ∷ then_commit (2 ∷ 1 ∷ [])) (differ 2 1 (reply.Found 9) (reply.Found 2))
    (asking_lawful update_ask (lawful_by_test (table_asking update_ask) refl)) refl refl

-- Nor does an insert of a ghost: another finds the key before the commit.
abbrev revives_at_once : GhostProtocol
revives_at_once = record (asking key_ask) { revive = at_once X }

revive_needed : IsNeeded Revive
revive_needed = needed revives_at_once Revive 3 (after_delete (by 2 (op.Insert 20 9) ∷ by 3 (op.Fetch 20) ∷ then_commit (3 ∷ 2 ∷ []))) (differ 3 1 (reply.Found 9) reply.None)
    (record {
      table = lawful_by_test (table_asking key_ask) refl;
      revive = requested_is (table_asking key_ask) X Instant (record { some = omega arith; in_range = omega arith });
      revive_next = asks_nothing (table_asking key_ask);
      vain = no_rows (table_asking key_ask);
      insert_hit_next = asks_nothing (table_asking key_ask);
      purges = (refl, shared_within);
    }) refl refl

-- A purge drops the locks on the ghost: the key that transaction 2 didn't find is inserted by one who commits first.
abbrev drops : GhostProtocol
drops = record (asking key_ask) { purges = Inherit dropped }

heir_needed : IsNeeded Heir
heir_needed = needed drops Heir 15 (after_delete (by 2 (op.Fetch 20) ∷ Purge 20 ∷ by 3 (op.Insert 20 9) ∷ then_commit (3 ∷ 2 ∷ []))) (differ 2 1 reply.None (reply.Found 9))
    (record {
      table = lawful_by_test (table_asking key_ask) refl;
      revive = mode_is (table_asking key_ask) X (record { some = omega arith; in_range = omega arith });
      revive_next = asks_nothing (table_asking key_ask);
      vain = no_rows (table_asking key_ask);
      insert_hit_next = asks_nothing (table_asking key_ask);
      purges = (refl, λ h le. omega arith);
    }) refl refl

-- A vain step that doesn't keep its lock --

-- Only this vain step has a row, and it takes S at once.
abbrev only_row : Vain → Vain → Option (Option (ℕ × Span))
only_row vain.InsertHit vain.InsertHit = Some (at_once S)
only_row vain.DeleteMiss vain.DeleteMiss = Some (at_once S)
only_row vain.UpdateMiss vain.UpdateMiss = Some (at_once S)
only_row _ _ = None

abbrev passing : Vain → GhostProtocol
passing v = record (asking key_ask) { vain = only_row v }

at_once_is : (asked : Option (ℕ × Span)) → ◌≡◌ {A = Option (Option (ℕ × Span))} (Some (at_once S)) (Some asked) → AsksMode (table_asking key_ask) asked
at_once_is asked e =
    subst (AsksMode (table_asking key_ask)) (ap (λ (x : Option (Option (ℕ × Span))). unwrap_or x None) e)
    (requested_is (table_asking key_ask) S Instant (record { some = omega arith; in_range = omega arith }))

row_asks : (w v : Vain) (asked : Option (ℕ × Span)) → only_row w v ≡ Some asked → AsksMode (table_asking key_ask) asked
row_asks vain.InsertHit vain.InsertHit asked e = at_once_is asked e
row_asks vain.InsertHit vain.DeleteMiss asked e = no_rows (table_asking key_ask) vain.DeleteMiss asked e
row_asks vain.InsertHit vain.UpdateMiss asked e = no_rows (table_asking key_ask) vain.UpdateMiss asked e
row_asks vain.DeleteMiss vain.InsertHit asked e = no_rows (table_asking key_ask) vain.InsertHit asked e
row_asks vain.DeleteMiss vain.DeleteMiss asked e = at_once_is asked e
row_asks vain.DeleteMiss vain.UpdateMiss asked e = no_rows (table_asking key_ask) vain.UpdateMiss asked e
row_asks vain.UpdateMiss vain.InsertHit asked e = no_rows (table_asking key_ask) vain.InsertHit asked e
row_asks vain.UpdateMiss vain.DeleteMiss asked e = no_rows (table_asking key_ask) vain.DeleteMiss asked e
row_asks vain.UpdateMiss vain.UpdateMiss asked e = at_once_is asked e

passing_lawful : (w : Vain) → IsLawfulGhost (passing w)
passing_lawful w = record {
  table = lawful_by_test (table_asking key_ask) refl;
  revive = mode_is (table_asking key_ask) X (record { some = omega arith; in_range = omega arith });
  revive_next = asks_nothing (table_asking key_ask);
  vain = row_asks w;
  insert_hit_next = asks_nothing (table_asking key_ask);
  purges = (refl, shared_within);
}

-- The key that an insert found is deleted by one who commits first.
insert_hit_needed : IsNeeded InsertHit
insert_hit_needed =
    needed (passing vain.InsertHit) InsertHit 1 (by 1 (op.Insert 20 9) ∷ by 2 (op.Delete 20) ∷ then_commit (2 ∷ 1 ∷ [])) (differ 1 1 reply.Duplicate reply.Done)
    (passing_lawful vain.InsertHit) refl refl

-- The key that a delete or an update didn't find is inserted by one who commits first.
delete_miss_needed : IsNeeded DeleteMiss
delete_miss_needed =
    needed (passing vain.DeleteMiss) DeleteMiss 3 (by 1 (op.Delete 15) ∷ by 2 (op.Insert 15 7) ∷ then_commit (2 ∷ 1 ∷ [])) (differ 1 1 reply.Absent (reply.Deleted 7))
    (passing_lawful vain.DeleteMiss) refl refl

update_miss_needed : IsNeeded UpdateMiss
update_miss_needed =
    needed (passing vain.UpdateMiss) UpdateMiss 3 (by 1 (op.Update 15 9) ∷ by 2 (op.Insert 15 7) ∷ then_commit (2 ∷ 1 ∷ [])) (differ 1 1 reply.Absent (reply.Updated 7))
    (passing_lawful vain.UpdateMiss) refl refl

-- Each rule of the table is needed.
pub each_rule_is_needed : (rule : Rule) → IsNeeded rule
each_rule_is_needed Conversion = conversion_needed
each_rule_is_needed FetchHit = fetch_hit_needed
each_rule_is_needed FetchMiss = fetch_miss_needed
each_rule_is_needed ScanName = scan_name_needed
each_rule_is_needed ScanStop = scan_stop_needed
each_rule_is_needed Insert = insert_needed
each_rule_is_needed Split = split_needed
each_rule_is_needed Delete = delete_needed
each_rule_is_needed Update = update_needed
each_rule_is_needed Revive = revive_needed
each_rule_is_needed Heir = heir_needed
each_rule_is_needed InsertHit = insert_hit_needed
each_rule_is_needed DeleteMiss = delete_miss_needed
each_rule_is_needed UpdateMiss = update_miss_needed
