-- Each rule is needed: a table that fails its cases alone, and a run under it that isn't serializable.
use Rattle.std.specs.Prelude.{◌≡◌, ℕ, zero, suc, List, [], ◌∷◌, Option, Some, None, All, map, refl, if◌then◌else◌}
use Rattle.std.specs.List.{AllByRecursion}
use Rattle.std.proofs.Math.ListN.{replicate}
use Rattle.std.proofs.lemmas.List.Elements.{All-from_recursion}
use Rattle.std.proofs.Common.{sym, ◌∙◌}
use Rattle.kr_model.specs.declared.Row.{Row}
use Rattle.kr_model.specs.declared.Row.TheVariants as row
use Rattle.kr_model.specs.declared.Side.{Side}
use Rattle.kr_model.specs.declared.Side.TheVariants.{Current, Next}
use Rattle.kr_model.specs.declared.Span.{Span}
use Rattle.kr_model.specs.declared.Rule.{Rule}
use Rattle.kr_model.specs.declared.Rule.TheVariants as rule
use Rattle.kr_model.specs.declared.FailedCase.{FailedCase}
use Rattle.kr_model.specs.declared.Event.{Event}
use Rattle.kr_model.specs.declared.Op.TheVariants.{Fetch, Scan, Go, Insert, Delete, Update, Commit}
use Rattle.kr_model.specs.declared.Reply.{Reply}
use Rattle.kr_model.specs.declared.Reply.TheVariants as reply
use Rattle.kr_model.specs.Protocol.{Protocol, IsLawful}
use Rattle.kr_model.specs.Matrices.{stands_in, convert_by, for_commit, at_once}
use Rattle.kr_model.specs.Kvl.{kvl, kvl_ask, IS, IX, S, SIX, X}
use Rattle.kr_model.specs.KvlUpdate.{kvl_update, kvl_update_ask}
use Rattle.kr_model.specs.Covers.{failed_cases}
use Rattle.kr_model.specs.Map.{Map}
use Rattle.kr_model.specs.State.{start}
use Rattle.kr_model.specs.Run.{Program, run, programs}
use Rattle.kr_model.specs.Difference.{Difference, first_difference}
use Rattle.kr_model.specs.Serial.{AreSerial}
use Rattle.kr_model.proofs.SerialLaws.{none_if_serial}
use Rattle.kr_model.proofs.Tested.{lawful_by_test}
use Rattle.kr_model.proofs.WorkedCovers.{insert_always_ix, deletes_next_instant}
use Rattle.kr_model.proofs.WorkedRuns.{by, three, verdict, split_not_serial, split_not_serial-verdict}
use Rattle.kr_theorem.specs.Needed.{IsNeeded}
use Rattle.kr_theorem.specs.Worked.{miss_at_once}

-- From the rules of all failed cases, one after another.
each_of : (fs : List FailedCase) (r : Rule) (n : ℕ) → map (λ f. f.case) fs ≡ replicate n r → AllByRecursion (λ f. f.case ≡ r) fs
each_of [] r n h = tt
each_of (f ∷ fs) r zero h = absurd (cc)
each_of (f ∷ fs) r (suc n) h = (first f.case (map (λ f. f.case) fs) h, each_of fs r n (rest f.case (map (λ f. f.case) fs) h))
  where
    first : (a : Rule) (others : List Rule) → a ∷ others ≡ r ∷ replicate n r → a ≡ r
    first a others e = cc

    rest : (a : Rule) (others : List Rule) → a ∷ others ≡ r ∷ replicate n r → others ≡ replicate n r
    rest a others e = cc

only : (p : Protocol) (r : Rule) (n : ℕ) → map (λ f. f.case) (failed_cases p) ≡ replicate n r → All (λ f. f.case ≡ r) (failed_cases p)
only p r n h = All-from_recursion (λ f. f.case ≡ r) (failed_cases p) (each_of (failed_cases p) r n h)

-- Programs with a difference aren't serializable.
refuted : (opening : Map) (ps : List Program) (d : Difference) → first_difference opening ps ≡ Some d → AreSerial opening ps → ⊥
refuted opening ps d e serial = none_some d (sym (none_if_serial opening ps serial) ∙ e)
  where
    none_some : (d : Difference) → ◌≡◌ {A = Option Difference} None (Some d) → ⊥
    none_some d h = cc

-- Key-value locking that asks otherwise.
abbrev with_ask : (Row → Side → ℕ → Option (ℕ × Span)) → Protocol
with_ask ask = record kvl { ask = ask }

-- The operation n of t was given an answer that isn't that of the serial run.
abbrev differ : ℕ → ℕ → Reply → Reply → Difference
differ t n given serial = record { txn = t; operation = n; given = given; serial = serial }

-- A table of which no case but n of the rule fails, and a run of it with a difference.
needed : (p : Protocol) (r : Rule) (n : ℕ) (events : List Event) (d : Difference) → IsLawful p → map (λ f. f.case) (failed_cases p) ≡ replicate n r → verdict p three events ≡ Some d → IsNeeded r
needed p r n events d laws all differs =
    let r' = run p (start three) events in
    (p, laws, (only p r n all, (three, events, refl, refuted three (programs r'.history) d differs)))

-- Conversion --

-- Key-value locking in which S and IX convert to IX, and an insert keeps its IX on the next name.
abbrev keeps_next_ask : Row → Side → ℕ → Option (ℕ × Span)
keeps_next_ask row.Insert Next own = for_commit IX
keeps_next_ask r s own = kvl_ask r s own

abbrev forgets_shared : Protocol
forgets_shared = record kvl {
  ask = keeps_next_ask;
  convert = convert_by ((IS ∷ IX ∷ S ∷ SIX ∷ X ∷ []) ∷ (IX ∷ IX ∷ SIX ∷ SIX ∷ X ∷ []) ∷ (S ∷ IX ∷ S ∷ SIX ∷ X ∷ []) ∷ (SIX ∷ SIX ∷ SIX ∷ SIX ∷ X ∷ []) ∷ (X ∷ X ∷ X ∷ X ∷ X ∷ []) ∷ []);
}

-- Transaction 1 finds no 17 and inserts 15, so its S on 20 becomes IX, and another inserts 17.
conversion_needed : IsNeeded rule.Conversion
conversion_needed = needed forgets_shared rule.Conversion 1 (by 1 (Fetch 17) ∷ by 1 (Insert 15 5) ∷ by 2 (Insert 17 7) ∷ by 2 Commit ∷ by 1 Commit ∷ [])
    (differ 1 1 reply.None (reply.Found 7)) (lawful_by_test forgets_shared refl) refl refl

-- Reads --

-- A fetch that finds its key doesn't keep its lock.
abbrev hit_at_once_ask : Row → Side → ℕ → Option (ℕ × Span)
hit_at_once_ask row.FetchHit Current own = at_once S
hit_at_once_ask r s own = kvl_ask r s own

-- So the key that transaction 1 found is deleted by one who commits first.
fetch_hit_needed : IsNeeded rule.FetchHit
fetch_hit_needed = needed (with_ask hit_at_once_ask) rule.FetchHit 1 (by 1 (Fetch 20) ∷ by 2 (Delete 20) ∷ by 2 Commit ∷ by 1 Commit ∷ [])
    (differ 1 1 (reply.Found 2) reply.None) (lawful_by_test (with_ask hit_at_once_ask) refl) refl refl

-- A fetch that finds nothing doesn't keep its lock on the gap. So the key that transaction 1 didn't find is inserted by one who commits first.
fetch_miss_needed : IsNeeded rule.FetchMiss
fetch_miss_needed = needed miss_at_once rule.FetchMiss 3 (by 1 (Fetch 15) ∷ by 2 (Insert 15 7) ∷ by 2 Commit ∷ by 1 Commit ∷ [])
    (differ 1 1 reply.None (reply.Found 7)) (lawful_by_test miss_at_once refl) refl refl

-- A scan doesn't keep its lock on a key that it reads.
abbrev key_at_once_ask : Row → Side → ℕ → Option (ℕ × Span)
key_at_once_ask row.ScanKey Current own = at_once S
key_at_once_ask r s own = kvl_ask r s own

-- So a key that transaction 1 has read is deleted by one who commits first.
scan_key_needed : IsNeeded rule.ScanKey
scan_key_needed = needed (with_ask key_at_once_ask) rule.ScanKey 4 (by 1 (Scan 10 20) ∷ by 2 (Delete 10) ∷ by 2 Commit ∷ by 1 Go ∷ by 1 Commit ∷ [])
    (differ 1 1 (reply.Rows ((10, 1) ∷ (20, 2) ∷ [])) (reply.Rows ((20, 2) ∷ []))) (lawful_by_test (with_ask key_at_once_ask) refl) refl refl

-- A scan doesn't keep its lock on the name at which it stops.
abbrev stop_at_once_ask : Row → Side → ℕ → Option (ℕ × Span)
stop_at_once_ask row.ScanStop Next own = at_once S
stop_at_once_ask r s own = kvl_ask r s own

-- So a key in the range that transaction 1 found empty is inserted by one who commits first.
scan_stop_needed : IsNeeded rule.ScanStop
scan_stop_needed = needed (with_ask stop_at_once_ask) rule.ScanStop 3 (by 1 (Scan 12 17) ∷ by 2 (Insert 15 7) ∷ by 2 Commit ∷ by 1 Commit ∷ [])
    (differ 1 1 (reply.Rows []) (reply.Rows ((15, 7) ∷ []))) (lawful_by_test (with_ask stop_at_once_ask) refl) refl refl

-- Changes --

-- An insert takes IS on its key.
abbrev insert_shared_ask : Row → Side → ℕ → Option (ℕ × Span)
insert_shared_ask row.Insert Current own = if stands_in (S ∷ SIX ∷ X ∷ []) own then for_commit X else for_commit IS
insert_shared_ask r s own = kvl_ask r s own

-- So transaction 2 finds what transaction 1 has inserted and not committed.
insert_needed : IsNeeded rule.Insert
insert_needed = needed (with_ask insert_shared_ask) rule.Insert 9 (by 1 (Insert 15 5) ∷ by 2 (Fetch 15) ∷ by 2 Commit ∷ by 1 Commit ∷ [])
    (differ 2 1 (reply.Found 5) reply.None) (lawful_by_test (with_ask insert_shared_ask) refl) refl refl

-- An insert takes IX on its key whatever it holds on the next name. Transaction 1 finds no 12 and inserts 15, so 12 hangs on 15, which S doesn't cover, and another
-- inserts 12.
split_needed : IsNeeded rule.Split
split_needed = needed insert_always_ix rule.Split 15 split_not_serial (differ 1 1 reply.None (reply.Found 7)) (lawful_by_test insert_always_ix refl) refl split_not_serial-verdict

-- A delete doesn't keep its lock on the next name. Transaction 2 doesn't find what transaction 1 has deleted and not committed.
delete_needed : IsNeeded rule.Delete
delete_needed = needed deletes_next_instant rule.Delete 4 (by 1 (Delete 20) ∷ by 2 (Fetch 20) ∷ by 2 Commit ∷ by 1 Commit ∷ [])
    (differ 2 1 reply.None (reply.Found 2)) (lawful_by_test deletes_next_instant refl) refl refl

-- An update doesn't keep its lock.
abbrev update_at_once_ask : Row → Side → ℕ → Option (ℕ × Span)
update_at_once_ask row.Update Current own = at_once X
update_at_once_ask r s own = kvl_update_ask r s own

abbrev update_at_once : Protocol
update_at_once = record kvl_update { ask = update_at_once_ask }

-- So transaction 2 finds the value that transaction 1 has not committed.
update_needed : IsNeeded rule.Update
update_needed = needed update_at_once rule.Update 3 (by 1 (Update 20 9) ∷ by 2 (Fetch 20) ∷ by 2 Commit ∷ by 1 Commit ∷ [])
    (differ 2 1 (reply.Found 9) (reply.Found 2)) (lawful_by_test update_at_once refl) refl refl

-- Each of the nine rules is needed.
pub each_rule_is_needed : (rule : Rule) → IsNeeded rule
each_rule_is_needed rule.Conversion = conversion_needed
each_rule_is_needed rule.FetchHit = fetch_hit_needed
each_rule_is_needed rule.FetchMiss = fetch_miss_needed
each_rule_is_needed rule.ScanKey = scan_key_needed
each_rule_is_needed rule.ScanStop = scan_stop_needed
each_rule_is_needed rule.Insert = insert_needed
each_rule_is_needed rule.Split = split_needed
each_rule_is_needed rule.Delete = delete_needed
each_rule_is_needed rule.Update = update_needed
