-- Each fixed schedule goes wrong under every lawful protocol whose locks let it.
use Rattle.std.specs.Prelude.{true, refl}
use Rattle.kr_model.specs.declared.Row.TheVariants.{FetchMiss, ScanKey, ScanStop, Delete}
use Rattle.kr_model.specs.declared.Side.TheVariants.{Current, Next}
use Rattle.kr_model.specs.declared.Op.TheVariants as op
use Rattle.kr_model.specs.Protocol.{Protocol, IsLawful}
use Rattle.kr_theorem.specs.Wrong.{GoesWrong}
use Rattle.kr_theorem.specs.Fixed.{first, FixedHole, fetch_lets_delete, fetch_lets_update, scan_lets_delete, scan_lets_update, miss_lets_delete, stop_lets_delete, update_lets_fetch, update_lets_scan, update_lets_delete, update_lets_update, insert_lets_fetch, insert_lets_scan, insert_lets_delete, insert_lets_update, insert_lets_miss, insert_lets_stop, insert_lets_delete_below, delete_lets_miss, delete_lets_scan, delete_lets_stop, delete_lets_delete, delete_lets_delete_below, miss_lets_insert, scan_lets_insert, stop_lets_insert, delete_lets_insert}
use Rattle.kr_theorem.specs.Schedules.{read_then_insert, delete_then, schedule, opening}
use Rattle.kr_theorem.proofs.Follow.{goes_wrong}
use Rattle.kr_theorem.proofs.Chains.{chain_goes_wrong}

pub fixed_goes_wrong : (p : Protocol) → IsLawful p → (h : FixedHole p) → GoesWrong p (opening h) (schedule h)
fixed_goes_wrong p laws (fetch_lets_delete l) = goes_wrong p laws p.updates refl _ _ refl (l, tt) refl refl
fixed_goes_wrong p laws (fetch_lets_update u l) = goes_wrong p laws true u _ _ refl (l, tt) refl refl
fixed_goes_wrong p laws (scan_lets_delete l) = goes_wrong p laws p.updates refl _ _ refl (l, tt) refl refl
fixed_goes_wrong p laws (scan_lets_update u l) = goes_wrong p laws true u _ _ refl (l, tt) refl refl
fixed_goes_wrong p laws (miss_lets_delete l) = goes_wrong p laws p.updates refl _ _ refl (l, tt) refl refl
fixed_goes_wrong p laws (stop_lets_delete l) = goes_wrong p laws p.updates refl _ _ refl (l, tt) refl refl
fixed_goes_wrong p laws (update_lets_fetch u l) = goes_wrong p laws true u _ _ refl (l, tt) refl refl
fixed_goes_wrong p laws (update_lets_scan u l) = goes_wrong p laws true u _ _ refl (l, tt) refl refl
fixed_goes_wrong p laws (update_lets_delete u l) = goes_wrong p laws true u _ _ refl (l, tt) refl refl
fixed_goes_wrong p laws (update_lets_update u l) = goes_wrong p laws true u _ _ refl (l, tt) refl refl
fixed_goes_wrong p laws (insert_lets_fetch l) = goes_wrong p laws p.updates refl _ _ refl (l, tt) refl refl
fixed_goes_wrong p laws (insert_lets_scan l) = goes_wrong p laws p.updates refl _ _ refl (l, tt) refl refl
fixed_goes_wrong p laws (insert_lets_delete l n) = goes_wrong p laws p.updates refl _ _ refl (l, (n, tt)) refl refl
fixed_goes_wrong p laws (insert_lets_update u l) = goes_wrong p laws true u _ _ refl (l, tt) refl refl
fixed_goes_wrong p laws (insert_lets_miss l) = goes_wrong p laws p.updates refl _ _ refl (l, tt) refl refl
fixed_goes_wrong p laws (insert_lets_stop l) = goes_wrong p laws p.updates refl _ _ refl (l, tt) refl refl
fixed_goes_wrong p laws (insert_lets_delete_below l) = goes_wrong p laws p.updates refl _ _ refl (l, tt) refl refl
fixed_goes_wrong p laws (delete_lets_miss l) = goes_wrong p laws p.updates refl _ _ refl (l, tt) refl refl
fixed_goes_wrong p laws (delete_lets_scan l) = goes_wrong p laws p.updates refl _ _ refl (l, tt) refl refl
fixed_goes_wrong p laws (delete_lets_stop l) = goes_wrong p laws p.updates refl _ _ refl (l, tt) refl refl
fixed_goes_wrong p laws (delete_lets_delete l) = goes_wrong p laws p.updates refl _ _ refl (l, tt) refl refl
fixed_goes_wrong p laws (delete_lets_delete_below l) = goes_wrong p laws p.updates refl _ _ refl (l, tt) refl refl
fixed_goes_wrong p laws (miss_lets_insert n le l) = chain_goes_wrong p laws (read_then_insert (op.Fetch 40)) (first p FetchMiss Next) refl refl refl n le l
fixed_goes_wrong p laws (scan_lets_insert n le l) = chain_goes_wrong p laws (read_then_insert (op.Scan 40 60)) (first p ScanKey Current) refl refl refl n le l
fixed_goes_wrong p laws (stop_lets_insert n le l) = chain_goes_wrong p laws (read_then_insert (op.Scan 40 40)) (first p ScanStop Next) refl refl refl n le l
fixed_goes_wrong p laws (delete_lets_insert n le l) = chain_goes_wrong p laws (λ k. delete_then k (op.Insert 40 4)) (first p Delete Next) refl refl refl n le l
