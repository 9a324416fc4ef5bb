-- Which refusal applies, by what is known of the transaction.
use Rattle.std.specs.Prelude.{Bool, not, ◌&&◌, Option, Some, None, if◌then◌else◌}
use Rattle.kr_model.specs.Step.{takes_back, goes_on, is_go, is_bad_range, is_update, is_back}
use Rattle.kr_model.specs.declared.Op.{Op}
use Rattle.kr_model.specs.declared.Refusal.{Refusal}
use Rattle.kr_model.specs.declared.Refusal.TheVariants as refusal

-- The refusal of an operation whose transaction has not ended, may be active and doesn't roll back, by whether updates are offered, whether a scan is in progress, and whether no change is left.
abbrev pub scan_refusal : Bool → Bool → Bool → Op → Option Refusal
scan_refusal updates scanning unchanged o =
    if scanning && not (goes_on o) then Some refusal.Busy
    else if not scanning && is_go o then Some refusal.NoScan
    else if is_bad_range o then Some refusal.BadRange
    else if is_update o && not updates then Some refusal.NoUpdate
    else if unchanged && is_back o then Some refusal.NothingLeft
    else None

-- The same, by whether the transaction rolls back too.
abbrev pub refusal_in : Bool → Bool → Bool → Bool → Op → Option Refusal
refusal_in updates rolling scanning unchanged o = if rolling && not (takes_back o) then Some refusal.RollingBack else scan_refusal updates scanning unchanged o
