use Rattle.std.proofs.Common.{◌≤◌, ◌-◌, length, take}
use Rattle.kr_workers.specs.Dealt.{AreHands}
use Rattle.kr_workers.proofs.dealt.Dealt.new.Given as goal

-- The events so far are dealt.
abbrev pub invariant-loop-dealt : goal.invariant-loop-dealt
invariant-loop-dealt l = (l.dealt ≤ length l.events) × AreHands (take l.dealt l.events) l.txns.items l.hands

-- The events that are left.
abbrev pub decreases-loop-dealt : goal.decreases-loop-dealt
decreases-loop-dealt l = length l.events - l.dealt
