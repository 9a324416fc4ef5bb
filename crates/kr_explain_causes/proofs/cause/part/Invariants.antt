use Rattle.std.specs.Prelude.{◌<◌, ◌++◌, All, length, take}
use Rattle.std.specs.List.Sorted.{IsPermutation}
use Rattle.kr_explain_causes.specs.Causes.{IsSublist, cases_of}
use Rattle.kr_explain_causes.specs.Shares.{IsNamedFor}
use Rattle.kr_explain_causes.proofs.cause.part.Given as goal

-- the suspects so far are parted, in their order, and past the leader one is explained
abbrev pub invariant-loop-number : goal.invariant-loop-number
invariant-loop-number l = record {
  same : IsPermutation (cases_of (take l.number l.suspects)) (l.explained.items ++ cases_of l.left.items);
  some : l.leader.first < l.number → 0 < length l.explained.items;
  named : All (IsNamedFor l.suspects l.leader.blame) l.explained.items;
  explained : IsSublist l.explained.items (cases_of (take l.number l.suspects));
  left : IsSublist l.left.items (take l.number l.suspects);
}
