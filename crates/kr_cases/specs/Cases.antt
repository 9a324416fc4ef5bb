-- What a checker lists and tells.
use Rattle.std.specs.Prelude.{List}
use Rattle.std.specs.List.{filter_map}
use Rattle.kr_model.specs.declared.FailedCase.{FailedCase}
use Rattle.kr_model.specs.Protocol.{Protocol}
use Rattle.kr_model.specs.Covers.{Case, failure}

-- The cases that don't hold, of those listed, in order.
abbrev pub failures : Protocol → List Case → List FailedCase
failures p cs = filter_map (failure p) cs
