-- A report of which printing failed.
use Rattle.std.specs.Prelude.{Bool, Result, Ok, Err, IfErr, IsTrue}
use Rattle.kr_cli.specs.declared.endings.Ending.{Ending}
use Rattle.kr_cli.specs.Endings.{is_output}

-- what holds holds where output failed
pub where_output : (r : Result Bool Ending) (A : Type 0) → A → IfErr r (λ e. IsTrue (is_output e) → A)
where_output (Ok b) A a = tt
where_output (Err e) A a = λ output. a
