use Rattle.std.proofs.Common.{arith}
use Rattle.std.proofs.lemmas.Grind.{common_steps}
use Rattle.std.specs.Prelude.{string_bytes}
use Rattle.kr_cli_diagnosis.proofs.repeated.repeated_help.Goals as goal

pub returns-clause-helps : goal.returns-clause-helps
returns-clause-helps c = (
  string_bytes c.in_ok-text.text,
  (
    c.in_ok-text.ensures,
    (
      string_bytes c.in_ok-warning_of.field-0,
      (
        c.in_ok-warning_of.ensures,
        (string_bytes c.in_ok-warning_of-2.field-0, (c.in_ok-warning_of-2.ensures, grind (arith, common_steps))),
      ),
    ),
  ),
)

pub returns-clause-none : goal.returns-clause-none
returns-clause-none c = grind (arith, common_steps)
