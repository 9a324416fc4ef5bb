use Rattle.kr_cli_diagnosis.proofs.help.quoted.Goals as goal

pub returns : goal.returns
returns c = (
  c.line_start-first.result,
  (
    c.line_end-last.result,
    (
      c.shown_start-from.result,
      (
        c.shown_end-to.result,
        (
          c.line_start-first.ensures,
          (
            c.line_end-last.ensures,
            (
              c.shown_start-from.ensures.behind,
              (
                c.shown_start-from.ensures.before,
                (c.shown_end-to.ensures.behind, (c.shown_end-to.ensures.before, (c.in_ok-before.ensures, c.in_ok-after.ensures))),
              ),
            ),
          ),
        ),
      ),
    ),
  ),
)
