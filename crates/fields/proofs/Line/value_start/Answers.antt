-- The name, the colon and the blanks are runs within the line, so that neither sum overflows.
use mathlib.Core.Path.{ap, ◌∙◌}
use Prim.Native.Nat.{◌+◌}
use native.Mathlib.Omega.{arith}
use lib.ListN.{get_or, drop, length-drop}
use Rattle.ascii.specs.Text.{is_blank, is_name, leading}
use Rattle.ascii.proofs.TextLaws.{run_length}
use Rattle.fields.proofs.Line.value_start.Goals as goal

pub overflow_add-colon : goal.overflow_add-colon
overflow_add-colon c = omega (arith, c.args.self.measured, run_length (λ t. is_name (get_or t 0 0)) c.args.self.text.now)

pub overflow_add-result : goal.overflow_add-result
overflow_add-result c =
    let x = c.args.self in
    omega (
      arith,
      x.measured,
      run_length (λ t. is_name (get_or t 0 0)) x.text.now,
      c.leading.ensures ∙ ap (leading is_blank) c.after.ensures,
      run_length (λ t. is_blank (get_or t 0 0)) (drop (x.name + 1) x.text.now),
      length-drop (x.name + 1) x.text.now,
    )
