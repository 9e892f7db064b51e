-- The payload is within the message, and the text within the payload.
use mathlib.Core.Path.{ap}
use native.Mathlib.Omega.{arith}
use Rattle.wire.specs.declared.Header.{Header}
use Rattle.answerer.proofs.AskedLaws.{text-cut, text-inside}
use Rattle.answerer.proofs.asked.query_text.Goals as goal

pub slice_bounds-payload-end : goal.slice_bounds-payload-end
slice_bounds-payload-end c =
    omega (arith, ap (λ (h : Header). h.size) c.read_header-h.ensures, c.requires.1)

pub overflow_add-text_end : goal.overflow_add-text_end
overflow_add-text_end c =
    omega (
      arith,
      text-inside c.args.query.now _ c.read_header-h.ensures _
          c.text_length-text.ensures c.requires.2,
    )

pub slice_bounds-result-end : goal.slice_bounds-result-end
slice_bounds-result-end c =
    text-inside c.args.query.now _ c.read_header-h.ensures _
    c.text_length-text.ensures c.requires.2

pub returns : goal.returns
returns c =
    text-cut c.args.query.now _ c.read_header-h.ensures _ c.text_length-text.ensures
