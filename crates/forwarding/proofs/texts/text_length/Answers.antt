-- A payload of less than two bytes has no text; in others it ends at the first zero byte behind the speed.
use Rattle.forwarding.proofs.TextLaws.{text-none, text-some}
use Rattle.forwarding.proofs.texts.text_length.Goals as goal

pub returns-then-payload-lt2 : goal.returns-then-payload-lt2
returns-then-payload-lt2 c = text-none c.args.payload.now c.if-payload-lt2.true

pub returns : goal.returns
returns c = text-some c.args.payload.now c.until_zero-length.result
    c.until_zero-length.ensures
