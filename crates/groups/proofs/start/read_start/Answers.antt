-- Three cases, by the words the line starts with: a greeting, a reply, and neither.
use mathlib.Core.Path.{sym, ap, ◌∙◌}
use Rattle.groups.specs.Start.{greeting_text, reply_text, start_of, greeting_of, reply_of}
use Rattle.groups.proofs.Prefix.{starting}
use Rattle.groups.proofs.start.read_start.Goals as goal

pub returns-in-Some : goal.returns-in-Some
unfolding start_of
returns-in-Some c =
    let h = c.in-Some.ensures.cases in
    rw (sym (starting greeting_text c.args.line.now) ∙ h.0) (c.read_greeting.ensures ∙ ap greeting_of h.1)

pub returns-in-Some-strip_prefix : goal.returns-in-Some-strip_prefix
unfolding start_of
returns-in-Some-strip_prefix c =
    let h = c.in-Some-strip_prefix.ensures.cases in
    rw (
      sym (starting greeting_text c.args.line.now) ∙ c.in_default.ensures.cases,
      sym (starting reply_text c.args.line.now) ∙ h.0,
    ) (c.read_reply.ensures ∙ ap reply_of h.1)

pub returns-in_default-strip_prefix : goal.returns-in_default-strip_prefix
unfolding start_of
returns-in_default-strip_prefix c =
    rw (
      sym (starting greeting_text c.args.line.now) ∙ c.in_default.ensures.cases,
      sym (starting reply_text c.args.line.now) ∙ c.in_default-strip_prefix.ensures.cases,
    )
