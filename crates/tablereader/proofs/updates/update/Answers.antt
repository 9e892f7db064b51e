-- Each outcome by one law: a TTL or Hops that are not right, a PATCH, a RESET.
use Rattle.std.proofs.Common.{sym, ◌∙◌}
use Rattle.tables.proofs.UpdateLaws.{bad-life, by-patch, by-reset}
use Rattle.tablereader.proofs.updates.update.Goals as goal

pub returns-then-ttl-ne1 : goal.returns-then-ttl-ne1
returns-then-ttl-ne1 c =
    let x = c.args in
    let d = bad-life x.table.now x.payload.now x.part.now x.ttl x.hops c.then-ttl-ne1.either in
    record { result = c.refuse.ensures ∙ d.result; entries = d.entries }

pub returns-then-is_patch : goal.returns-then-is_patch
returns-then-is_patch c =
    let x = c.args in
    let d =
    by-patch x.table.now x.payload.now x.part.now x.ttl x.hops c.if-ttl-ne1.false c.if-hops-ne0.false
    (sym c.if-is_patch.ensures) (c.patch.ensures.result, c.patch.ensures.entries) in
    record { result = d.0; entries = d.1 }

pub returns-else-is_patch : goal.returns-else-is_patch
returns-else-is_patch c =
    let x = c.args in
    let d =
    by-reset x.table.now x.payload.now x.part.now x.ttl x.hops c.if-ttl-ne1.false c.if-hops-ne0.false
    (sym c.if-is_patch.ensures) (c.reset.ensures.result, c.reset.ensures.entries) in
    record { result = d.0; entries = d.1 }
