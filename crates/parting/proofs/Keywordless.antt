-- No table keeps back a text without a keyword, proved.
-- Assumes nothing.
use Rattle.wire.specs.Header.{payload_of}
use Rattle.tables.specs.Admission.{withholds}
use Rattle.protocol.specs.Queries.{text_in}
use Rattle.parting.specs.Keywordless.{WithheldByNone, GoesToAll, AskedOfAll}
use Rattle.parting.proofs.Runs.{no_keyword}
use Rattle.parting.proofs.Taken.{query-goes, own-goes}

pub withheld-by-none : WithheldByNone
unfolding withholds
withheld-by-none text p h ttl = rw ((no_keyword text).1 p)

pub goes-to-all : GoesToAll
goes-to-all s l m t route kind p ok k h =
    let x = query-goes s route l m t kind ok k h in (
      (λ e. let v = x.0 e in (v.0, v.1, v.2)),
      (λ v. x.1 (v.0, v.1, v.2, withheld-by-none (text_in (payload_of m)) p _ _)),
    )

pub asked_of_all : AskedOfAll
asked_of_all s number text out route p ok k h =
    let x = own-goes s route number text out ok k h in
    ((λ e. (x.0 e).0), (λ v. x.1 (v, withheld-by-none text p _ _)))
