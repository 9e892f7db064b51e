-- A look-up among the kept queries is one below `next`, and, where that finds nothing, one at the end of the slices.
use mathlib.Core.Path.{sym, ap, ◌∙◌}
use lib.ListN.{length}
use borrow.Author.Rules.{rules}
use Rattle.protocol.specs.declared.Lookup.{Lookup}
use Rattle.protocol.specs.Memory.{memory_of, number_from, find, lookup_of}
use Rattle.memory.proofs.SearchLaws.{find_first, find-rest}
use Rattle.memory.proofs.OrderLaws.{kept-none, fits_next, fits_count}
use Rattle.memory.proofs.search.find.Goals as goal

pub returns-then-not-fits : goal.returns-then-not-fits
unfolding find
returns-then-not-fits c =
    let a = c.args in
    let n = length a.lo.now in
    let ring = memory_of a.lo.now a.hi.now a.asker.now a.hits.now a.count a.next in
    let f = c.if-not-fits.true in
    rw (kept-none n ring f)

pub newest-requires : goal.newest-requires
newest-requires c =
    let a = c.args in
    let n = length a.lo.now in
    let h = fits_next n a.next a.count c.if-not-fits.false in
    (search rules, search rules, search rules)

pub returns-in-Some : goal.returns-in-Some
returns-in-Some c =
    let a = c.args in
    let n = length a.lo.now in
    let f = c.if-not-fits.false in
    let ring = memory_of a.lo.now a.hi.now a.asker.now a.hits.now a.count a.next in
    let told = c.in-Some.ensures in
    let first = c.min-first in
    let found = sym (ap (λ (x : Lookup). x.found) told) in
    told ∙ ap lookup_of (find_first n ring (number_from a.a a.b) first.result f first.ensures found)

pub newest-requires-in-None : goal.newest-requires-in-None
newest-requires-in-None c =
    let a = c.args in
    let n = length a.lo.now in
    let m = fits_count n a.next a.count c.if-not-fits.false in
    (search rules, search rules, search rules)

pub returns-in-None : goal.returns-in-None
returns-in-None c =
    let a = c.args in
    let n = length a.lo.now in
    let f = c.if-not-fits.false in
    let ring = memory_of a.lo.now a.hi.now a.asker.now a.hits.now a.count a.next in
    let first = c.min-first in
    let none = sym (ap (λ (x : Lookup). x.found) c.in-None.ensures) in
    c.newest-in-None.ensures
    ∙ ap lookup_of (find-rest n ring (number_from a.a a.b) first.result f first.ensures none)
