-- A text too long or a lack of room writes nothing; else the stores, one behind another, make the query.
use mathlib.Core.Path.{◌≡◌}
use mathlib.Core.Bool.{true}
use lib.ListN.{length-set}
use native.Mathlib.Omega.{arith}
use borrow.Author.Tests.{lt-leb, le-leb}
use Rattle.forwarding.specs.Messages.{sendable}
use Rattle.forwarding.proofs.MessageLaws.{begun-length, own-stored}
use borrow.Author.Rules.{rules}
use Rattle.forwarding.proofs.messages.own_query.Goals.{then-n-gt-LARGEST_TEXT-via-then-n-gt-LARGEST_TEXT}
use Rattle.forwarding.proofs.messages.own_query.Goals.{then-n-gt-LARGEST_TEXT-via-else-n-gt-LARGEST_TEXT+then-out-n}
use Rattle.forwarding.proofs.messages.own_query.Goals as goal

pub returns-then-n-gt-LARGEST_TEXT : goal.returns-then-n-gt-LARGEST_TEXT
returns-then-n-gt-LARGEST_TEXT c =
    elim c.then-n-gt-LARGEST_TEXT.branch [
      | then-n-gt-LARGEST_TEXT-via-then-n-gt-LARGEST_TEXT w ↦ search (rules, lt-leb, le-leb)
      | then-n-gt-LARGEST_TEXT-via-else-n-gt-LARGEST_TEXT+then-out-n w ↦ search (rules, lt-leb, le-leb)
    ]

pub bounds-out-24 : goal.bounds-out-24
bounds-out-24 c = simp length-set (omega arith)

pub slice_bounds-copy_onto-count : goal.slice_bounds-copy_onto-count
slice_bounds-copy_onto-count c = simp length-set (omega arith)

pub slice_bounds-copy_onto-start : goal.slice_bounds-copy_onto-start
slice_bounds-copy_onto-start c = simp length-set (omega arith)

pub bounds-out-n : goal.bounds-out-n
bounds-out-n c =
    let l = begun-length c.put_header.new.out in
    omega arith

pub returns : goal.returns
returns c =
    let x = c.args in
    let fits : sendable x.text.now x.out.now ≡ true = search (rules, le-leb) in record {
      count = rw fits;
      bytes = rw fits
          (own-stored x.number x.text.now x.out.now x.limit (omega arith) (search rules) _ _
          (rw c.into.ensures at c.put_header.ensures)
          c.copy_onto.ensures);
    }
