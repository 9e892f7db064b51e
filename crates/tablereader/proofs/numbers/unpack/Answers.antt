-- Twice as many numbers as bytes gone through are written, and they are what those bytes unpack to.
use native.Mathlib.Omega.{arith}
use lib.ListN.{length-set}
use Rattle.tablereader.proofs.UnpackLaws.{unpacking_first, unpacking_more, unpacking_end}
use Rattle.tablereader.proofs.numbers.unpack.Goals as goal

pub loop-i-init : goal.loop-i-init
loop-i-init c = unpacking_first _ _

pub as_byte-requires : goal.as_byte-requires
as_byte-requires c = omega (arith, c.type_inv.bytes c.loop-i.i)

pub bounds-numbers-i-in-loop-i : goal.bounds-numbers-i-in-loop-i
bounds-numbers-i-in-loop-i c = simp length-set (omega arith)

pub loop-i-preserved : goal.loop-i-preserved
loop-i-preserved c =
    let x = c.args in
    let l = c.loop-i in
    unpacking_more x.bytes.now x.numbers.now l.numbers l.i l.invariant c.as_byte.result
    c.as_byte-in-loop-i.result
    (omega arith) (omega arith) c.as_byte.ensures c.as_byte-in-loop-i.ensures

pub shape_of-numbers : goal.shape_of-numbers
shape_of-numbers c = c.loop-i.invariant.same

pub returns : goal.returns
returns c =
    let x = c.args in
    let l = c.loop-i in
    unpacking_end x.bytes.now x.numbers.now l.numbers l.i l.invariant (omega arith)
