-- The flags at hand, with the keywords that are left, give what the open lines gave with all of them.
use Rattle.std.proofs.Common.{◌≡◌, false, get_or, length}
use Rattle.keywords.specs.Keywords.{words_left}
use Rattle.protocol.specs.Queries.{own_to}
use Rattle.forwarding.specs.Passing.{held_of}
use Rattle.forwarding.proofs.LineLaws.{passing_left}
use Rattle.forwarding.proofs.lines.passing.Given as goal

abbrev pub invariant-loop-keyword : goal.invariant-loop-keyword
invariant-loop-keyword l =
    let held = held_of l.tables l.room l.route in
    (length l.flags ≡ 8)
    × (passing_left l.flags held l.ttl (words_left l.keyword-iterator)
    ≡ own_to l.ttl (λ k. get_or l.initial.flags k false) held l.text)
