-- The entries at hand, with the names that are left, give what all of them gave of the first entries.
use mathlib.Core.Path.{◌≡◌}
use lib.ListN.{length}
use Rattle.namearea.specs.Area.{names_of}
use Rattle.nametable.specs.Table.{own_places, with_ones}
use Rattle.nametable.proofs.MarkLaws.{places_left}
use Rattle.nametable.proofs.mark_names.Given as goal

abbrev pub invariant-loop-i : goal.invariant-loop-i
invariant-loop-i l =
    (length l.entries ≡ length l.initial.entries)
    × (with_ones (places_left l.size l.count l.area l.i) l.entries ≡ with_ones (own_places l.size (names_of l.count l.area)) l.initial.entries)
