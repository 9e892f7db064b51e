-- Hosts are read from the group alone, and a group that can't be read has none.
use Prim.Native.Nat.{ℕ}
use mathlib.Core.Path.{◌≡◌, ◌∙◌}
use mathlib.Core.Bool.{false}
use mathlib.Core.List.{List, [], ◌++◌}
use lib.Dec.{eqb}
use lib.ListN.{length, take}
use borrow.Author.Tests.{ne_eqb}
use Rattle.groups.specs.Lines.{group_length}
use Rattle.xtry.specs.Pairs.{pairs_from}
use Rattle.handshake.specs.Group.{read_number, understood}
use Rattle.handshake.specs.Groups.{try_name}
use Rattle.handshake.specs.Tried.{group_answer, group_tried}
use Rattle.handshake.specs.Hosts.{HostsNotBehind, HostsAlone, HostsAsRead}
use Rattle.handshake.proofs.Behind.{SameGroup, same-behind, same-alone, length-same, refusal-same, value_same}
use Rattle.handshake.proofs.Order.{read_answer, not-six}

module _ (m b : List ℕ) (g : SameGroup m b) where
  answer-same : group_answer b ≡ group_answer m
  unfolding group_answer
  answer-same = rw (refusal-same m b g, value_same m b g try_name)

  hosts-same : group_tried b ≡ group_tried m
  unfolding group_tried
  hosts-same = rw (answer-same, value_same m b g try_name, length-same m b g)

pub hosts-not-behind : HostsNotBehind
hosts-not-behind m x h = hosts-same m (m ++ x) (same-behind m x h)

pub hosts-alone : HostsAlone
hosts-alone m h = hosts-same m (take (group_length m) m) (same-alone m h)

-- one of the first three refusals comes before a bad pair
pub refused-hosts : (m : List ℕ) → (read_number m ≡ 0 → ⊥) → group_tried m
    ≡ record { answer = read_number m; used = 0; pairs = pairs_from [] }
unfolding group_tried group_answer
refused-hosts m h =
    let some : eqb (read_number m) 0 ≡ false = ne_eqb (read_number m) 0 h in
    rw (some, some, not-six (group_length m) (length m) (understood m (group_length m)))

pub hosts_as_read : HostsAsRead
hosts_as_read m h = refused-hosts m (λ e. h (read_answer m ∙ e)) ∙ rw (read_answer m)
