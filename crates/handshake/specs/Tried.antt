-- The hosts to try that a group lists.
use Rattle.std.specs.Prelude.{ℕ, Result, Ok, Err, Bool, cond, not, ◌||◌, List, [], ◌∷◌, eqb}
use Rattle.laws.specs.Tests.{first_of, all}
use Rattle.groups.specs.Lines.{group_length}
use Rattle.handshake.specs.Group.{read_number, value_in}
use Rattle.xtry.specs.Pairs.{items_of, good_pair, pairs_from, pairs_of, tried_by}
use Rattle.handshake.specs.Groups.{try_name}
use Rattle.answer.specs.declared.Refusal.{Refusal}
use Rattle.answer.specs.Numbers.{number_of}
use Rattle.handshake.specs.declared.TriedGroup.{TriedGroup}
use Rattle.handshake.specs.declared.hosts.HostsRead.{HostsRead}

-- the value of X-Try: empty where the group has no such field, so that there are no pairs then
abbrev pub try_value : List ℕ → List ℕ
try_value m = value_in m try_name

-- as reading is refused (RULES 15.2, 15.3); then 6 for a bad pair
abbrev pub tried_rules : ℕ → Bool → List (Bool × ℕ)
tried_rules read good = (not (eqb read 0), read) ∷ (not good, 6) ∷ []

unfoldable pub group_answer : List ℕ → ℕ
group_answer m = first_of (tried_rules (read_number m) (all good_pair (items_of (try_value m))))

-- the group is used up by 0 and 6; only 0 hands pairs on
unfoldable pub group_tried : List ℕ → TriedGroup
group_tried m =
    record {
      answer = group_answer m;
      used = cond (eqb (group_answer m) 0 || eqb (group_answer m) 6) (group_length m) 0;
      pairs = pairs_from (cond (eqb (group_answer m) 0) (pairs_of (try_value m)) []);
    }

-- what was read, as what was tried
abbrev pub hosts_by : Result HostsRead Refusal → TriedGroup
hosts_by (Ok r) = record { answer = (tried_by r.pairs).answer; used = r.used; pairs = (tried_by r.pairs).pairs }
hosts_by (Err refusal) = record { answer = number_of refusal; used = 0; pairs = pairs_from [] }

-- the answer, by those to asking for the field and to reading its value: an absent field counts as an empty one
abbrev pub tried_number : ℕ → ℕ → ℕ
tried_number asked tried = cond (eqb asked 0 || eqb asked 10) tried asked
