-- What is proved of the hosts that a group lists, and of groups that were written, besides the functions' contracts.
use Rattle.std.specs.Prelude.{ℕ, ◌≤◌, ◌<◌, ◌≡◌, true, List, [], ◌++◌, length, take}
use Rattle.laws.specs.Tests.{all}
use Rattle.xtry.specs.Pairs.{pairs_from}
use Rattle.xtry.specs.Claims.{is_host}
use Rattle.groups.specs.Lines.{group_length}
use Rattle.handshake.specs.Group.{read_group}
use Rattle.handshake.specs.declared.Group.{Group}
use Rattle.xtry.specs.Writing.{pairs_in}
use Rattle.handshake.specs.Groups.{greeting_bytes, ok_bytes, busy_bytes, text_answer, busy_answer, wrote_of, area_of}
use Rattle.handshake.specs.Tried.{group_tried}
use Rattle.xtry.specs.declared.Pair.{Pair}
use Rattle.xtry.specs.declared.Pairs.{Pairs}

-- ---- the bytes that are read

-- bytes behind a group are not read when its hosts are asked for
abbrev pub HostsNotBehind : Type 0
HostsNotBehind = (m x : List ℕ) → 0 < group_length m → group_tried (m ++ x) ≡ group_tried m

-- the group alone has the hosts that it has with all that stands behind it
abbrev pub HostsAlone : Type 0
HostsAlone = (m : List ℕ) → 0 < group_length m → group_tried (take (group_length m) m) ≡ group_tried m

-- what is refused when the group is read is refused alike when its hosts are asked for: 18, 4 and 17 come before 6
abbrev pub HostsAsRead : Type 0
HostsAsRead =
    (m : List ℕ) → ((read_group m).answer ≡ 0 → ⊥)
    → group_tried m ≡ record { answer = (read_group m).answer; used = 0; pairs = pairs_from [] }

-- ---- groups that were written, read

-- the reading of a whole group of n bytes, of this kind and code, of version 0.6
abbrev pub whole_group : ℕ → ℕ → ℕ → Group
whole_group n kind code = record { answer = 0; used = n; kind = kind; major = 0; minor = 6; code = code }

-- bytes are read as such a group, with these hosts to try
pub record ReadAs (bytes : List ℕ) (n kind code : ℕ) (ps : List Pair) : Type 0 where
  pub group : read_group bytes ≡ whole_group n kind code
  pub hosts : group_tried bytes ≡ record { answer = 0; used = n; pairs = pairs_from ps }

-- a text is read as a group of its length, whatever stands behind it
abbrev pub TextReadAs : List ℕ → ℕ → ℕ → List Pair → Type 0
TextReadAs text kind code ps = (x : List ℕ) → ReadAs (text ++ x) (length text) kind code ps

-- the greeting is a greeting; the replies are replies of code 200 and 503, the latter with its hosts
abbrev pub GroupsReadBack : Type 0
GroupsReadBack =
    TextReadAs greeting_bytes 1 0 []
    × TextReadAs ok_bytes 2 200 []
    × ((ps : List Pair) → length ps ≤ 32 → all is_host ps ≡ true → TextReadAs (busy_bytes ps) 2 503 ps)

-- where a writer of the text answers 0, the area as it leaves it is read as a group of the bytes written
abbrev pub AreaReadAs : ℕ → List ℕ → List ℕ → ℕ → ℕ → List Pair → Type 0
AreaReadAs answer text area kind code ps =
    answer ≡ 0 → ReadAs (area_of answer text area) (wrote_of answer text).written kind code ps

-- so what the three writers leave in an area of any length is read back
abbrev pub AreasReadBack : Type 0
AreasReadBack =
    (area : List ℕ)
    → AreaReadAs (text_answer (length area) greeting_bytes) greeting_bytes area 1 0 []
    × AreaReadAs (text_answer (length area) ok_bytes) ok_bytes area 2 200 []
    × ((pairs : Pairs) → all is_host (pairs_in pairs) ≡ true
    → AreaReadAs (busy_answer (length area) pairs) (busy_bytes (pairs_in pairs)) area 2 503 (pairs_in pairs))
