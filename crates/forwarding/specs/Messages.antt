-- Messages written to the front of an area, and when they are.
use Rattle.std.specs.Prelude.{ℕ, ◌+◌, Bool, cond, ◌&&◌, List, leb, length, take, set}
use Rattle.laws.specs.Parts.{over}
use Rattle.protocol.specs.Queries.{own_bytes}

-- bytes are written over the front of an area and counted, if they are to be; else the area stays as it is
abbrev pub written_if : Bool → List ℕ → List ℕ → List ℕ
written_if b bytes area = cond b (over 0 bytes area) area

abbrev pub count_if : Bool → ℕ → ℕ
count_if b n = cond b n 0

-- the first n bytes of a message are a header at least, are there, and have room
abbrev pub passable : List ℕ → ℕ → List ℕ → Bool
passable m n out = leb 23 n && (leb n (length m) && leb n (length out))

-- the first n bytes of a message, with another TTL at byte 17 and other Hops at byte 18
abbrev pub passed_on : List ℕ → ℕ → ℕ → ℕ → List ℕ
passed_on m n ttl hops = set (set (take n m) 17 ttl) 18 hops

-- an area after those bytes were passed on to its front, if they could be
abbrev pub passed_into : List ℕ → ℕ → ℕ → ℕ → List ℕ → List ℕ
passed_into m n ttl hops out = written_if (passable m n out) (passed_on m n ttl hops) out

-- a text of one's own that fits a payload of 4,096 bytes with the speed and the zero byte, and has room in the area
-- with its header
abbrev pub sendable : List ℕ → List ℕ → Bool
sendable text out = leb (length text) 4093 && leb (26 + length text) (length out)

-- an area after the query was written to its front, if it could be
abbrev pub own_into : List ℕ → ℕ → List ℕ → List ℕ → List ℕ
own_into number limit text out = written_if (sendable text out) (own_bytes limit number text) out
