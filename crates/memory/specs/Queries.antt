-- What the leaves over the ring of remembered queries cite beyond the rules of crate protocol.
use Rattle.std.specs.Prelude.{ℕ, ◌+◌, List, map}
use Rattle.laws.specs.Ring.{places_before}
use Rattle.protocol.specs.Memory.{Memory, Query, query_at, Found, Absent, At}

-- the queries at the `count` places before `next`, the newest first: those of a ring of n places, where it fits
abbrev pub queries_before : ℕ → Memory → List Query
queries_before n q = map (query_at q) (places_before n q.next q.count)

-- what is found behind n queries
abbrev pub behind : ℕ → Found → Found
behind n Absent = Absent
behind n (At m a h) = At (n + m) a h
