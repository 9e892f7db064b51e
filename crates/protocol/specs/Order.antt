-- When a state is in order, clause by clause (RULES 4). The clauses of the remembered queries are specs/Memory.
use Rattle.std.specs.Prelude.{ℕ, Bool, not, ◌&&◌, ◌||◌, List, [], ◌∷◌, eqb, leb, ltb}
use Rattle.laws.specs.Tests.{every, all}
use Rattle.tables.specs.Tables.{none, table_in_order}
use Rattle.protocol.specs.declared.Line.{Line}
use Rattle.protocol.specs.Memory.{capacity, memory_in_order}
use Rattle.protocol.specs.Lines.{pong_capacity, pong_hops, stored_pongs}
use Rattle.protocol.specs.State.{Station, line_at}

-- of a closed line nothing is kept (RULES 4.5)
abbrev pub empty_when_closed : Line → Bool
empty_when_closed x = x.live || (eqb x.table.mark none && (eqb x.pongcount 0 && not x.pinged))

-- the kept pongs have allowed Hops
abbrev pub low_hops : Line → Bool
low_hops x = all (λ p. leb p.hops pong_hops) (stored_pongs x)

unfoldable pub line_in_order : ℕ → Line → Bool
line_in_order room x =
    every
    (empty_when_closed x
    ∷ leb x.pongcount pong_capacity
    ∷ ltb x.pongnext pong_capacity
    ∷ low_hops x
    ∷ table_in_order room x.table
    ∷ [])

abbrev pub lines_in_order : ℕ → List Line → Bool
lines_in_order room lines = all (line_in_order room) lines

unfoldable pub in_order : Station → Bool
in_order s = memory_in_order capacity (λ k. (line_at s k).live) s.memory && lines_in_order s.room s.lines
