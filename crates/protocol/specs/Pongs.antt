-- Which stored pongs answer a ping (RULES 10.4 to 10.6), from outside: of the other lines' pongs that are less than
-- 15,000 ms old the first ten, by rank, the newest first, and in each rank by line.
use Rattle.std.specs.Prelude.{ℕ, ◌+◌, ◌≤◌, ◌<◌, max, ◌≡◌, ◌⊎◌, List, [], ◌∷◌, ◌++◌, length, get_or}
use Rattle.wire.specs.Header.{hops_of, number_of, message}
use Rattle.protocol.specs.declared.Pong.{Pong}
use Rattle.protocol.specs.State.{Station, line_at}
use Rattle.protocol.specs.Lines.{no_pong, stored_pongs, elapsed}

-- a place among the stored pongs: a line, and the rank of a pong on it, 0 for the newest
pub record Place : Type 0 where
  pub rank : ℕ
  pub line : ℕ

abbrev pub first_place : Place
first_place = record { rank = 0; line = 0 }

abbrev pub pong_at : Station → Place → Pong
pong_at s p = get_or (stored_pongs (line_at s p.line)) p.rank no_pong

-- the order in which pongs are sent: by rank, and within a rank by line
abbrev pub Before : Place → Place → Type 0
Before p q = (p.rank < q.rank) ⊎ ((p.rank ≡ q.rank) × (p.line < q.line))

-- a pong that may answer a ping from line l: another line stores it, and it is less than 15,000 ms old; a line keeps
-- ten
pub record MayAnswer (s : Station) (l clock : ℕ) (p : Place) : Type 0 where
  pub line : p.line < 8
  pub other : p.line ≡ l → ⊥
  pub ten : p.rank < 10
  pub stored : p.rank < length (stored_pongs (line_at s p.line))
  pub young : elapsed clock (pong_at s p).clock < 15000

pub record Among (ps : List Place) (p : Place) : Type 0 where
  pub at : ℕ
  pub below : at < length ps
  pub is : get_or ps at first_place ≡ p

-- the first ten of them in that order, or all where there are fewer: one that is left out comes after the tenth
pub record FirstTen (s : Station) (l clock : ℕ) (ps : List Place) : Type 0 where
  pub most : length ps ≤ 10
  pub each : (i : ℕ) → i < length ps → MayAnswer s l clock (get_or ps i first_place)
  pub order : (i j : ℕ) → i < j → j < length ps → Before (get_or ps i first_place) (get_or ps j first_place)
  pub rest : (p : Place) → MayAnswer s l clock p → Among ps p ⊎ ((length ps ≡ 10) × Before (get_or ps 9 first_place) p)

-- the pongs at these places as they go out (RULES 10.6): the ping's number, TTL the ping's Hops, or 1 where those are
-- 0, one Hop more than stored, the stored bytes
abbrev pub stored_written : Station → List ℕ → List Place → List ℕ
stored_written s m [] = []
stored_written s m (p ∷ ps) =
    message (number_of m) 0x01 (max 1 (hops_of m)) ((pong_at s p).hops + 1) (pong_at s p).bytes ++ stored_written s m ps

-- the bytes written: the own part first, then the first ten stored pongs
pub record OwnThenStored (s : Station) (l clock : ℕ) (m own_part bytes : List ℕ) : Type 0 where
  pub places : List Place
  pub first : FirstTen s l clock places
  pub written : bytes ≡ own_part ++ stored_written s m places
