-- When the pongs that answer a ping are written, and how many they are. Which they are is protocol's `pongs_sent`.
use Rattle.std.specs.Prelude.{◌≡◌, ℕ, ◌+◌, ◌*◌, Bool, cond, ◌||◌, List, [], length, nat_le}
use Rattle.laws.specs.Parts.{over}
use Rattle.protocol.specs.declared.Pong.{Pong}
use Rattle.protocol.specs.declared.Line.{Line}
use Rattle.protocol.specs.declared.Own.{Own}
use Rattle.protocol.specs.Pings.{stored_bytes, stored_sent, pongs_sent}

-- n pongs put at the front of a part: r bytes, 37 each, and the part with them
pub record PongsPut (n : ℕ) (bytes part left : List ℕ) (r : ℕ) : Type 0 where
  pub count : r ≡ 37 * n
  pub size : r ≡ length bytes
  pub wrote : left ≡ over 0 bytes part

-- these stored pongs, as they answer a ping of this number and Hops
abbrev pub StoredPut : List ℕ → ℕ → List Pong → List ℕ → List ℕ → ℕ → Type 0
StoredPut number pinghops ps part left r = PongsPut (length ps) (stored_bytes number pinghops ps) part left r

-- an output area of less than eleven pongs gets none
abbrev pub pongs_written : ℕ → List Line → ℕ → ℕ → Own → List ℕ → ℕ → Bool → List ℕ
pongs_written room lines l clock own number hops probe =
    cond (nat_le 407 room) (pongs_sent lines l clock own number hops probe) []

-- how many pongs that is
abbrev pub own_count : Own → Bool → ℕ
own_count own probe = cond (probe || own.calls) 1 0

unfoldable pub pong_count : List Line → ℕ → ℕ → Own → Bool → ℕ
pong_count lines l clock own probe = own_count own probe + cond probe 0 (length (stored_sent lines l clock))

abbrev pub count_written : ℕ → List Line → ℕ → ℕ → Own → Bool → ℕ
count_written room lines l clock own probe = cond (nat_le 407 room) (pong_count lines l clock own probe) 0
