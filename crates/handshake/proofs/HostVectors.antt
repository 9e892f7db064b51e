-- Groups asked for their hosts by computation, and replies written.
use Prim.Native.Nat.{ℕ}
use Prim.Native.String.{String}
use mathlib.Core.Path.{◌≡◌, refl}
use mathlib.Core.List.{List, [], ◌∷◌, map}
use Rattle.laws.specs.Text.{codes}
use Rattle.digits.specs.Decimal.{decimal}
use Rattle.ascii.specs.Text.{lower, compared, digit_of, digit_value, pieces, filled}
use Rattle.groups.specs.Lines.{ends_at, group_length}
use Rattle.groups.specs.Start.{version_length, status_ok, greeting_from, reply_from, start_of}
use Rattle.fields.specs.Fields.{is_absent, value_for}
use Rattle.xtry.specs.Pairs.{items_of, bare, up_to, past, good_pair, pair_in, pairs_from, pairs_of}
use Rattle.xtry.specs.Writing.{pair_text, pairs_text}
use Rattle.xtry.specs.declared.Pair.{Pair}
use Rattle.handshake.specs.Group.{understood, group_number}
use Rattle.handshake.specs.Groups.{try_line, busy_bytes}
use Rattle.handshake.specs.Tried.{group_answer, group_tried}

abbrev host : ℕ → ℕ → ℕ → ℕ → ℕ → Pair
host a b c d port = record { address = a ∷ b ∷ c ∷ d ∷ []; port = port }

busy_alone : busy_bytes [] ≡ codes "GNUTELLA/0.6 503 Busy\r\n\r\n"
unfolding busy_bytes try_line
busy_alone = refl

busy_with_two : busy_bytes (host 1 2 3 4 1234 ∷ host 10 0 255 13 20 ∷ [])
    ≡ codes "GNUTELLA/0.6 503 Busy\r\nX-Try: 1.2.3.4:1234,10.0.255.13:20\r\n\r\n"
unfolding busy_bytes try_line pairs_text pair_text decimal
busy_with_two = refl

-- what is handed back of a group: its answer, the bytes used and how many hosts it lists
abbrev asked : String → ℕ × ℕ × ℕ
asked text = ((group_tried (codes text)).answer, (group_tried (codes text)).used, (group_tried (codes text)).pairs.count)

-- groups, each with what is handed back
abbrev groups : List (String × (ℕ × ℕ × ℕ))
groups =
    -- two fields, one on two lines, in a greeting and in a reply
    ("GNUTELLA CONNECT/0.6\r\nX-Try: 1.2.3.4:5\r\nx-try: 6.7.8.9:1,\r\n 1.1.1.1:1\r\n\r\n", (0, 73, 3))
    ∷ ("GNUTELLA/0.6 503 Busy\r\nX-Try: 1.2.3.4:5\r\nx-try: 6.7.8.9:1,\r\n 1.1.1.1:1\r\n\r\n", (0, 74, 3))
    -- no such field
    ∷ ("GNUTELLA/0.6 200 OK\r\nA: b\r\n\r\n", (0, 29, 0))
    -- a bad pair
    ∷ ("GNUTELLA/0.6 503 Busy\r\nX-Try: 1.2.3.4:0\r\n\r\n", (6, 43, 0))
    -- no end; not understood
    ∷ ("GNUTELLA CONNECT/0.6\r\n", (4, 0, 0))
    ∷ ("X-Try: 1.2.3.4:5\r\n\r\n", (17, 0, 0))
    -- a bad pair in a group without an end, and in one with a line that is no field
    ∷ ("GNUTELLA/0.6 503 Busy\r\nX-Try: 1.2.3.4:0\r\n", (4, 0, 0))
    ∷ ("GNUTELLA/0.6 503 Busy\r\nX-Try: 1.2.3.4:0\r\nA\r\n\r\n", (17, 0, 0))
    -- a value that begins on a line that goes on with it has a space in front, which follows no comma
    ∷ ("GNUTELLA/0.6 503 Busy\r\nX-Try:\r\n 1.2.3.4:5\r\n\r\n", (6, 45, 0))
    ∷ ("GNUTELLA/0.6 503 Busy\r\nX-Try: \r\n\t 1.2.3.4:5\r\n\r\n", (6, 47, 0))
    -- there it follows one: the value's own, and the one that joins two fields
    ∷ ("GNUTELLA/0.6 503 Busy\r\nX-Try:,\r\n\t 1.2.3.4:5\r\n\r\n", (0, 47, 1))
    ∷ ("GNUTELLA/0.6 503 Busy\r\nX-Try: 1.2.3.4:5\r\nX-Try:\r\n 6.7.8.9:1\r\n\r\n", (0, 63, 2))
    ∷ []

groups-asked : map (λ g. asked g.0) groups ≡ map (λ g. g.1) groups
unfolding group_length ends_at lower compared digit_of digit_value version_length status_ok greeting_from reply_from start_of
    is_absent value_for understood group_number group_tried group_answer pairs_from pairs_of items_of pieces bare filled
    good_pair pair_in up_to past
groups-asked = refl
