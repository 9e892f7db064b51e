-- Headers written and read by computation.
use mathlib.Core.Path.{◌≡◌, refl}
use mathlib.Core.List.{[], ◌∷◌, ◌++◌}
use lib.ListN.{replicate, drop}
use Rattle.wire.specs.Header.{header_in, header, message, payload_of, with_header}

-- 0x01020304 in four bytes
four : drop 16 (header (replicate 16 9) 0x30 1 0 0x01020304) ≡ 0x30 ∷ 1 ∷ 0 ∷ 4 ∷ 3 ∷ 2 ∷ 1 ∷ []
four = refl

read : payload_of (message (replicate 16 9) 0x30 1 0 (5 ∷ 6 ∷ 7 ∷ [])) ≡ 5 ∷ 6 ∷ 7 ∷ []
unfolding message
read = refl

-- 22 bytes of room: nothing is written; 24: the byte behind the header stays
short : with_header (replicate 16 9) 0x80 7 0 300 (replicate 22 1) ≡ replicate 22 1
unfolding with_header
short = refl

room : drop 16 (with_header (replicate 16 9) 0x80 7 0 300 (replicate 24 1)) ≡ 0x80 ∷ 7 ∷ 0 ∷ 44 ∷ 1 ∷ 0 ∷ 0 ∷ 1 ∷ []
unfolding with_header
room = refl

-- read off 21 bytes: of the payload length two are there; off ten: of the number's high half two are there, and all
-- else is 0
cut_in_size : header_in (replicate 8 0 ++ (4 ∷ 3 ∷ replicate 6 0 ++ (0x81 ∷ 3 ∷ 2 ∷ 0 ∷ 1 ∷ [])))
    ≡ record { lo = 0; hi = 772; kind = 0x81; ttl = 3; hops = 2; size = 256 }
cut_in_size = refl

cut_in_number : header_in (1 ∷ replicate 7 0 ++ (4 ∷ 3 ∷ []))
    ≡ record { lo = 1; hi = 772; kind = 0; ttl = 0; hops = 0; size = 0 }
cut_in_number = refl
