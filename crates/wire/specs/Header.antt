-- The header of a message (RULES 6.1): number 16 bytes, type, TTL, Hops, payload length 4 bytes, little-endian; the
-- payload from byte 23.
use Rattle.std.specs.Prelude.{ℕ, ◌+◌, cond, List, ◌∷◌, ◌++◌, leb, eqb, length, get_or, take, drop, Result, Ok, Err}
use Rattle.laws.specs.Bytes.{little, little_bytes}
use Rattle.laws.specs.Parts.{over}
use Rattle.wire.specs.declared.Header.{Header}
use Rattle.wire.specs.declared.Kind.{Kind}
use Rattle.wire.specs.declared.Kind.TheVariants.{Ping, Pong, RouteUpdate, Query, Hit}
use Rattle.wire.specs.declared.UnknownKind.{UnknownKind}

-- the types of messages
abbrev pub ping_type : ℕ
ping_type = 0x00

abbrev pub pong_type : ℕ
pong_type = 0x01

abbrev pub route_update : ℕ
route_update = 0x30

abbrev pub query_type : ℕ
query_type = 0x80

abbrev pub hit_type : ℕ
hit_type = 0x81

-- the byte of a type, and the type that a byte is, if it is one
abbrev pub byte_of : Kind → ℕ
byte_of Ping = ping_type
byte_of Pong = pong_type
byte_of RouteUpdate = route_update
byte_of Query = query_type
byte_of Hit = hit_type

abbrev pub kind_named : ℕ → Result Kind UnknownKind
kind_named b =
    cond (eqb b ping_type) (Ok Ping)
    (cond (eqb b pong_type) (Ok Pong)
    (cond (eqb b route_update) (Ok RouteUpdate)
    (cond (eqb b query_type) (Ok Query)
    (cond (eqb b hit_type) (Ok Hit) (Err (record { 0 = b }))))))

-- how many bytes a header, the largest payload and the largest message have
abbrev pub header_size : ℕ
header_size = 23

abbrev pub largest_payload : ℕ
largest_payload = 4096

abbrev pub largest_message : ℕ
largest_message = header_size + largest_payload

-- read off a message
abbrev pub number_of : List ℕ → List ℕ
number_of m = take 16 m

abbrev pub kind_of : List ℕ → ℕ
kind_of m = get_or m 16 0

abbrev pub ttl_of : List ℕ → ℕ
ttl_of m = get_or m 17 0

abbrev pub hops_of : List ℕ → ℕ
hops_of m = get_or m 18 0

abbrev pub size_of : List ℕ → ℕ
size_of m = little (take 4 (drop 19 m))

abbrev pub payload_of : List ℕ → List ℕ
payload_of m = take (size_of m) (drop header_size m)

-- the whole header, the number as two little-endian halves; a byte that is not there counts 0
abbrev pub header_in : List ℕ → Header
header_in m =
    record {
      lo = little (take 8 m);
      hi = little (take 8 (drop 8 m));
      kind = kind_of m;
      ttl = ttl_of m;
      hops = hops_of m;
      size = size_of m;
    }

-- written: the header of a payload of n bytes, and a whole message
abbrev pub header : List ℕ → ℕ → ℕ → ℕ → ℕ → List ℕ
header number kind ttl hops n = number ++ (kind ∷ ttl ∷ hops ∷ little_bytes 4 n)

unfoldable pub message : List ℕ → ℕ → ℕ → ℕ → List ℕ → List ℕ
message number kind ttl hops payload = header number kind ttl hops (length payload) ++ payload

-- an area with a header written at its front; one that has no room for it stays as it is
unfoldable pub with_header : List ℕ → ℕ → ℕ → ℕ → ℕ → List ℕ → List ℕ
with_header number kind ttl hops n out = cond (leb header_size (length out)) (over 0 (header number kind ttl hops n) out)
    out
