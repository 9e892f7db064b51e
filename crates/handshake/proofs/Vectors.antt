-- Groups and fields as vectors: the definitions, computed.
use Prim.Native.Nat.{ℕ, ◌-◌}
use Prim.Native.String.{String}
use mathlib.Core.Path.{◌≡◌, refl}
use mathlib.Core.List.{List, [], ◌∷◌, ◌++◌, map}
use lib.ListN.{length, replicate}
use Rattle.laws.specs.Text.{codes}
use Rattle.handshake.specs.declared.Group.{Group}
use Rattle.handshake.specs.declared.Asked.{Asked}
use Rattle.ascii.specs.Text.{lower, compared, digit_of, digit_value}
use Rattle.groups.specs.Lines.{ends_at, group_length}
use Rattle.groups.specs.Start.{version_length, status_ok, greeting_from, reply_from, start_of}
use Rattle.fields.specs.Fields.{is_absent, value_for}
use Rattle.handshake.specs.Group.{understood, group_number, group_from, read_group, asked_from, asked_with, ask_field}
use Rattle.handshake.specs.Group.{asked_out}

abbrev group : ℕ → ℕ → ℕ → ℕ → ℕ → ℕ → Group
group answer used kind major minor code =
    record { answer = answer; used = used; kind = kind; major = major; minor = minor; code = code }

abbrev asked : ℕ → ℕ → ℕ → Asked
asked answer used written = record { answer = answer; used = used; written = written }

-- groups, each with what reading it hands back
abbrev groups : List (String × Group)
groups =
    -- no end: not whole
    ("XYZ", group 4 0 0 0 0 0)
    -- the empty line alone is a group of two bytes
    ∷ ("\r\n", group 17 0 0 0 0 0)
    -- a greeting
    ∷ ("GNUTELLA CONNECT/0.6\r\n\r\n", group 0 24 1 0 6 0)
    -- versions from 0.6 on
    ∷ ("GNUTELLA CONNECT/0.10\r\n\r\n", group 0 25 1 0 10 0)
    ∷ ("GNUTELLA CONNECT/000.006\r\n\r\n", group 0 28 1 0 6 0)
    ∷ ("GNUTELLA CONNECT/1.0\r\n\r\n", group 0 24 1 1 0 0)
    -- one below, and four digits on either side of the dot
    ∷ ("GNUTELLA CONNECT/0.5\r\n\r\n", group 17 0 0 0 0 0)
    ∷ ("GNUTELLA CONNECT/0.0006\r\n\r\n", group 17 0 0 0 0 0)
    ∷ ("GNUTELLA CONNECT/0000.6\r\n\r\n", group 17 0 0 0 0 0)
    -- more behind a greeting's version, and another case
    ∷ ("GNUTELLA CONNECT/0.6 \r\n\r\n", group 17 0 0 0 0 0)
    ∷ ("gnutella CONNECT/0.6\r\n\r\n", group 17 0 0 0 0 0)
    -- replies, with a text, without, and with an empty one
    ∷ ("GNUTELLA/0.6 200 OK\r\n\r\n", group 0 23 2 0 6 200)
    ∷ ("GNUTELLA/0.6 503\r\n\r\n", group 0 20 2 0 6 503)
    ∷ ("GNUTELLA/0.6 503 \r\n\r\n", group 0 21 2 0 6 503)
    -- versions of replies: three digits and four before the dot, and one below 0.6
    ∷ ("GNUTELLA/000.6 200 OK\r\n\r\n", group 0 25 2 0 6 200)
    ∷ ("GNUTELLA/0000.6 200 OK\r\n\r\n", group 17 0 0 0 0 0)
    ∷ ("GNUTELLA/0.5 200 OK\r\n\r\n", group 17 0 0 0 0 0)
    -- a tab behind the code, with a text and without, nothing between code and text, and a tab before the code
    ∷ ("GNUTELLA/0.6 200\tOK\r\n\r\n", group 17 0 0 0 0 0)
    ∷ ("GNUTELLA/0.6 200\t\r\n\r\n", group 17 0 0 0 0 0)
    ∷ ("GNUTELLA/0.6 200OK\r\n\r\n", group 17 0 0 0 0 0)
    ∷ ("GNUTELLA/0.6\t200 OK\r\n\r\n", group 17 0 0 0 0 0)
    -- codes of four digits and of two
    ∷ ("GNUTELLA/0.6 2000\r\n\r\n", group 17 0 0 0 0 0)
    ∷ ("GNUTELLA/0.6 20 OK\r\n\r\n", group 17 0 0 0 0 0)
    -- no value that the line could go on with
    ∷ ("GNUTELLA CONNECT/0.6\r\n x\r\n\r\n", group 17 0 0 0 0 0)
    -- vertical tab (11) and form feed (12) are no blanks: such a line does not go on with a value, and may be a field
    ∷ ("GNUTELLA CONNECT/0.6\r\nA: x\r\n\u{b}y\r\n\r\n", group 17 0 0 0 0 0)
    ∷ ("GNUTELLA CONNECT/0.6\r\nA: x\r\n\u{c}y\r\n\r\n", group 17 0 0 0 0 0)
    ∷ ("GNUTELLA CONNECT/0.6\r\n\u{b}A: x\r\n\r\n", group 0 31 1 0 6 0)
    -- CR, and LF, by itself
    ∷ ("GNUTELLA CONNECT/0.6\r\nA: x\r\r\n\r\n", group 17 0 0 0 0 0)
    ∷ ("GNUTELLA CONNECT/0.6\r\nA: x\ny\r\n\r\n", group 17 0 0 0 0 0)
    -- no colon, a blank in the name, no name
    ∷ ("GNUTELLA CONNECT/0.6\r\nA\r\n\r\n", group 17 0 0 0 0 0)
    ∷ ("GNUTELLA CONNECT/0.6\r\nA b: x\r\n\r\n", group 17 0 0 0 0 0)
    ∷ ("GNUTELLA CONNECT/0.6\r\n: x\r\n\r\n", group 17 0 0 0 0 0)
    -- no end, with whole lines
    ∷ ("GNUTELLA CONNECT/0.6\r\nA: x\r\n", group 4 0 0 0 0 0)
    -- bytes behind the group
    ∷ ("GNUTELLA CONNECT/0.6\r\n\r\n\r\nxyz", group 0 24 1 0 6 0)
    ∷ []

groups-read : map (λ g. read_group (codes g.0)) groups ≡ map (λ g. g.1) groups
unfolding group_length ends_at lower compared digit_of digit_value version_length status_ok greeting_from reply_from start_of
    is_absent value_for understood group_number group_from asked_from asked_with
groups-read = refl

-- the empty line alone is a group
two_bytes : group_length (codes "\r\n") ≡ 2
unfolding group_length ends_at lower compared digit_of digit_value version_length status_ok greeting_from reply_from start_of
    is_absent value_for understood group_number group_from asked_from asked_with
two_bytes = refl

-- a group, a name, and the name's value
abbrev fields : List (String × (String × String))
fields =
    -- equal names but for the case, and a line that goes on with the last value
    ("GNUTELLA CONNECT/0.6\r\nA: x\r\nB: y\r\na: z\r\n w\r\n\r\n", ("A", "x,z w"))
    ∷ ("GNUTELLA CONNECT/0.6\r\nA: x\r\nB: y\r\na: z\r\n w\r\n\r\n", ("b", "y"))
    -- a line of blanks adds one space
    ∷ ("GNUTELLA CONNECT/0.6\r\nA: x\r\n \t\r\n\r\n", ("A", "x "))
    -- a line goes on with an empty value
    ∷ ("GNUTELLA CONNECT/0.6\r\nA:\r\n x\r\n\r\n", ("A", " x"))
    -- blanks at the end stay
    ∷ ("GNUTELLA CONNECT/0.6\r\nA: \t x \r\n\r\n", ("A", "x "))
    -- an empty value is not absent
    ∷ ("GNUTELLA CONNECT/0.6\r\nA:\r\n\r\n", ("A", ""))
    -- a value with a colon
    ∷ ("GNUTELLA CONNECT/0.6\r\nA: b:c\r\n\r\n", ("A", "b:c"))
    -- vertical tab in a name and at the front of a value, form feed behind a blank
    ∷ ("GNUTELLA CONNECT/0.6\r\nA\u{b}b:\u{b}x\r\n\r\n", ("a\u{b}B", "\u{b}x"))
    ∷ ("GNUTELLA CONNECT/0.6\r\nA: \u{c}x\r\n\r\n", ("A", "\u{c}x"))
    -- the first letter and the last
    ∷ ("GNUTELLA CONNECT/0.6\r\nAz: x\r\naZ: y\r\n\r\n", ("AZ", "x,y"))
    ∷ []

-- an area of seven bytes
abbrev area : List ℕ
area = replicate 7 1

fields-asked : map (λ f. ask_field (codes f.0) (codes f.1.0) 7) fields
    ≡ map (λ f. asked 0 (length (codes f.0)) (length (codes f.1.1))) fields
unfolding group_length ends_at lower compared digit_of digit_value version_length status_ok greeting_from reply_from start_of
    is_absent value_for understood group_number group_from asked_from asked_with
fields-asked = refl

fields-written : map (λ f. asked_out (codes f.0) (codes f.1.0) area) fields
    ≡ map (λ f. codes f.1.1 ++ replicate (7 - length (codes f.1.1)) 1) fields
unfolding group_length ends_at lower compared digit_of digit_value version_length status_ok greeting_from reply_from start_of
    is_absent value_for understood group_number group_from asked_from asked_with
fields-written = refl

-- two names that are not the same: 91 and 123, 64 and 96, 192 and 224 are 32 apart as the two cases of a letter are
abbrev apart : List (String × String)
apart = ("[", "{") ∷ ("@", "`") ∷ ("À", "à") ∷ ("à", "À") ∷ ("A", "AA") ∷ ("AA", "A") ∷ []

-- a group with a field of this name
abbrev named : String → List ℕ
named name = codes "GNUTELLA/0.6 200\r\n" ++ (codes name ++ codes ": x\r\n\r\n")

apart-asked : map (λ p. ask_field (named p.0) (codes p.1) 7) apart ≡ map (λ p. asked 10 (length (named p.0)) 0)
    apart
unfolding group_length ends_at lower compared digit_of digit_value version_length status_ok greeting_from reply_from start_of
    is_absent value_for understood group_number group_from asked_from asked_with
apart-asked = refl

-- groups that are asked for B in an area of no bytes
abbrev ordered : List (String × Asked)
ordered =
    -- a line that is no field, and no such name
    ("GNUTELLA/0.6 200\r\nA\r\n\r\n", asked 17 0 0)
    -- a line that is no field, and a value that has no room
    ∷ ("GNUTELLA/0.6 200\r\nB: x\r\nA\r\n\r\n", asked 17 0 0)
    -- no end, and no such name
    ∷ ("GNUTELLA/0.6 200\r\nA: x\r\n", asked 4 0 0)
    -- no such name, and so no value that could want room
    ∷ ("GNUTELLA/0.6 200\r\nA: x\r\n\r\n", asked 10 26 0)
    -- a value that has no room
    ∷ ("GNUTELLA/0.6 200\r\nB: x\r\n\r\n", asked 2 0 0)
    ∷ []

ordered-asked : map (λ g. ask_field (codes g.0) (codes "B") 0) ordered ≡ map (λ g. g.1) ordered
unfolding group_length ends_at lower compared digit_of digit_value version_length status_ok greeting_from reply_from start_of
    is_absent value_for understood group_number group_from asked_from asked_with
ordered-asked = refl

abbrev one_field : List ℕ
one_field = codes "GNUTELLA CONNECT/0.6\r\nA: wxyz\r\n\r\n"

-- absent, also where the area is empty: the group is used up
absent : ask_field one_field (codes "B") 0 ≡ asked 10 33 0
unfolding group_length ends_at lower compared digit_of digit_value version_length status_ok greeting_from reply_from start_of
    is_absent value_for understood group_number group_from asked_from asked_with
absent = refl

no_name : ask_field one_field [] 0 ≡ asked 10 33 0
unfolding group_length ends_at lower compared digit_of digit_value version_length status_ok greeting_from reply_from start_of
    is_absent value_for understood group_number group_from asked_from asked_with
no_name = refl

-- an area of three bytes for a value of four stays as it is
short : ask_field one_field (codes "a") 3 ≡ asked 2 0 0
unfolding group_length ends_at lower compared digit_of digit_value version_length status_ok greeting_from reply_from start_of
    is_absent value_for understood group_number group_from asked_from asked_with
short = refl

short-area : asked_out one_field (codes "a") (7 ∷ 8 ∷ 9 ∷ []) ≡ 7 ∷ 8 ∷ 9 ∷ []
unfolding group_length ends_at lower compared digit_of digit_value version_length status_ok greeting_from reply_from start_of
    is_absent value_for understood group_number group_from asked_from asked_with
short-area = refl
