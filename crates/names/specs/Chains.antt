-- A bucket is a number below 512 that a name's bytes give. The places of the names with one bucket are chained: the
-- bucket's head tells the last of them, and each place's link the one before it. What is told is one more than a
-- place, and 0 where there is none. A tag is another number of the name's bytes, one for each place.
use Rattle.std.specs.Prelude.{ℕ, zero, suc, ◌+◌, ◌-◌, ◌*◌, ◌/◌, ◌%◌, ◌≤◌, ◌<◌, ◌≡◌, Bool, true, cond, List, ltb, length, get_or, take, drop}
use Rattle.std.specs.Prelude.{Option, Some, None}
use Rattle.std.specs.Int.Bits.{bit_xor}
use Rattle.laws.specs.Bytes.{little}
use Rattle.namearea.specs.Area.{count_in, name_at, names_in}
use Rattle.namearea.specs.Good.{pairwise, differ}
use Rattle.namearea.specs.Calls.{list_answer}

-- the first eight bytes as a number; a byte that is not there counts 0
abbrev pub word_of : List ℕ → ℕ
word_of d = little (take 4 d) + 4294967296 * little (take 4 (drop 4 d))

-- the low half times a prime, and the high half
unfoldable pub spread : ℕ → ℕ
spread x = x % 4294967296 * 2654435761 + x / 4294967296

-- a key with one word more
unfoldable pub mixed : ℕ → ℕ → ℕ
mixed key word = spread (bit_xor key word)

-- two words joined: the halves of the second change places, so that words that are alike do not cancel
unfoldable pub twin_of : ℕ → ℕ → ℕ
twin_of a b = bit_xor a (b % 4294967296 * 4294967296 + b / 4294967296)

-- sixteen bytes are two words
abbrev pub twin_in : List ℕ → ℕ
twin_in d = twin_of (word_of (take 8 d)) (word_of (take 8 (drop 8 d)))

-- a key with the words of a text before its last two, at most two times n of them
unfoldable pub key_from : ℕ → ℕ → List ℕ → ℕ
key_from zero key t = key
key_from (suc n) key t = cond (ltb 16 (length t)) (key_from n (mixed key (twin_in t)) (drop 16 t)) key

-- the last two words: the last sixteen bytes, of which the words before may have some; of fewer bytes the first eight
-- and the last eight
abbrev pub last_twin : List ℕ → ℕ
last_twin t = twin_of (word_of (take 8 (drop (length t - 16) t))) (word_of (drop (length t - 8) t))

abbrev pub key_of : List ℕ → ℕ
key_of t = mixed (key_from (length t) 0 t) (last_twin t)

-- the key mixed once more: its bits give the bucket and the tag
unfoldable pub hash_of : List ℕ → ℕ
hash_of t = mixed (key_of t) 0

abbrev pub bucket_in : ℕ → ℕ
bucket_in hash = hash / 4294967296 % 512

abbrev pub tag_in : ℕ → ℕ
tag_in hash = hash % 65536

-- the bucket of a name
unfoldable pub bucket_of : List ℕ → ℕ
bucket_of t = bucket_in (hash_of t)

-- the tag of a name: names with two tags are two names
unfoldable pub tag_of : List ℕ → ℕ
tag_of t = tag_in (hash_of t)

-- `next` tells the last place before n of a name with bucket b
pub record Last (name : ℕ → List ℕ) (b n next : ℕ) : Type 0 where
  pub low : next ≤ n
  pub skips : (m : ℕ) → next ≤ m → m < n → bucket_of (name m) ≡ b → ⊥
  pub own : 0 < next → bucket_of (name (next - 1)) ≡ b

-- the links and the tags of the first n names
pub record Linked (name : ℕ → List ℕ) (n : ℕ) (links tags : List ℕ) : Type 0 where
  pub size : length links ≡ 512
  pub tag-size : length tags ≡ 512
  pub link : (j : ℕ) → j < n → Last name (bucket_of (name j)) j (get_or links j 0)
  pub tag : (j : ℕ) → j < n → get_or tags j 0 ≡ tag_of (name j)

-- the heads, the links and the tags of the first n names
pub record Chained (name : ℕ → List ℕ) (n : ℕ) (heads links tags : List ℕ) : Type 0 where
  pub size : length heads ≡ 512
  pub head : (b : ℕ) → b < 512 → Last name b n (get_or heads b 0)
  pub linked : Linked name n links tags

-- the name at a place can be compared with x, whose tag is told
pub record Comparable (name : ℕ → List ℕ) (tags : List ℕ) (place : ℕ) (x : List ℕ) (tag : ℕ) : Type 0 where
  pub few : place < 512
  pub own : get_or tags place 0 ≡ tag_of (name place)
  pub tagged : tag ≡ tag_of x

-- a chain that begins at `from` can be walked in search of x, whose tag is told
pub record Walkable (name : ℕ → List ℕ) (links tags : List ℕ) (from : ℕ) (x : List ℕ) (tag : ℕ) : Type 0 where
  pub few : from ≤ 512
  pub linked : Linked name from links tags
  pub own : 0 < from → bucket_of (name (from - 1)) ≡ bucket_of x
  pub tagged : tag ≡ tag_of x

-- what the walk told: the last place before `from` of the name x
pub record Walked (name : ℕ → List ℕ) (from : ℕ) (x : List ℕ) (told : ℕ) : Type 0 where
  pub low : told ≤ from
  pub skips : (m : ℕ) → told ≤ m → m < from → name m ≡ x → ⊥
  pub found : 0 < told → name (told - 1) ≡ x

-- the same of a place, if there is one
abbrev pub told_of : Option ℕ → ℕ
told_of None = 0
told_of (Some place) = place + 1

-- whether no two of the names listed are the same; where that is so, they are chained
pub record ToldApart (a : List ℕ) (told : Bool) (heads links tags : List ℕ) : Type 0 where
  pub tells : told ≡ pairwise differ (names_in a)
  pub chained : told ≡ true → Chained (name_at a) (count_in a) heads links tags

-- the answer that every call gives first; where it is 0, the names are chained
pub record Tested (a : List ℕ) (answer : ℕ) (heads links tags : List ℕ) : Type 0 where
  pub answers : answer ≡ list_answer a
  pub chained : answer ≡ 0 → Chained (name_at a) (count_in a) heads links tags
