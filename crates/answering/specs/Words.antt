-- The call that writes hits (RULES 25) once more, in words: what it answers, which names it takes, that its bytes read
-- back as they were meant, and what it leaves.
use Rattle.std.specs.Prelude.{ℕ, ◌+◌, ◌≤◌, ◌<◌, ◌≡◌, true, ◌↔◌, ◌⊎◌, ltb, length, get_or, take, drop}
use mathlib.Core.List.{List, [], ◌∷◌, Memᴰ}
use Rattle.laws.specs.Tests.{all}
use Rattle.wire.specs.Header.{number_of, kind_of, ttl_of, hops_of, size_of, payload_of}
use Rattle.namearea.specs.Area.{count_in, name_at}
use Rattle.namearea.specs.Words.{WellListed, Taken}
use Rattle.hits.specs.declared.writing.Responder.{Responder}
use Rattle.hits.specs.Results.{HitResult}
use Rattle.hits.specs.Words.{Typed, WrittenRead}
use Rattle.matching.specs.Words.{HasEvery}
use Rattle.protocol.specs.Queries.{text_in}
use Rattle.protocol.specs.Exactly.{ZeroFrom}
use Rattle.answering.specs.Writing.{chosen, hits_answer, writing, writing_out}

-- ---- the answers

-- a list of names in order, a size for each, and room for the largest message
pub record Lent (a : List ℕ) (sizes out : ℕ) : Type 0 where
  pub names : Taken a
  pub sizes-enough : count_in a ≤ sizes
  pub room : 4119 ≤ out

-- header and payload are there, and the payload has 4,096 bytes at most
pub record Whole (q : List ℕ) : Type 0 where
  pub size : size_of q ≤ 4096
  pub whole : 23 + size_of q ≤ length q

-- a TTL or Hops that a query may not have
abbrev pub NotAllowed : ℕ → List ℕ → Type 0
NotAllowed limit q = (ttl_of q ≡ 0) ⊎ ((15 < ttl_of q) ⊎ (limit ≤ hops_of q))

-- nothing is wrong with what is lent and with the query
pub record Answerable (limit : ℕ) (q a : List ℕ) (sizes out : ℕ) : Type 0 where
  pub lent : Lent a sizes out
  pub whole : Whole q
  pub kind : kind_of q ≡ 0x80
  pub text : ZeroFrom 2 (payload_of q)
  pub allowed : NotAllowed limit q → ⊥

-- the name at this place has every keyword of the query
pub record MatchAt (q a : List ℕ) (i : ℕ) : Type 0 where
  pub listed : i < count_in a
  pub every : HasEvery (text_in (payload_of q)) (name_at a i)

-- when the call answers what
pub record HitsAnswers (limit : ℕ) (q a : List ℕ) (sizes out answer : ℕ) : Type 0 where
  pub two : (answer ≡ 2) ↔ ((length a < 4100) ⊎ (Taken a × ((sizes < count_in a) ⊎ (out < 4119))))
  pub one : (answer ≡ 1) ↔ ((4100 ≤ length a) × (WellListed a → ⊥))
  pub four : (answer ≡ 4)
      ↔ (Lent a sizes out × ((length q < 23) ⊎ ((size_of q ≤ 4096) × (length q < 23 + size_of q))))
  pub five : (answer ≡ 5) ↔ (Lent a sizes out × ((23 ≤ length q) × (4096 < size_of q)))
  pub seven : (answer ≡ 7) ↔ (Lent a sizes out × (Whole q × (kind_of q ≡ 0x80 → ⊥)))
  pub six : (answer ≡ 6)
      ↔ (Lent a sizes out × (Whole q × ((kind_of q ≡ 0x80) × (ZeroFrom 2 (payload_of q) → ⊥))))
  pub eight : (answer ≡ 8)
      ↔ (Lent a sizes out × (Whole q × ((kind_of q ≡ 0x80) × (ZeroFrom 2 (payload_of q) × NotAllowed limit q))))
  pub ten : (answer ≡ 10) ↔ (Answerable limit q a sizes out × ((i : ℕ) → MatchAt q a i → ⊥))
  pub done : (answer ≡ 0) ↔ (Answerable limit q a sizes out × ((i : ℕ) × MatchAt q a i))

abbrev pub HitsExactly : Type 0
HitsExactly = (limit : ℕ) (q a : List ℕ) (sizes out : ℕ)
    → HitsAnswers limit q a sizes out (hits_answer limit q a sizes out)

-- ---- the names that are taken

-- places that rise
abbrev pub Rising : List ℕ → Type 0
Rising places = (k j : ℕ) → k < j → j < length places → get_or places k 0 < get_or places j 0

-- how many bytes the results for these places have: ten, and the name's, each
abbrev pub bytes_for : List ℕ → List ℕ → ℕ
bytes_for a [] = 0
bytes_for a (i ∷ is) = 10 + length (name_at a i) + bytes_for a is

-- a result tells of a place: its index, the size that is lent for it, its name, and no extension
pub record TellsOf (a sizes : List ℕ) (i : ℕ) (r : HitResult) : Type 0 where
  pub index : r.index ≡ i
  pub size : r.size ≡ get_or sizes i 0
  pub name : r.name ≡ name_at a i
  pub extension : r.extension ≡ []

abbrev pub TellOf : List ℕ → List ℕ → List ℕ → List HitResult → Type 0
TellOf a sizes [] [] = Unit {0}
TellOf a sizes [] (r ∷ rs) = ⊥
TellOf a sizes (i ∷ is) [] = ⊥
TellOf a sizes (i ∷ is) (r ∷ rs) = TellsOf a sizes i r × TellOf a sizes is rs

-- of all places whose names have every keyword of the text, in rising order, the results tell of the first n, as many
-- as fit: at most 255 and a payload of at most 4,096 bytes; and no longer beginning of them fits
pub record Longest (text a sizes : List ℕ) (rs : List HitResult) : Type 0 where
  pub places : List ℕ
  pub rising : Rising places
  pub exactly : (i : ℕ) → Memᴰ i places ↔ ((i < count_in a) × HasEvery text (name_at a i))
  pub n : ℕ
  pub some : n ≤ length places
  pub tell : TellOf a sizes (take n places) rs
  pub few : n ≤ 255
  pub fits : 27 + bytes_for a (take n places) ≤ 4096
  pub longest : (m : ℕ) → n < m → m ≤ length places → (255 < m) ⊎ (4096 < 27 + bytes_for a (take m places))

abbrev pub ChosenLongest : Type 0
ChosenLongest = (text a sizes : List ℕ) → Longest text a sizes (chosen text a sizes)

-- ---- the bytes

-- numbers of four bytes, as their type has them
abbrev pub FourBytes : List ℕ → Type 0
FourBytes l = all (λ n. ltb n 4294967296) l ≡ true

-- a hit that was written: its header is of the query's number, TTL one more than the query's Hops, and Hops 0; its
-- payload reads back as who answers, these results and the end; what is told is its length and their number
pub record HitWritten (q : List ℕ) (from : Responder) (rs : List HitResult) (results written : ℕ)
    (out after : List ℕ) : Type 0 where
  pub long : length (take written after) ≡ written
  pub number : number_of (take written after) ≡ number_of q
  pub kind : kind_of (take written after) ≡ 0x81
  pub ttl : ttl_of (take written after) ≡ hops_of q + 1
  pub hops : hops_of (take written after) ≡ 0
  pub size : 23 + size_of (take written after) ≡ written
  pub least : 27 ≤ size_of (take written after)
  pub most : size_of (take written after) ≤ 4096
  pub reads : WrittenRead from rs (payload_of (take written after))
  pub some : 1 ≤ results
  pub few : results ≤ 255
  pub counted : results ≡ length rs
  pub behind : drop written after ≡ drop written out

abbrev pub WritesBack : Type 0
WritesBack = (limit : ℕ) (q a sizes : List ℕ) (from : Responder) (out : List ℕ)
    → Typed from → FourBytes sizes
    → let told = writing limit q a sizes from (length out) in
    told.answer ≡ 0
    → HitWritten q from (chosen (text_in (payload_of q)) a sizes) told.results told.written out
    (writing_out limit q a sizes from out)

-- a refusal leaves every byte, and tells of none written
pub record HitsLeft (told-answer results written : ℕ) (out after : List ℕ) : Type 0 where
  pub stays : (told-answer ≡ 0 → ⊥) → after ≡ out
  pub none : (told-answer ≡ 0 → ⊥) → (results ≡ 0) × (written ≡ 0)
  pub long : length after ≡ length out

abbrev pub HitsLeave : Type 0
HitsLeave = (limit : ℕ) (q a sizes : List ℕ) (from : Responder) (out : List ℕ) → Typed from
    → let told = writing limit q a sizes from (length out) in
    HitsLeft told.answer told.results told.written out (writing_out limit q a sizes from out)

-- the call's answer is the one of the refusals
abbrev pub Answered : Type 0
Answered = (limit : ℕ) (q a sizes : List ℕ) (from : Responder) (out : ℕ)
    → (writing limit q a sizes from out).answer ≡ hits_answer limit q a (length sizes) out
