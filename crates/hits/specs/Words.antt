-- Hits read and written (RULES 25) once more, in words: what a call of the reader gives, that calls one after another
-- hand out the results that stand in the payload, and that what is written is read back.
use Rattle.std.specs.Prelude.{ℕ, ◌+◌, ◌*◌, ◌≤◌, ◌<◌, ◌≡◌, true, false, ◌↔◌, ◌⊎◌, List, [], ◌∷◌, ◌++◌, eqb, ltb, length, get_or, take, drop}
use Rattle.laws.specs.Tests.{any, all}
use Rattle.hits.specs.declared.reading.HitCursor.{HitCursor}
use Rattle.hits.specs.declared.writing.Responder.{Responder}
use Rattle.hits.specs.Results.{HitResult, result_bytes, results_bytes}
use Rattle.hits.specs.Reading.{no_head, beginning, no_record, next_of}
use Rattle.hits.specs.Writing.{hit_payload}

-- every element is a byte
abbrev pub Bytes : List ℕ → Type 0
Bytes l = all (λ b. ltb b 256) l ≡ true

-- ---- a result

-- a result that bytes can tell: numbers of four bytes, and no zero byte in its name or its extension
pub record Tellable (r : HitResult) : Type 0 where
  pub index : r.index < 4294967296
  pub size : r.size < 4294967296
  pub name : any (eqb 0) r.name ≡ false
  pub extension : any (eqb 0) r.extension ≡ false

abbrev pub AllTellable : List HitResult → Type 0
AllTellable [] = Unit {0}
AllTellable (r ∷ rs) = Tellable r × AllTellable rs

-- bytes that begin with no result
abbrev pub NoResult : List ℕ → Type 0
NoResult d = (r : HitResult) (rest : List ℕ) → Tellable r → d ≡ result_bytes r ++ rest → ⊥

-- ---- one call of the reader: any cursor, any payload

-- the payload has 27 bytes or more: some, and the last sixteen, the mark
pub record Marked (p before mark : List ℕ) : Type 0 where
  pub is : p ≡ before ++ mark
  pub sixteen : length mark ≡ 16
  pub eleven : 11 ≤ length before

-- the call hands out this result: its numbers, its name and its extension where the payload has them, and the next
-- cursor is behind it, with one less left
pub record HandsOut (p : List ℕ) (c : HitCursor) (r : HitResult) (after : HitCursor) : Type 0 where
  pub answer : (next_of c p).answer ≡ 0
  pub found : (next_of c p).found ≡ true
  pub index : (next_of c p).result.index ≡ r.index
  pub size : (next_of c p).result.size ≡ r.size
  pub name : take (next_of c p).result.namelen (drop (next_of c p).result.nameat p) ≡ r.name
  pub extension : take (next_of c p).result.extlen (drop (next_of c p).result.extat p) ≡ r.extension
  pub moved : (next_of c p).cursor ≡ after
  pub behind : after.at ≡ c.at + length (result_bytes r)
  pub fewer : after.left + 1 ≡ c.left

-- it hands out none: with this answer, zeros for a result, and the cursor as it was
pub record HandsNone (p : List ℕ) (c : HitCursor) (answer : ℕ) : Type 0 where
  pub answers : (next_of c p).answer ≡ answer
  pub found : (next_of c p).found ≡ false
  pub zeros : (next_of c p).result ≡ no_record
  pub stays : (next_of c p).cursor ≡ c

-- a short payload is 6; else, with none left, the call tells the end; else it hands out the result that stands at the
-- cursor, before the mark, and is 6 where none does. These are all the cases. That none stands there is said of bytes
-- only: a number over 255 is in no result's bytes
pub record NextCall (p : List ℕ) (c : HitCursor) : Type 0 where
  pub short : length p < 27 → HandsNone p c 6
  pub ended : (before mark : List ℕ) → Marked p before mark → c.left ≡ 0 → HandsNone p c 0
  pub result : (before mark : List ℕ) → Marked p before mark → 1 ≤ c.left
      → (r : HitResult) (rest : List ℕ) → Tellable r → drop c.at before ≡ result_bytes r ++ rest
      → (after : HitCursor) × HandsOut p c r after
  pub none : Bytes p → (before mark : List ℕ) → Marked p before mark → 1 ≤ c.left → NoResult (drop c.at before)
      → HandsNone p c 6
  pub cases : Bytes p → (before mark : List ℕ) → Marked p before mark
      → ((r : HitResult) × ((rest : List ℕ) × (Tellable r × (drop c.at before ≡ result_bytes r ++ rest))))
      ⊎ NoResult (drop c.at before)

abbrev pub NextExactly : Type 0
NextExactly = (p : List ℕ) (c : HitCursor) → NextCall p c

-- nothing outside the payload is told of: name and extension lie before the mark
abbrev pub NextWithin : Type 0
NextWithin = (p : List ℕ) (c : HitCursor) → (next_of c p).found ≡ true
    → ((next_of c p).result.nameat + (next_of c p).result.namelen < (next_of c p).result.extat)
    × (((next_of c p).result.extat + (next_of c p).result.extlen < (next_of c p).cursor.at)
    × ((next_of c p).cursor.at + 16 ≤ length p))

-- ---- all results, one call after another

-- the payload: eleven bytes, of which the first is the number that is stated, these results, other bytes, the mark
pub record Holds (p : List ℕ) (stated : ℕ) (rs : List HitResult) (rest mark : List ℕ) : Type 0 where
  pub head : List ℕ
  pub is : p ≡ (stated ∷ head) ++ (results_bytes rs ++ (rest ++ mark))
  pub ten : length head ≡ 10
  pub sixteen : length mark ≡ 16
  pub tellable : AllTellable rs

-- calls one after another, from one cursor to another, hand these results out
abbrev pub HandsAll : List ℕ → HitCursor → List HitResult → HitCursor → Type 0
HandsAll p c [] after = c ≡ after
HandsAll p c (r ∷ rs) after = (next : HitCursor) × (HandsOut p c r next × HandsAll p next rs after)

-- the calls from the first cursor on hand the results out, in their order; behind them, where they are as many as
-- stated, the end, whatever bytes are left, and else 6 where no other result stands there
pub record ReadBy (p : List ℕ) (stated : ℕ) (rs : List HitResult) (rest : List ℕ) : Type 0 where
  pub last : HitCursor
  pub handed : HandsAll p (beginning p).cursor rs last
  pub ended : length rs ≡ stated → HandsNone p last 0
  pub refused : Bytes p → length rs < stated → NoResult rest → HandsNone p last 6

abbrev pub ReadsAll : Type 0
ReadsAll = (p : List ℕ) (stated : ℕ) (rs : List HitResult) (rest mark : List ℕ) → Holds p stated rs rest mark
    → length rs ≤ stated → ReadBy p stated rs rest

-- every payload of 27 bytes or more is of this kind: it holds as many results as it states, or fewer and then bytes
-- that begin with none
pub record Split (p : List ℕ) : Type 0 where
  pub stated : ℕ
  pub results : List HitResult
  pub rest : List ℕ
  pub mark : List ℕ
  pub holds : Holds p stated results rest mark
  pub all : (length results ≡ stated) ⊎ ((length results < stated) × NoResult rest)

abbrev pub Splits : Type 0
Splits = (p : List ℕ) → Bytes p → 27 ≤ length p → Split p

-- ---- the front

-- the fields byte by byte, where the mark begins, and the cursor: behind the eleven bytes, with as many left as are
-- stated
pub record HeadFields (p : List ℕ) : Type 0 where
  pub results : (beginning p).results ≡ get_or p 0 0
  pub port : (beginning p).port ≡ get_or p 1 0 + 256 * get_or p 2 0
  pub address : (beginning p).address ≡ get_or p 3 0 ∷ get_or p 4 0 ∷ get_or p 5 0 ∷ get_or p 6 0 ∷ []
  pub speed : (beginning p).speed ≡ get_or p 7 0 + 256 * (get_or p 8 0 + 256 * (get_or p 9 0 + 256 * get_or p 10 0))
  pub mark : (beginning p).markat + 16 ≡ length p
  pub at : (beginning p).cursor.at ≡ 11
  pub left : (beginning p).cursor.left ≡ get_or p 0 0

-- 6 exactly for a short payload, of which nothing is told, and else 0 and the fields
pub record HeadCall (p : List ℕ) : Type 0 where
  pub short : ((beginning p).answer ≡ 6) ↔ (length p < 27)
  pub taken : ((beginning p).answer ≡ 0) ↔ (27 ≤ length p)
  pub nothing : length p < 27 → beginning p ≡ no_head
  pub fields : 27 ≤ length p → HeadFields p

abbrev pub HeadExactly : Type 0
HeadExactly = (p : List ℕ) → HeadCall p

-- ---- what is written is read back

-- who answers, with arrays and numbers as their types have them
pub record Typed (from : Responder) : Type 0 where
  pub port : from.port < 65536
  pub speed : from.speed < 4294967296
  pub address : length from.address ≡ 4
  pub mark : length from.mark ≡ 16

-- its fields, its mark at the place that is told, all results, and then the end
pub record WrittenRead (from : Responder) (rs : List HitResult) (p : List ℕ) : Type 0 where
  pub answer : (beginning p).answer ≡ 0
  pub results : (beginning p).results ≡ length rs
  pub port : (beginning p).port ≡ from.port
  pub address : (beginning p).address ≡ from.address
  pub speed : (beginning p).speed ≡ from.speed
  pub mark : drop (beginning p).markat p ≡ from.mark
  pub last : HitCursor
  pub handed : HandsAll p (beginning p).cursor rs last
  pub ended : HandsNone p last 0

abbrev pub ReadsWritten : Type 0
ReadsWritten = (from : Responder) (rs : List HitResult) → Typed from → AllTellable rs → length rs < 256
    → WrittenRead from rs (hit_payload from rs)
