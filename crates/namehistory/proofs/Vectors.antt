-- Areas of names, evaluated: what is good and what is not, what calls answer at the limits, and a list of calls with
-- the areas that it may leave. They show that the theorems of this crate speak of something.
-- Assumes nothing.
use Prim.Native.Nat.{ℕ, ◌*◌, ◌-◌}
use native.Mathlib.Omega.{arith}
use mathlib.Core.Path.{◌≡◌, refl}
use mathlib.Core.List.{List, [], ◌∷◌, ◌++◌}
use lib.ListN.{length, replicate}
use Rattle.laws.specs.Bytes.{little_bytes}
use Rattle.ascii.specs.Text.{compared}
use Rattle.namearea.specs.Area.{count_in, span_in, spans_from, total}
use Rattle.namearea.specs.Good.{good_name, listable, pairwise, good_list}
use Rattle.namearea.specs.Calls.{list_answer, place_among, find_answer, finding, add_answer}
use Rattle.namearea.specs.Calls.{Relisted, Changed}
use Rattle.namehistory.specs.Plain.{Edit, Add, Remove, is_unfit, is_full, edited, answers_from, names_from}
use Rattle.namehistory.specs.History.{Ran, Over, Then}
use Rattle.namehistory.specs.Finding.{at, absent}

-- offset and length of a name
abbrev Pair : Type 0
Pair = ℕ × ℕ

abbrev pairs : List Pair → List ℕ
pairs [] = []
pairs (p ∷ ps) = little_bytes 4 p.0 ++ (little_bytes 4 p.1 ++ pairs ps)

-- an area with this count, these pairs, and `junk` in the pairs behind them
abbrev area_of : ℕ → List Pair → ℕ → List ℕ → List ℕ
area_of count ps junk text = little_bytes 4 count ++ (pairs ps ++ (replicate (4096 - 8 * length ps) junk ++ text))

-- names of n bytes
abbrev A : ℕ → List ℕ
A n = replicate n 0x61

abbrev B : ℕ → List ℕ
B n = replicate n 0x62

abbrev C : ℕ → List ℕ
C n = replicate n 0x63

abbrev D : ℕ → List ℕ
D n = replicate n 0x64

-- 4,130 bytes: no name; three of 10 bytes, which fill the room; the second of them removed, its bytes left behind
empty : List ℕ
empty = area_of 0 [] 0 (replicate 30 0)

three : List ℕ
three = area_of 3 ((4100, 10) ∷ (4110, 10) ∷ (4120, 10) ∷ []) 0 (A 10 ++ (B 10 ++ C 10))

two : List ℕ
two = area_of 2 ((4100, 10) ∷ (4120, 10) ∷ (4120, 10) ∷ []) 0 (A 10 ++ (B 10 ++ C 10))

-- 4,120 bytes with a gap of 10 before the one name, of 10 bytes and of 5
gap : ℕ → List ℕ
gap n = area_of 1 ((4110, n) ∷ []) 0 (replicate 10 0 ++ (A n ++ replicate (10 - n) 0))

-- 4,106 bytes
small : ℕ → List Pair → ℕ → List ℕ
small count ps junk = area_of count ps junk (0x61 ∷ 0x61 ∷ 0x61 ∷ 0x41 ∷ 0x61 ∷ 0 ∷ [])

-- the answers of the list alone
record Goods : Type 0 where
  -- names that touch, and pairs past the count with an offset and a length far outside
  pub touching : list_answer (small 2 ((4100, 2) ∷ (4102, 3) ∷ []) 0) ≡ 0
  pub junk : list_answer (small 1 ((4100, 2) ∷ []) 255) ≡ 0
  -- the order of offsets does not count, and a and A are two names
  pub falling : list_answer (small 2 ((4102, 3) ∷ (4100, 2) ∷ []) 0) ≡ 0
  pub cases : list_answer (small 2 ((4102, 1) ∷ (4103, 1) ∷ []) 0) ≡ 0
  -- the same offset twice, one byte in common, one inside of another, and the same bytes at two places
  pub twice : list_answer (small 2 ((4100, 2) ∷ (4100, 2) ∷ []) 0) ≡ 1
  pub common : list_answer (small 2 ((4100, 3) ∷ (4102, 3) ∷ []) 0) ≡ 1
  pub inside : list_answer (small 2 ((4100, 5) ∷ (4103, 1) ∷ []) 0) ≡ 1
  pub same : list_answer (small 2 ((4100, 1) ∷ (4101, 1) ∷ []) 0) ≡ 1
  -- an empty name, one with a zero byte, one that begins in the pairs, and ones that end past the area, also by far
  pub nothing : list_answer (small 1 ((4100, 0) ∷ []) 0) ≡ 1
  pub zero : list_answer (small 1 ((4104, 2) ∷ []) 0) ≡ 1
  pub early : list_answer (small 1 ((4099, 2) ∷ []) 1) ≡ 1
  pub late : list_answer (small 1 ((4105, 2) ∷ []) 0) ≡ 1
  pub wrapped : list_answer (small 1 ((4294967295, 2) ∷ []) 0) ≡ 1
  -- a name of 255 bytes, and one of 256
  pub longest : list_answer (area_of 1 ((4100, 255) ∷ []) 0 (A 256)) ≡ 0
  pub longer : list_answer (area_of 1 ((4100, 256) ∷ []) 0 (A 256)) ≡ 1
  -- a count of 513, an area with no byte of text, and one that is too short for the pairs, whatever its count
  pub many : list_answer (small 513 [] 0) ≡ 1
  pub bare : list_answer (area_of 0 [] 0 []) ≡ 0
  pub short : list_answer (replicate 4099 0) ≡ 2
  pub shorter : list_answer (replicate 4099 255) ≡ 2

-- calls on these
record Answers : Type 0 where
  pub full : add_answer three (D 10) ≡ 20
  pub freed : add_answer two (D 10) ≡ 0
  pub over : add_answer two (D 11) ≡ 20
  -- a foreign gap: only the bytes of all names count
  pub fits : add_answer (gap 10) (D 10) ≡ 0
  pub tight : add_answer (gap 10) (D 15) ≡ 20
  pub around : add_answer (gap 5) (D 15) ≡ 0
  -- 6 before 9 and 10, 9 before 20, 10, and the case of letters
  pub unfit : add_answer three [] ≡ 6
  pub unfound : find_answer three (D 9 ++ (0 ∷ [])) ≡ 6
  pub long : find_answer three (D 256) ≡ 6
  pub present : add_answer three (B 10) ≡ 9
  pub missing : find_answer three (D 10) ≡ 10
  pub upper : find_answer three (replicate 10 0x42) ≡ 10
  -- no room at all
  pub bare : add_answer (area_of 0 [] 0 []) (D 1) ≡ 20
  -- 2 and 1 before every other
  pub short : add_answer (replicate 4099 0) [] ≡ 2
  pub bad : add_answer (small 513 [] 0) [] ≡ 1
  -- places
  pub second : finding three (B 10) ≡ at 1
  pub third : finding three (C 10) ≡ at 2
  pub gone : finding two (B 10) ≡ absent
  pub forward : finding two (C 10) ≡ at 1

goods : Goods
unfolding small count_in span_in spans_from good_name listable pairwise good_list compared list_answer
goods =
    record {
      touching = refl;
      junk = refl;
      falling = refl;
      cases = refl;
      twice = refl;
      common = refl;
      inside = refl;
      same = refl;
      nothing = refl;
      zero = refl;
      early = refl;
      late = refl;
      wrapped = refl;
      longest = refl;
      longer = refl;
      many = refl;
      bare = refl;
      short = refl;
      shorter = refl;
    }

answers : Answers
unfolding three two gap small count_in span_in spans_from total good_name listable pairwise good_list compared place_among
    find_answer finding add_answer
answers =
    record {
      full = refl;
      freed = refl;
      over = refl;
      fits = refl;
      tight = refl;
      around = refl;
      unfit = refl;
      unfound = refl;
      long = refl;
      present = refl;
      missing = refl;
      upper = refl;
      bare = refl;
      short = refl;
      bad = refl;
      second = refl;
      third = refl;
      gone = refl;
      forward = refl;
    }

-- A list of calls: three names fill the room and a fourth is refused; with the second removed it comes in as the last,
-- and its bytes lie where those of the second lay
edits : List Edit
edits = Add (A 10) ∷ Add (B 10) ∷ Add (C 10) ∷ Add (D 10) ∷ Remove (B 10) ∷ Remove (B 10) ∷ Add (D 10) ∷ []

plain-answers : answers_from 30 [] edits ≡ 0 ∷ 0 ∷ 0 ∷ 20 ∷ 0 ∷ 10 ∷ 0 ∷ []
unfolding edits is_unfit is_full edited answers_from
plain-answers = refl

plain-names : names_from 30 [] edits ≡ A 10 ∷ C 10 ∷ D 10 ∷ []
unfolding edits is_unfit is_full edited names_from
plain-names = refl

-- the areas after the first and the second add, and after the last
first : List ℕ
first = area_of 1 ((4100, 10) ∷ []) 0 (A 10 ++ replicate 20 0)

second : List ℕ
second = area_of 2 ((4100, 10) ∷ (4110, 10) ∷ []) 0 (A 10 ++ (B 10 ++ replicate 10 0))

last : List ℕ
last = area_of 3 ((4100, 10) ∷ (4120, 10) ∷ (4110, 10) ∷ []) 0 (A 10 ++ (D 10 ++ C 10))

-- a call that is answered 0, and one that is refused
done : (area after : List ℕ) (names : List (List ℕ)) → Relisted area after names → Changed 0 area names 0 after
done area after names r = record { answers = refl; refused = λ n. absurd (n refl); done = λ _. r }

refused : (area : List ℕ) (names : List (List ℕ)) (n : ℕ) → (n ≡ 0 → ⊥) → Changed n area names n area
refused area names n some = record { answers = refl; refused = λ _. refl; done = λ z. absurd (some z) }

ran : Ran empty edits (0 ∷ 0 ∷ 0 ∷ 20 ∷ 0 ∷ 10 ∷ 0 ∷ []) last
unfolding empty first second three two last edits count_in span_in spans_from total good_name listable pairwise good_list
    compared place_among find_answer add_answer
ran =
    Then {middle = first} (done empty first _ (record { long = refl; good = refl; listed = refl }))
    (Then {middle = second} (done first second _ (record { long = refl; good = refl; listed = refl }))
    (Then {middle = three} (done second three _ (record { long = refl; good = refl; listed = refl }))
    (Then {middle = three} (refused three _ 20 (λ z. omega arith))
    (Then {middle = two} (done three two _ (record { long = refl; good = refl; listed = refl }))
    (Then {middle = two} (refused two _ 10 (λ z. omega arith))
    (Then {middle = last} (done two last _ (record { long = refl; good = refl; listed = refl })) Over))))))
