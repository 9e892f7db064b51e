-- The rules of 22.1 to 22.7, and the tests of 22.8, said once more, of bytes and numbers only: where the count and a
-- pair stand, when an area is good, and exactly when a call gives which answer.
use Rattle.std.specs.Prelude.{ℕ, zero, suc, ◌+◌, ◌*◌, ◌≤◌, ◌<◌, ◌≡◌, true, ◌↔◌, ◌⊎◌, List, [], length, get_or}
use Rattle.namearea.specs.Area.{count_in, span_at, names_in}
use Rattle.namearea.specs.Good.{good_name, good_list}
use Rattle.namearea.specs.Calls.{list_answer, find_answer, add_answer, finding}

-- ---- the layout

-- the four bytes from byte p on as a number, the least significant first; a byte that is not there counts 0
unfoldable pub number_at : List ℕ → ℕ → ℕ
number_at a p = get_or a p 0 + 256 * (get_or a (p + 1) 0 + 256 * (get_or a (p + 2) 0 + 256 * get_or a (p + 3) 0))

-- the count, and where the name at place i begins and how long it is
abbrev pub count_field : List ℕ → ℕ
count_field a = number_at a 0

abbrev pub offset_field : List ℕ → ℕ → ℕ
offset_field a i = number_at a (4 + 8 * i)

abbrev pub size_field : List ℕ → ℕ → ℕ
size_field a i = number_at a (8 + 8 * i)

pub record LayoutExactly (a : List ℕ) : Type 0 where
  pub count : count_in a ≡ count_field a
  pub offset : (i : ℕ) → (span_at a i).offset ≡ offset_field a i
  pub size : (i : ℕ) → (span_at a i).size ≡ size_field a i

-- ---- a good area

-- byte p belongs to the name at place i
abbrev pub Belongs : List ℕ → ℕ → ℕ → Type 0
Belongs a i p = (offset_field a i ≤ p) × (p < offset_field a i + size_field a i)

-- the names at two places are the same: as long, and equal byte for byte
pub record SameName (a : List ℕ) (i k : ℕ) : Type 0 where
  pub size : size_field a i ≡ size_field a k
  pub bytes : (p : ℕ) → p < size_field a i → get_or a (offset_field a i + p) 0 ≡ get_or a (offset_field a k + p) 0

-- at most 512 names; each within the text, of 1 to 255 bytes and without a zero byte; no byte of two names; no name
-- twice
pub record WellListed (a : List ℕ) : Type 0 where
  pub few : count_field a ≤ 512
  pub inside : (i : ℕ) → i < count_field a → (4100 ≤ offset_field a i) × (offset_field a i + size_field a i ≤ length a)
  pub sized : (i : ℕ) → i < count_field a → (1 ≤ size_field a i) × (size_field a i ≤ 255)
  pub whole : (i p : ℕ) → i < count_field a → p < size_field a i → get_or a (offset_field a i + p) 0 ≡ 0 → ⊥
  pub apart : (i k p : ℕ) → i < count_field a → k < count_field a → Belongs a i p → Belongs a k p → i ≡ k
  pub distinct : (i k : ℕ) → i < count_field a → k < count_field a → SameName a i k → i ≡ k

-- a name that may be listed
pub record FineName (x : List ℕ) : Type 0 where
  pub some : 1 ≤ length x
  pub short : length x ≤ 255
  pub whole : (p : ℕ) → p < length x → get_or x p 0 ≡ 0 → ⊥

pub record GoodExactly : Type 0 where
  pub area : (a : List ℕ) → (good_list a ≡ true) ↔ WellListed a
  pub name : (x : List ℕ) → (good_name x ≡ true) ↔ FineName x

-- ---- the calls

-- what every call asks of the area
pub record Taken (a : List ℕ) : Type 0 where
  pub long : 4100 ≤ length a
  pub good : WellListed a

-- this name stands at place i, and it stands at some place
pub record StandsAt (a x : List ℕ) (i : ℕ) : Type 0 where
  pub within : i < count_field a
  pub size : size_field a i ≡ length x
  pub bytes : (p : ℕ) → p < length x → get_or a (offset_field a i + p) 0 ≡ get_or x p 0

pub record Present (a x : List ℕ) : Type 0 where
  pub place : ℕ
  pub here : StandsAt a x place

-- the names that contracts speak of: as many as the count says, each with the bytes that its pair tells of
pub record NamesExactly (a : List ℕ) : Type 0 where
  pub count : length (names_in a) ≡ count_field a
  pub each : (i : ℕ) → i < count_field a → StandsAt a (get_or (names_in a) i []) i

-- how many bytes the first n names have together
unfoldable pub sizes_to : List ℕ → ℕ → ℕ
sizes_to a zero = 0
sizes_to a (suc n) = sizes_to a n + size_field a n

-- there are 512 names, or with the new one they have more bytes than the text
abbrev pub Full : List ℕ → List ℕ → Type 0
Full a x = (512 ≤ count_field a) ⊎ (length a < 4100 + (sizes_to a (count_field a) + length x))

-- every call
pub record AreaExactly (a : List ℕ) (answer : ℕ) : Type 0 where
  pub two : (answer ≡ 2) ↔ (length a < 4100)
  pub one : (answer ≡ 1) ↔ ((4100 ≤ length a) × (WellListed a → ⊥))

-- a find and a remove
pub record FindExactly (a x : List ℕ) (answer : ℕ) : Type 0 where
  pub area : AreaExactly a answer
  pub six : (answer ≡ 6) ↔ (Taken a × (FineName x → ⊥))
  pub ten : (answer ≡ 10) ↔ (Taken a × (FineName x × (Present a x → ⊥)))
  pub done : (answer ≡ 0) ↔ (Taken a × (FineName x × Present a x))

pub record AddExactly (a x : List ℕ) (answer : ℕ) : Type 0 where
  pub area : AreaExactly a answer
  pub six : (answer ≡ 6) ↔ (Taken a × (FineName x → ⊥))
  pub nine : (answer ≡ 9) ↔ (Taken a × (FineName x × Present a x))
  pub twenty : (answer ≡ 20) ↔ (Taken a × (FineName x × ((Present a x → ⊥) × Full a x)))
  pub done : (answer ≡ 0) ↔ (Taken a × (FineName x × ((Present a x → ⊥) × (Full a x → ⊥))))

pub record CallsExactly (a x : List ℕ) : Type 0 where
  pub lists : AreaExactly a (list_answer a)
  pub taken : (list_answer a ≡ 0) ↔ Taken a
  pub finds : FindExactly a x (finding a x).answer
  -- a find that is refused tells place 0
  pub blank : ((finding a x).answer ≡ 0 → ⊥) → (finding a x).place ≡ 0
  pub removes : FindExactly a x (find_answer a x)
  pub adds : AddExactly a x (add_answer a x)
  pub names : WellListed a → NamesExactly a
  -- a find tells the place at which the name stands
  pub found : (i : ℕ)
      → (((finding a x).answer ≡ 0) × ((finding a x).place ≡ i)) ↔ (Taken a × (FineName x × StandsAt a x i))
