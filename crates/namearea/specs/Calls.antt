-- The calls on an area of names (RULES 22.5 to 22.9): their refusals in order, what a find tells, and what an add and a
-- remove leave.
use Rattle.std.specs.Prelude.{ℕ, suc, ◌+◌, ◌-◌, ◌≡◌, Bool, true, cond, not, ◌||◌, List, [], ◌∷◌, ◌++◌, eqb, leb, ltb, length, take, drop}
use Rattle.std.specs.Prelude.{Result, Ok, Err}
use Rattle.laws.specs.Tests.{first_of, any}
use Rattle.answer.specs.declared.Refusal.{Refusal}
use Rattle.answer.specs.Numbers.{number_of}
use Rattle.namearea.specs.declared.Found.{Found}
use Rattle.namearea.specs.Area.{most_names, text_from, names_in, total}
use Rattle.namearea.specs.Good.{good_name, same_text, good_list}

-- every call: 2 for an area with no room for the pairs, 1 for one that is not good
abbrev pub list_rules : List ℕ → List (Bool × ℕ)
list_rules a = (ltb (length a) text_from, 2) ∷ (not (good_list a), 1) ∷ []

unfoldable pub list_answer : List ℕ → ℕ
list_answer a = first_of (list_rules a)

-- a name is among these
abbrev pub is_listed : List ℕ → List (List ℕ) → Bool
is_listed x names = any (same_text x) names

-- its place among them, from 0; how many they are where it is not there
unfoldable pub place_among : List ℕ → List (List ℕ) → ℕ
place_among x [] = 0
place_among x (y ∷ ys) = cond (same_text x y) 0 (suc (place_among x ys))

-- a find, and a remove: then 6 for a name that may not be listed, 10 for one that is absent
abbrev pub find_rules : List ℕ → List ℕ → List (Bool × ℕ)
find_rules a x = list_rules a ++ ((not (good_name x), 6) ∷ (not (is_listed x (names_in a)), 10) ∷ [])

unfoldable pub find_answer : List ℕ → List ℕ → ℕ
find_answer a x = first_of (find_rules a x)

-- what a find tells: the answer, and the place, 0 where it is refused
unfoldable pub finding : List ℕ → List ℕ → Found
finding a x =
    record {
      answer = find_answer a x;
      place = cond (eqb (find_answer a x) 0) (place_among x (names_in a)) 0;
    }

-- what the outcome of a find comes to: a place, or a refusal
abbrev pub found_of : Result ℕ Refusal → Found
found_of (Ok place) = record { answer = 0; place = place }
found_of (Err refusal) = record { answer = number_of refusal; place = 0 }

-- one more name finds no place: there are 512, or with it they have more bytes together than there is room for text,
-- wherever they lie
abbrev pub no_room : ℕ → List (List ℕ) → List ℕ → Bool
no_room room names x = leb most_names (length names) || ltb room (total names + length x)

-- an add: then 6, 9 for a name that is there, 20 where it finds no place
abbrev pub add_rules : List ℕ → List ℕ → List (Bool × ℕ)
add_rules a x =
    list_rules a
    ++ ((not (good_name x), 6)
    ∷ (is_listed x (names_in a), 9)
    ∷ (no_room (length a - text_from) (names_in a) x, 20)
    ∷ [])

unfoldable pub add_answer : List ℕ → List ℕ → ℕ
add_answer a x = first_of (add_rules a x)

-- the names after an add, and after a remove
abbrev pub with_last : List (List ℕ) → List ℕ → List (List ℕ)
with_last names x = names ++ (x ∷ [])

abbrev pub without : List (List ℕ) → List ℕ → List (List ℕ)
without names x = take (place_among x names) names ++ drop (place_among x names + 1) names

-- What the rules leave free is where texts lie, what bytes of no name hold, and pairs past the count. Of an area after
-- a change this holds: it is as long as before, it is good again, and these are its names.
pub record Relisted (area after : List ℕ) (names : List (List ℕ)) : Type 0 where
  pub long : length after ≡ length area
  pub good : good_list after ≡ true
  pub listed : names_in after ≡ names

-- a call that may change the list: this is its answer; a refusal leaves every byte, and answer 0 these names
pub record Changed (expected : ℕ) (area : List ℕ) (names : List (List ℕ)) (answer : ℕ) (after : List ℕ) : Type 0 where
  pub answers : answer ≡ expected
  pub refused : (answer ≡ 0 → ⊥) → after ≡ area
  pub done : answer ≡ 0 → Relisted area after names

abbrev pub Added : List ℕ → List ℕ → ℕ → List ℕ → Type 0
Added area x = Changed (add_answer area x) area (with_last (names_in area) x)

abbrev pub Removed : List ℕ → List ℕ → ℕ → List ℕ → Type 0
Removed area x = Changed (find_answer area x) area (without (names_in area) x)
