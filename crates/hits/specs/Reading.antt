-- A hit's payload read (RULES 25.1 to 25.5): what stands at its front, and what a call of the reader gives.
use Rattle.std.specs.Prelude.{ℕ, ◌+◌, ◌-◌, Bool, true, false, cond, not, ◌&&◌, List, [], ◌∷◌, eqb, leb, ltb, length, get_or, take, drop, Option, Some, None, Result, Ok, Err}
use Rattle.laws.specs.Bytes.{little}
use Rattle.laws.specs.Tests.{any, first_of}
use Rattle.laws.specs.Text.{until_zero}
use Rattle.answer.specs.declared.Refusal.{Refusal}
use Rattle.answer.specs.Numbers.{number_of}
use Rattle.hits.specs.declared.reading.HitCursor.{HitCursor}
use Rattle.hits.specs.declared.reading.HitRecord.{HitRecord}
use Rattle.hits.specs.declared.reading.HitNext.{HitNext}
use Rattle.hits.specs.declared.reading.HitHead.{HitHead}
use Rattle.hits.specs.declared.reading.Front.{Front}
use Rattle.hits.specs.declared.reading.Lengths.{Lengths}
use Rattle.hits.specs.Results.{name_in, extension_in, is_whole, result_size}

-- how many bytes the least payload, what stands before the results, and the mark have
abbrev pub smallest : ℕ
smallest = 27

abbrev pub head_size : ℕ
head_size = 11

abbrev pub mark_size : ℕ
mark_size = 16

-- a payload that is no hit's
abbrev pub is_short : List ℕ → Bool
is_short p = ltb (length p) smallest

-- the bytes before the mark, from a place on
abbrev pub body_from : ℕ → List ℕ → List ℕ
body_from at p = drop at (take (length p - mark_size) p)

-- ---- the front: number of results, port 2 bytes, address 4 as they stand, speed 4

abbrev pub cursor_at : ℕ → ℕ → HitCursor
cursor_at at left = record { at = at; left = left }

abbrev pub head_in : List ℕ → HitHead
head_in p =
    record {
      answer = 0;
      results = get_or p 0 0;
      port = little (take 2 (drop 1 p));
      address = take 4 (drop 3 p);
      speed = little (take 4 (drop 7 p));
      markat = length p - mark_size;
      cursor = cursor_at head_size (get_or p 0 0);
    }

abbrev pub no_head : HitHead
no_head =
    record {
      answer = 6;
      results = 0;
      port = 0;
      address = 0 ∷ 0 ∷ 0 ∷ 0 ∷ [];
      speed = 0;
      markat = 0;
      cursor = cursor_at 0 0;
    }

unfoldable pub beginning : List ℕ → HitHead
beginning p = cond (is_short p) no_head (head_in p)

-- ---- a call of the reader

-- the tests, in order: a payload that is no hit's; a result that is stated and does not end before the mark
abbrev pub next_rules : HitCursor → List ℕ → List (Bool × ℕ)
next_rules c p = (is_short p, 6) ∷ (leb 1 c.left && not (is_whole (body_from c.at p)), 6) ∷ []

abbrev pub next_answer : HitCursor → List ℕ → ℕ
next_answer c p = first_of (next_rules c p)

-- there is a result: nothing is refused, and not all that are stated were handed out
abbrev pub is_found : HitCursor → List ℕ → Bool
is_found c p = eqb (next_answer c p) 0 && leb 1 c.left

-- the result that some bytes begin with which stand at a place of the payload
abbrev pub record_in : ℕ → List ℕ → HitRecord
record_in at d =
    record {
      index = little (take 4 d);
      size = little (take 4 (drop 4 d));
      nameat = at + 8;
      namelen = length (name_in d);
      extat = at + 9 + length (name_in d);
      extlen = length (extension_in d);
    }

abbrev pub no_record : HitRecord
no_record = record { index = 0; size = 0; nameat = 0; namelen = 0; extat = 0; extlen = 0 }

-- no result, and the cursor as it was: the end, where the answer is 0
abbrev pub stays : ℕ → HitCursor → HitNext
stays answer c = record { answer = answer; found = false; result = no_record; cursor = c }

-- the result, and the cursor behind it
abbrev pub hands : HitCursor → List ℕ → HitNext
hands c d =
    record {
      answer = 0;
      found = true;
      result = record_in c.at d;
      cursor = cursor_at (c.at + result_size d) (c.left - 1);
    }

unfoldable pub next_of : HitCursor → List ℕ → HitNext
next_of c p = cond (is_found c p) (hands c (body_from c.at p)) (stays (next_answer c p) c)

-- ---- the same as the code has it

-- what a caller in C gets of the front of a payload, and of a call of the reader that left this cursor
abbrev pub head_of : Result Front Refusal → HitHead
head_of (Ok f) =
    record {
      answer = 0;
      results = f.results;
      port = f.port;
      address = f.address;
      speed = f.speed;
      markat = f.markat;
      cursor = f.cursor;
    }
head_of (Err refusal) =
    record {
      answer = number_of refusal;
      results = 0;
      port = 0;
      address = 0 ∷ 0 ∷ 0 ∷ 0 ∷ [];
      speed = 0;
      markat = 0;
      cursor = cursor_at 0 0;
    }

abbrev pub told_of : Result (Option HitRecord) Refusal → HitCursor → HitNext
told_of (Ok (Some r)) c = record { answer = 0; found = true; result = r; cursor = c }
told_of (Ok None) c = stays 0 c
told_of (Err refusal) c = stays (number_of refusal) c

-- whether a result was read, and how long its name and its extension are
abbrev pub lengths_in : Option HitRecord → Lengths
lengths_in (Some r) = record { whole = true; namelen = r.namelen; extlen = r.extlen }
lengths_in None = record { whole = false; namelen = 0; extlen = 0 }

-- the place of the first zero byte
abbrev pub zero_at : List ℕ → Option ℕ
zero_at l = cond (any (eqb 0) l) (Some (length (until_zero l))) None

-- the result that some bytes begin with which stand at a place, if it is whole
abbrev pub record_of : ℕ → List ℕ → Option HitRecord
record_of at d = cond (is_whole d) (Some (record_in at d)) None
