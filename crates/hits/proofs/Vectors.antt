-- Payloads read and written by computation.
use Prim.Native.Nat.{ℕ}
use mathlib.Core.Path.{◌≡◌, refl}
use mathlib.Core.Bool.{true}
use mathlib.Core.List.{List, [], ◌∷◌, ◌++◌, map}
use lib.ListN.{replicate}
use Rattle.laws.specs.Text.{until_zero}
use Rattle.hits.specs.declared.reading.HitCursor.{HitCursor}
use Rattle.hits.specs.declared.reading.HitNext.{HitNext}
use Rattle.hits.specs.Results.{without_extension, result_bytes, results_bytes, is_whole}
use Rattle.hits.specs.Reading.{cursor_at, no_head, beginning, stays, next_of}
use Rattle.hits.specs.Writing.{head_bytes, hit_payload, result_into}

-- port 6346, address 10.0.0.1, speed 0x01020304
abbrev head : ℕ → List ℕ
head stated = stated ∷ 0xCA ∷ 0x18 ∷ 10 ∷ 0 ∷ 0 ∷ 1 ∷ 4 ∷ 3 ∷ 2 ∷ 1 ∷ []

-- file 7 of 300 bytes, "ab", with the extension "x"; file 1 of 65536 bytes, "c", without its last zero byte
abbrev first : List ℕ
first = 7 ∷ 0 ∷ 0 ∷ 0 ∷ 44 ∷ 1 ∷ 0 ∷ 0 ∷ 97 ∷ 98 ∷ 0 ∷ 120 ∷ 0 ∷ []

abbrev second : List ℕ
second = 1 ∷ 0 ∷ 0 ∷ 0 ∷ 0 ∷ 0 ∷ 1 ∷ 0 ∷ 99 ∷ 0 ∷ []

abbrev first_read : ℕ → HitNext
first_read left =
    record {
      answer = 0;
      found = true;
      result = record { index = 7; size = 300; nameat = 19; namelen = 2; extat = 22; extlen = 1 };
      cursor = cursor_at 24 left;
    }

-- two results, three bytes behind them, and the mark: its front, both results, and the end
abbrev two : List ℕ
two = head 2 ++ (first ++ (second ++ (0 ∷ 1 ∷ 2 ∷ 3 ∷ replicate 16 9)))

front : beginning two
    ≡ record {
      answer = 0;
      results = 2;
      port = 6346;
      address = 10 ∷ 0 ∷ 0 ∷ 1 ∷ [];
      speed = 0x01020304;
      markat = 38;
      cursor = cursor_at 11 2;
    }
unfolding beginning
front = refl

read : map (λ (c : HitCursor). next_of c two) (cursor_at 11 2 ∷ cursor_at 24 1 ∷ cursor_at 35 0 ∷ [])
    ≡ first_read 1
    ∷ record {
      answer = 0;
      found = true;
      result = record { index = 1; size = 65536; nameat = 32; namelen = 1; extat = 34; extlen = 0 };
      cursor = cursor_at 35 0;
    }
    ∷ stays 0 (cursor_at 35 0)
    ∷ []
unfolding next_of is_whole until_zero
read = refl

-- two stated, and the second's last zero byte is the mark's first: one result, then 6
abbrev cut : List ℕ
cut = head 2 ++ (first ++ (second ++ (0 ∷ replicate 15 9)))

into_the_mark : (beginning cut).answer ≡ 0
unfolding beginning
into_the_mark = refl

cut-read : map (λ (c : HitCursor). next_of c cut) (cursor_at 11 2 ∷ cursor_at 24 1 ∷ [])
    ≡ first_read 1 ∷ stays 6 (cursor_at 24 1) ∷ []
unfolding next_of is_whole until_zero
cut-read = refl

-- 27 zero bytes: no result is stated, so the end at once; 26: no hit, whatever the cursor
least : next_of (beginning (replicate 27 0)).cursor (replicate 27 0) ≡ stays 0 (cursor_at 11 0)
unfolding beginning next_of
least = refl

short : beginning (replicate 26 0) ≡ no_head
unfolding beginning
short = refl

short-read : map (λ (c : HitCursor). next_of c (replicate 26 0)) (cursor_at 11 0 ∷ cursor_at 0 1 ∷ [])
    ≡ stays 6 (cursor_at 11 0) ∷ stays 6 (cursor_at 0 1) ∷ []
unfolding next_of
short-read = refl

-- a cursor that is past all payloads
far : next_of (cursor_at 18446744073709551615 1) two ≡ stays 6 (cursor_at 18446744073709551615 1)
unfolding next_of is_whole until_zero
far = refl

-- none stated, and bytes before the mark that are a result: the end
none-stated : next_of (cursor_at 11 0) (head 0 ++ (first ++ replicate 16 9)) ≡ stays 0 (cursor_at 11 0)
unfolding next_of
none-stated = refl

-- written: the front and both results, the first without its extension; and a part with room for all of a result but a
-- byte stays as it is
written : hit_payload
    record { port = 6346; address = 10 ∷ 0 ∷ 0 ∷ 1 ∷ []; speed = 0x01020304; mark = replicate 16 9 }
    (without_extension 7 300 (97 ∷ 98 ∷ []) ∷ without_extension 1 65536 (99 ∷ []) ∷ [])
    ≡ head 2
    ++ (7 ∷ 0 ∷ 0 ∷ 0 ∷ 44 ∷ 1 ∷ 0 ∷ 0 ∷ 97 ∷ 98 ∷ 0 ∷ 0 ∷ (second ++ (0 ∷ replicate 16 9)))
unfolding hit_payload head_bytes results_bytes result_bytes
written = refl

room : map (result_into (without_extension 1 65536 (99 ∷ []))) (replicate 12 5 ∷ replicate 10 5 ∷ [])
    ≡ (second ++ (0 ∷ 5 ∷ [])) ∷ replicate 10 5 ∷ []
unfolding result_into result_bytes
room = refl
