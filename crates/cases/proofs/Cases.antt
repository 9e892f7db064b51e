-- The eleven worked cases (RULES 18) hold: one theorem over the list, by computation.
use mathlib.Core.Path.{◌≡◌, refl, ◌∙◌, ap}
use mathlib.Core.List.{List, [], ◌∷◌}
use Prim.Native.Nat.{ℕ, ◌/◌, ◌^◌}
use native.Mathlib.Omega.{arith}
use lib.ListN.{length}
use Rattle.laws.specs.Ring.{kept_places}
use Rattle.wire.specs.Header.{message}
use Rattle.keywords.specs.Keywords.{lower}
use Rattle.keywords.specs.Keywords.{is_separator, keywords_of, pieces, filled}
use Rattle.keywords.specs.Hash.{xor32, hash_of, word, place_of}
use Rattle.keywords.proofs.PlaceLaws.{place-cut}
use Rattle.tables.specs.Tables.{good_length, table_in_order}
use Rattle.tables.specs.Patch.{numbers, added, all_fit}
use Rattle.tables.proofs.PatchFacts.{added_at, added_run, together, run-at-once}
use Rattle.tables.specs.Updates.{update_answer, updated, good_reset, good_patch, in_turn, in_range, reset_by, moved_on}
use Rattle.tables.specs.Updates.{patch_by, broken_by}
use Rattle.tables.specs.Admission.{withholds}
use Rattle.protocol.specs.Memory.{queries_in, find, remember, no_twice, memory_in_order}
use Rattle.protocol.specs.Lines.{stored_pongs}
use Rattle.protocol.specs.Order.{line_in_order, in_order}
use Rattle.protocol.specs.Queries.{until_zero, query_step}
use Rattle.protocol.specs.Hits.{hit_step}
use Rattle.protocol.specs.Pings.{walk, pongs_sent, ping_step, pong_step}
use Rattle.protocol.specs.Calls.{fresh, opening, closing, early, update_step, by_type, arriving, own_answer, asking}
use Rattle.cases.specs.Cases.{cases, Holds, Stands, AllHold, begun, own, update, number, query, p1, p2, p3, p4}
use Rattle.cases.specs.Cases.{eb, ebckl, ebcklmen, both, opened, waits, settles}

eleven : length cases ≡ 11
unfolding cases
eleven = refl

pub all_hold : AllHold cases
unfolding cases begun own update number query p1 p2 p3 p4 eb ebckl ebcklmen both opened waits settles
    kept_places message is_separator lower keywords_of pieces filled xor32 hash_of word good_length table_in_order numbers
    added all_fit update_answer updated good_reset good_patch in_turn in_range reset_by moved_on patch_by broken_by withholds
    queries_in find remember no_twice memory_in_order stored_pongs line_in_order in_order until_zero query_step hit_step walk
    pongs_sent ping_step pong_step fresh opening closing early update_step by_type arriving own_answer asking
all_hold = (refl, (refl, (refl, (refl, (refl, (refl, (refl, (refl, (refl, (refl, (refl, tt)))))))))))

-- the places of Q1 and Q2 in a table of four entries, from those at 13 bits by the law over the bits
at-two : (k : List ℕ) (p : ℕ) → Holds (Stands k 13 p) → place_of 2 k ≡ p / 2 ^ 11
at-two k p h = place-cut 2 11 k (omega arith) ∙ ap (λ (x : ℕ). x / 2 ^ 11) h

eb-at-two : place_of 2 eb ≡ 3
unfolding eb lower xor32 hash_of word
eb-at-two = at-two eb 6791 refl

ebckl-at-two : place_of 2 ebckl ≡ 1
unfolding ebckl lower xor32 hash_of word
ebckl-at-two = at-two ebckl 3179 refl

ebcklmen-at-two : place_of 2 ebcklmen ≡ 0
unfolding ebcklmen lower xor32 hash_of word
ebcklmen-at-two = at-two ebcklmen 1062 refl

-- the numbers of P2 and of P3 in a run of two messages come to what they come to at once, by the law over the bits
in_two : (bits v : ℕ)
    → added_run bits 0 ((0 ∷ v ∷ []) ∷ (0 ∷ v ∷ []) ∷ []) (8 ∷ 8 ∷ 8 ∷ 8 ∷ [])
    ≡ added_at bits 0 (0 ∷ v ∷ 0 ∷ v ∷ []) (8 ∷ 8 ∷ 8 ∷ 8 ∷ [])
unfolding together
in_two bits v = run-at-once bits 0 ((0 ∷ v ∷ []) ∷ (0 ∷ v ∷ []) ∷ []) (8 ∷ 8 ∷ 8 ∷ 8 ∷ []) (omega arith)

p2_in_two : added_run 4 0 ((0 ∷ 9 ∷ []) ∷ (0 ∷ 9 ∷ []) ∷ []) (8 ∷ 8 ∷ 8 ∷ 8 ∷ []) ≡ 8 ∷ 1 ∷ 8 ∷ 1 ∷ []
unfolding added
p2_in_two = in_two 4 9

p3_in_two : added_run 8 0 ((0 ∷ 0xF9 ∷ []) ∷ (0 ∷ 0xF9 ∷ []) ∷ []) (8 ∷ 8 ∷ 8 ∷ 8 ∷ []) ≡ 8 ∷ 1 ∷ 8 ∷ 1 ∷ []
unfolding added
p3_in_two = in_two 8 0xF9
