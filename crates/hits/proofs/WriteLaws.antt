-- What the copies and stores of a writer leave.
use Prim.Native.Nat.{ℕ, suc, ◌+◌, ◌%◌, ◌/◌, ◌^◌, ◌≤◌, ◌<◌}
use mathlib.Core.Path.{◌≡◌, refl, sym, ap, ◌∙◌}
use mathlib.Core.List.{List, [], ◌∷◌, ◌++◌, append_assoc}
use native.Mathlib.Omega.{arith}
use lib.Seq.{drop-drop}
use Rattle.std.specs.Int.{w16, to_le_bytes}
use lib.ListN.{length, take, drop, set, length-append}
use borrow.Author.Tests.{le-leb, lt-leb}
use borrow.Rule.Slice.PartMut.{put_mid}
use Rattle.laws.specs.Bytes.{little_bytes}
use Rattle.laws.specs.Parts.{over}
use Rattle.laws.proofs.Writing.{written_next}
use Rattle.hits.specs.declared.writing.Responder.{Responder}
use Rattle.hits.specs.Results.{result_bytes, without_extension}
use Rattle.hits.specs.Writing.{head_bytes, result_into, head_into}
use Rattle.hits.proofs.ResultLaws.{result-length}

-- the library's bytes of a number
pub bytes-two : (n : ℕ) → to_le_bytes w16 n ≡ little_bytes 2 n
bytes-two n = let one : n / 256 ^ 1 % 256 ≡ n / 256 % 256 = omega arith in cc

-- a part that is copied whole stands over the list
pub over-put : (a k : ℕ) (bs area : List ℕ) → length bs ≡ k → put_mid a k area bs ≡ over a bs area
over-put a k bs area e =
    ap (λ l. take a area ++ (bs ++ l)) (drop-drop k a area)
    ∙ ap (λ n. take a area ++ (bs ++ drop (a + n) area)) (sym e)

-- behind what stands at the front already
put_next : (n k : ℕ) (xs bs area mid : List ℕ) → length xs ≡ n → length bs ≡ k → mid ≡ over 0 xs area
    → put_mid n k mid bs ≡ over 0 (xs ++ bs) area
put_next n k xs bs area mid l h e = over-put n k bs mid h ∙ ap (over n bs) e ∙ written_next n xs bs area l

pub result-long : (index size : ℕ) (name : List ℕ)
    → length (result_bytes (without_extension index size name)) ≡ 10 + length name
result-long index size name = omega (arith, result-length (without_extension index size name))

pub no_room : (index size : ℕ) (name part : List ℕ) → length part < 10 + length name
    → result_into (without_extension index size name) part ≡ part
unfolding result_into
no_room index size name part h = rw (result-long index size name, lt-leb _ _ h)

pub has_room : (index size : ℕ) (name part : List ℕ) → 10 + length name ≤ length part
    → result_into (without_extension index size name) part
    ≡ over 0 (result_bytes (without_extension index size name)) part
unfolding result_into
has_room index size name part h =
    rw (le-leb (length (result_bytes (without_extension index size name))) (length part)
    (omega (arith, result-long index size name)))

-- what stands before the results has eleven bytes, and is written where there is room for them
pub head-long : (n : ℕ) (from : Responder) → length from.address ≡ 4 → length (head_bytes n from) ≡ 11
unfolding head_bytes
head-long n from e = simp length-append (omega arith)

pub head-room : (n : ℕ) (from : Responder) (area : List ℕ) → 11 ≤ length area
    → head_into n from area ≡ over 0 (head_bytes n from) area
unfolding head_into
head-room n from area h = rw (le-leb 11 (length area) h)

-- the parts of a result, one behind another
pub result-stored : (index size : ℕ) (name part i s l z : List ℕ) (k m : ℕ) → 10 + length name ≤ length part
    → i ≡ little_bytes 4 index → s ≡ little_bytes 4 size → l ≡ name → z ≡ 0 ∷ 0 ∷ [] → k ≡ length name → m ≡ 2
    → put_mid (8 + length name) m (put_mid 8 k (put_mid 4 4 (put_mid 0 4 part i) s) l) z
    ≡ result_into (without_extension index size name) part
unfolding result_bytes
result-stored index size name part i s l z k m h a b c d e f =
    let la : length i ≡ 4 = ap length a in
    let lb : length s ≡ 4 = ap length b in
    let lc : length l ≡ k = ap length c ∙ sym e in
    let ld : length z ≡ m = ap length d ∙ sym f in
    let one = over-put 0 4 i part la in
    let two = put_next 4 4 i s part _ la lb one in
    let three = put_next 8 k (i ++ s) l part _ (simp length-append (omega arith)) lc two in
    put_next (8 + length name) m ((i ++ s) ++ l) z part _ (simp length-append (omega arith)) ld three
    ∙ rw (a, b, c, d) (ap (λ q. over 0 q part)
    (append_assoc (little_bytes 4 index ++ little_bytes 4 size) name (0 ∷ 0 ∷ [])))
    ∙ sym (has_room index size name part h)

-- what stands before the results
pub head-stored : (n : ℕ) (from : Responder) (part p a s : List ℕ) → length from.address ≡ 4 → 11 ≤ length part
    → p ≡ little_bytes 2 from.port → a ≡ from.address → s ≡ little_bytes 4 from.speed
    → put_mid 7 4 (put_mid 3 4 (put_mid 1 2 (set part 0 n) p) a) s ≡ head_into n from part
unfolding head_bytes
head-stored n from [] p a s l h c d e = absurd (omega arith)
head-stored n from (b ∷ part) p a s l h c d e =
    let lp : length p ≡ 2 = ap length c in
    let la : length a ≡ 4 = ap length d ∙ l in
    let ls : length s ≡ 4 = ap length e in
    let two = put_next 1 2 (n ∷ []) p (b ∷ part) _ refl lp refl in
    let three = put_next 3 4 ((n ∷ []) ++ p) a (b ∷ part) _ (ap suc lp) la two in
    put_next 7 4 (((n ∷ []) ++ p) ++ a) s (b ∷ part) _ (simp length-append (omega arith)) ls three
    ∙ rw (c, d, e) (ap (λ x. over 0 x (b ∷ part)) (append_assoc (n ∷ little_bytes 2 from.port) from.address (little_bytes 4 from.speed)))
    ∙ sym (head-room n from (b ∷ part) h)
