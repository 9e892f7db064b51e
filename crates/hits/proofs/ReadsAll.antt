-- The results of a payload, one call after another: all that stand there are handed out, then the end or 6; and every
-- payload is results, as many as it states or up to bytes that begin with none.
use Prim.Native.Nat.{ℕ, zero, suc, ◌+◌, ◌-◌, ◌≤◌, ◌<◌}
use mathlib.Core.Path.{◌≡◌, refl, sym, ap, subst, ◌∙◌}
use mathlib.Core.Bool.{Bool, true, false}
use mathlib.Core.Logic.{◌⊎◌, inl, inr}
use mathlib.Core.List.{List, [], ◌∷◌, ◌++◌, append_assoc}
use native.Mathlib.Omega.{arith}
use lib.Dec.{ltb}
use lib.ListN.{length, get_or, take, drop, length-append, length-take, length-drop, take-append-drop}
use lib.Seq.{drop-drop, drop-cons, get_or-append-add, drop_at}
use Rattle.laws.proofs.Refusals.{all_take}
use Rattle.laws.proofs.Writing.{drop-through}
use Rattle.hits.specs.declared.reading.HitCursor.{HitCursor}
use Rattle.hits.specs.Results.{HitResult, result_bytes, results_bytes, is_whole}
use Rattle.hits.specs.Reading.{cursor_at, beginning, hands}
use Rattle.hits.specs.Words.{AllTellable, NoResult, Marked, HandsOut, HandsAll, Holds, ReadBy}
use Rattle.hits.specs.Words.{ReadsAll, Splits}
use Rattle.hits.proofs.ResultLaws.{Small, drop-small, Begins, whole-begins, not-whole}
use Rattle.hits.proofs.HeadLaws.{begin-taken}
use Rattle.hits.proofs.NextCall.{small_bytes, marked-length, call-hands, call-ended, call_none}

-- ---- from any cursor on

-- where the results end: how many are left, and what stands there
pub record Through (p before : List ℕ) (c : HitCursor) (rs : List HitResult) (rest : List ℕ) : Type 0 where
  pub last : HitCursor
  pub handed : HandsAll p c rs last
  pub left : last.left + length rs ≡ c.left
  pub behind : drop last.at before ≡ rest

module _ (p before mark : List ℕ) (k : Marked p before mark) (rest : List ℕ) where
  pub through : (rs : List HitResult) (c : HitCursor) → AllTellable rs → drop c.at before ≡ results_bytes rs ++ rest
      → length rs ≤ c.left → Through p before c rs rest
  unfolding results_bytes
  through [] c t e h = record { last = c; handed = refl; left = omega arith; behind = e }
  through (r ∷ rs) c t e h =
      let here : drop c.at before ≡ result_bytes r ++ (results_bytes rs ++ rest) =
      e ∙ append_assoc (result_bytes r) (results_bytes rs) rest in
      let next = (hands c (result_bytes r ++ (results_bytes rs ++ rest))).cursor in
      let out : HandsOut p c r next =
      call-hands p before mark k c (omega arith) r (results_bytes rs ++ rest) t.0 here in
      let on : drop next.at before ≡ results_bytes rs ++ rest =
      ap (λ n. drop n before) out.behind
      ∙ drop-through c.at before (result_bytes r) (results_bytes rs ++ rest) here in
      let others = through rs next t.1 on (omega (arith, out.fewer)) in
      record {
        last = others.last;
        handed = (next, (out, others.handed));
        left = omega (arith, out.fewer, others.left);
        behind = others.behind;
      }

-- ---- from the first cursor on

module _ (p : List ℕ) (stated : ℕ) (rs : List HitResult) (rest mark : List ℕ) (q : Holds p stated rs rest mark) where
  abbrev before : List ℕ
  before = (stated ∷ q.head) ++ (results_bytes rs ++ rest)

  pub marked : Marked p before mark
  marked =
      record {
        is =
            q.is
            ∙ ap (λ l. (stated ∷ q.head) ++ l) (sym (append_assoc (results_bytes rs) rest mark))
            ∙ sym (append_assoc (stated ∷ q.head) (results_bytes rs ++ rest) mark);
        sixteen = q.sixteen;
        eleven = omega (arith, q.ten, length-append (stated ∷ q.head) (results_bytes rs ++ rest));
      }

  pub held-long : 27 ≤ length p
  held-long = omega (arith, marked-length p before mark marked, marked.eleven)

  start : (beginning p).cursor ≡ cursor_at 11 stated
  start = ap (λ h. h.cursor) (begin-taken p held-long) ∙ ap (λ l. cursor_at 11 (get_or l 0 0)) q.is

  read_by : length rs ≤ stated → ReadBy p stated rs rest
  read_by h =
      let first = drop_at (stated ∷ q.head) (results_bytes rs ++ rest) 11 (omega (arith, q.ten)) in
      let t = through p before mark marked rest rs (cursor_at 11 stated) q.tellable first h in
      record {
        last = t.last;
        handed = subst (λ c. HandsAll p c rs t.last) (sym start) t.handed;
        ended = (λ e. call-ended p before mark marked t.last (omega (arith, t.left)));
        refused =
            (λ b l n. call_none p before mark marked t.last b (omega (arith, t.left))
            (subst NoResult (sym t.behind) n));
      }

pub reads_all : ReadsAll
reads_all p stated rs rest mark q h = read_by p stated rs rest mark q h

-- ---- every payload

-- bytes as results, at most n of them
pub record Parted (n : ℕ) (d : List ℕ) : Type 0 where
  pub results : List HitResult
  pub rest : List ℕ
  pub tellable : AllTellable results
  pub is : d ≡ results_bytes results ++ rest
  pub all : (length results ≡ n) ⊎ ((length results < n) × NoResult rest)

rest-small : (d : List ℕ) (b : Begins d) → Small d → Small b.rest
rest-small d b w i =
    let e : get_or d (length (result_bytes b.result) + i) 0 ≡ get_or b.rest i 0 =
    ap (λ l. get_or l (length (result_bytes b.result) + i) 0) b.is
    ∙ get_or-append-add (result_bytes b.result) b.rest i 0 in
    omega (arith, w (length (result_bytes b.result) + i))

one_more : (n : ℕ) (rs : List HitResult) (rest : List ℕ) → (length rs ≡ n) ⊎ ((length rs < n) × NoResult rest)
    → (suc (length rs) ≡ suc n) ⊎ ((suc (length rs) < suc n) × NoResult rest)
one_more n rs rest (inl e) = inl (ap suc e)
one_more n rs rest (inr q) = let l = q.0 in inr (omega arith, q.1)

part-on : (n : ℕ) (d : List ℕ) → Small d → ((e : List ℕ) → Small e → Parted n e) → (w : Bool) → is_whole d ≡ w
    → Parted (suc n) d
unfolding results_bytes
part-on n d s on false e =
    record { results = []; rest = d; tellable = tt; is = refl; all = inr (omega arith, not-whole d e) }
part-on n d s on true e =
    let b = whole-begins d s e in
    let t = on b.rest (rest-small d b s) in
    record {
      results = b.result ∷ t.results;
      rest = t.rest;
      tellable = (b.tellable, t.tellable);
      is =
          b.is
          ∙ ap (λ l. result_bytes b.result ++ l) t.is
          ∙ sym (append_assoc (result_bytes b.result) (results_bytes t.results) t.rest);
      all = one_more n t.results t.rest t.all;
    }

parted : (n : ℕ) (d : List ℕ) → Small d → Parted n d
unfolding results_bytes
parted zero d s = record { results = []; rest = d; tellable = tt; is = refl; all = inl refl }
parted (suc n) d s = part-on n d s (parted n) (is_whole d) refl

pub splits : Splits
splits p b h =
    let n = length p - 16 in
    let front = take n p in
    let mark = drop n p in
    let long : length front ≡ n = omega (arith, length-take n p) in
    let small : Small front = small_bytes front (all_take (λ b. ltb b 256) n p b) in
    let stated = get_or front 0 0 in
    let head = take 10 (drop 1 front) in
    let body = parted stated (drop 11 front) (drop-small 11 front small) in
    let behind : front ≡ (stated ∷ head) ++ (results_bytes body.results ++ body.rest) =
    drop-cons front 0 0 (omega arith)
    ∙ ap (λ l. stated ∷ l)
    (sym (take-append-drop 10 (drop 1 front)) ∙ ap (λ l. head ++ l) (drop-drop 10 1 front ∙ body.is)) in
    record {
      stated = stated;
      results = body.results;
      rest = body.rest;
      mark = mark;
      holds =
          record {
            head = head;
            is =
                sym (take-append-drop n p)
                ∙ ap (λ l. l ++ mark) behind
                ∙ append_assoc (stated ∷ head) (results_bytes body.results ++ body.rest) mark
                ∙ ap (λ l. (stated ∷ head) ++ l) (append_assoc (results_bytes body.results) body.rest mark);
            ten = simp (length-take, length-drop) (omega arith);
            sixteen = omega (arith, length-drop n p);
            tellable = body.tellable;
          };
      all = body.all;
    }
